-- An instruction on two lists of values that are related one by one. Assumes nothing.
use mathlib.Core.List.{List}
use Prim.Native.Nat.{ℕ}
use lib.ListN.{length}
use Rattle.rules.specs.Operation.{Alike, constants, negations, sums, differences, products, coefficients, reciprocals}
use Rattle.formulas.specs.declared.Instruction.{Instruction}
use Rattle.formulas.specs.declared.Instruction.TheVariants.{Constant, Negate, Add, Subtract, Multiply, Coefficient, Reciprocal}
use Rattle.formulas.specs.Formula.{Smaller}
use Rattle.formulas.specs.Run.{with_values}
use Rattle.lists.specs.Joined.{Rel}
use Rattle.lists.proofs.Joined.{rel_at}

module _ {A B : Type 0} {R : A → B → Type 0} where
  pub with_values_alike : (F : ℕ) {vs : List A} {ws : List B} (d : A) (e : B) → Rel R vs ws → (i : Instruction) → Smaller F (length vs) i
      → Alike R (with_values d vs i) (with_values e ws i)
  with_values_alike F d e r (Constant c) s = constants c
  with_values_alike F d e r (Negate i) s = negations (rel_at r i d e s)
  with_values_alike F d e r (Add i j) s = sums (rel_at r i d e s.0) (rel_at r j d e s.1)
  with_values_alike F d e r (Subtract i j) s = differences (rel_at r i d e s.0) (rel_at r j d e s.1)
  with_values_alike F d e r (Multiply i j) s = products (rel_at r i d e s.0) (rel_at r j d e s.1)
  with_values_alike F d e r (Coefficient c m) s = coefficients c m
  with_values_alike F d e r (Reciprocal i) s = reciprocals (rel_at r i d e s.1)
