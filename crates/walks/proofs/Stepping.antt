-- One instruction on the values that its operands name: which values those are, and what the rule makes of them. Assumes nothing.
use mathlib.Core.Path.{◌≡◌, sym, ◌∙◌, ap, ap₂, subst}
use Prim.Native.Nat.{ℕ, ◌+◌, ◌^◌, ◌≤◌, ◌<◌}
use native.Mathlib.Omega.{arith}
use lib.IntN.{ℤ, nat_abs}
use Rattle.whole.proofs.Machine.{back, back_is}
use Rattle.lists.proofs.Each.{all_at}
use Rattle.refusals.specs.Answer.{Answer}
use Rattle.rules.specs.Numbers.{M}
use Rattle.rules.specs.Values.{Allowed}
use Rattle.rules.specs.Reciprocals.{top_reciprocal_scale}
use Rattle.rules.specs.Steps.{AtEveryScale}
use Rattle.rules.specs.Operation.{constant, negate, add, subtract, multiply, coefficient, reciprocal}
use Rattle.rules.specs.Plain.{plain_rule}
use Rattle.formulas.specs.declared.Instruction.{Instruction}
use Rattle.formulas.specs.declared.Instruction.TheVariants.{Constant, Negate, Add, Subtract, Multiply, Coefficient, Reciprocal}
use Rattle.formulas.specs.Formula.{Smaller}
use Rattle.formulas.specs.Run.{with_values}
use Rattle.formulas.specs.Kinds.{Kind, Stands}
use Rattle.formulas.specs.Lawful.{Lawful}
use Rattle.walks.specs.Walks.{Named, Operand, Steppable, Stepped}

module _ (K : Kind) {F made : ℕ} {i : Instruction} {l : K.Lists} (p : Steppable K F i made l) where
  smaller_as : {j : Instruction} → i ≡ j → Smaller F made j
  smaller_as e = subst (Smaller F made) e p.smaller

  constant_allowed : {c : ℤ} → i ≡ Constant c → Allowed c
  constant_allowed e = smaller_as e

  coefficient_allowed : {c : ℤ} {r : ℕ} → i ≡ Coefficient c r → Allowed c
  coefficient_allowed {c} {r} e = let is_ball : nat_abs c + r ≤ M = smaller_as e in omega arith

  pub coefficient_small : {c : ℤ} {r : ℕ} → i ≡ Coefficient c r → r < 2 ^ 63
  coefficient_small {c} {r} e = let is_ball : nat_abs c + r ≤ M = smaller_as e in omega arith

  pub negate_named : {a : ℕ} → i ≡ Negate a → Named K made a l
  negate_named e = record { below = smaller_as e; room = p.room; legal = p.legal }

  pub add_first : {a b : ℕ} → i ≡ Add a b → Named K made a l
  add_first e = record { below = (smaller_as e).0; room = p.room; legal = p.legal }

  pub add_second : {a b : ℕ} → i ≡ Add a b → Named K made b l
  add_second e = record { below = (smaller_as e).1; room = p.room; legal = p.legal }

  pub subtract_first : {a b : ℕ} → i ≡ Subtract a b → Named K made a l
  subtract_first e = record { below = (smaller_as e).0; room = p.room; legal = p.legal }

  pub subtract_second : {a b : ℕ} → i ≡ Subtract a b → Named K made b l
  subtract_second e = record { below = (smaller_as e).1; room = p.room; legal = p.legal }

  pub multiply_first : {a b : ℕ} → i ≡ Multiply a b → Named K made a l
  multiply_first e = record { below = (smaller_as e).0; room = p.room; legal = p.legal }

  pub multiply_second : {a b : ℕ} → i ≡ Multiply a b → Named K made b l
  multiply_second e = record { below = (smaller_as e).1; room = p.room; legal = p.legal }

  pub reciprocal_named : {a : ℕ} → i ≡ Reciprocal a → Named K made a l
  reciprocal_named e = record { below = (smaller_as e).1; room = p.room; legal = p.legal }

  pub reciprocal_scaled : {a : ℕ} → i ≡ Reciprocal a → F ≤ top_reciprocal_scale
  reciprocal_scaled e = (smaller_as e).0

-- a value that an operand names
module _ {K : Kind} (law : Lawful K) {made a : ℕ} {l : K.Lists} {x : K.Value} where
  pub operand_of : Named K made a l → Stands K a l x → Operand K made a l x
  operand_of n s =
      let e = s.is made n.below n.room in
      record {
        is = e;
        is_legal = subst K.Legal (sym e) (all_at n.legal a K.nothing (omega (arith, law.front_many made l n.room, n.below)));
      }

  pub operand_legal : Named K made a l → Stands K a l x → K.Legal x
  operand_legal n s = (operand_of n s).is_legal

pub named_inside : {K : Kind} {made a : ℕ} {l : K.Lists} → Named K made a l → a < K.room l
named_inside n = omega (arith, n.below, n.room)

-- a constant as the code reads it is the constant
read_back : (c : ℤ) → Allowed c → back c ≡ c
read_back c l = back_is c (small l)
  where
    small : {n : ℕ} → n ≤ M → n < 2 ^ 63
    small l = omega arith

-- the rule on the named values is the rule on the instruction with its values
module _ (K : Kind) {F made : ℕ} {i : Instruction} {l : K.Lists} {got : Answer K.Value} where
  did : {j : Instruction} → i ≡ j → got ≡ K.rule F (with_values K.nothing (K.front made l) j) → Stepped K F i made l got
  did e g = record { by_rule = g ∙ ap (λ (k : Instruction). K.rule F (with_values K.nothing (K.front made l) k)) (sym e) }

  pub did_constant : {c : ℤ} → Steppable K F i made l → i ≡ Constant c → AtEveryScale K.rule (constant (back c)) got → Stepped K F i made l got
  did_constant {c} p e g = did e (g.every F ∙ ap (λ (z : ℤ). K.rule F (constant z)) (read_back c (constant_allowed K p e)))

  pub did_negate : {a : ℕ} {x : K.Value} → i ≡ Negate a → Operand K made a l x → AtEveryScale K.rule (negate x) got → Stepped K F i made l got
  did_negate e p g = did e (g.every F ∙ ap (λ (z : K.Value). K.rule F (negate z)) p.is)

  pub did_add : {a b : ℕ} {x y : K.Value} → i ≡ Add a b → Operand K made a l x → Operand K made b l y → AtEveryScale K.rule (add x y) got
      → Stepped K F i made l got
  did_add e p q g = did e (g.every F ∙ ap₂ (λ (y z : K.Value). K.rule F (add y z)) p.is q.is)

  pub did_subtract : {a b : ℕ} {x y : K.Value} → i ≡ Subtract a b → Operand K made a l x → Operand K made b l y
      → AtEveryScale K.rule (subtract x y) got → Stepped K F i made l got
  did_subtract e p q g = did e (g.every F ∙ ap₂ (λ (y z : K.Value). K.rule F (subtract y z)) p.is q.is)

  pub did_multiply : {a b : ℕ} {x y : K.Value} → i ≡ Multiply a b → Operand K made a l x → Operand K made b l y → got ≡ K.rule F (multiply x y)
      → Stepped K F i made l got
  did_multiply e p q g = did e (g ∙ ap₂ (λ (y z : K.Value). K.rule F (multiply y z)) p.is q.is)

  pub did_coefficient : {c : ℤ} {r : ℕ} → Steppable K F i made l → i ≡ Coefficient c r → AtEveryScale K.rule (coefficient (back c) r) got
      → Stepped K F i made l got
  did_coefficient {c} {r} p e g = did e (g.every F ∙ ap (λ (z : ℤ). K.rule F (coefficient z r)) (read_back c (coefficient_allowed K p e)))

  pub did_reciprocal : {a : ℕ} {x : K.Value} → i ≡ Reciprocal a → Operand K made a l x → got ≡ K.rule F (reciprocal x) → Stepped K F i made l got
  did_reciprocal e p g = did e (g ∙ ap (λ (z : K.Value). K.rule F (reciprocal z)) p.is)

-- a plain value has no margin: the rule makes the same of a coefficient and of its centre as a constant
pub bare_coefficient : {c : ℤ} {r : ℕ} {got : Answer ℤ} → AtEveryScale plain_rule (constant c) got → AtEveryScale plain_rule (coefficient c r) got
bare_coefficient g = record { every = g.every }
