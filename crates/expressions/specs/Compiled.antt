-- The instructions of a text, and exact arithmetic on both.
use Rattle.std.specs.Prelude.{◌≡◌, Bool, true, cond, List, [], ◌∷◌, ◌++◌, ℕ, ◌+◌, ◌^◌, ◌<◌, leb, pos, nat_abs, neg_ℤ, ◌+ℤ◌, ◌-ℤ◌, ◌*ℤ◌, length, get_or}
use Rattle.std.proofs.Math.Nat.{one-le-pow}
use Rattle.std.proofs.Common.{zero-lt-suc}
use Rattle.rules.specs.Numbers.{M}
use Rattle.rules.specs.Values.{Fraction}
use Rattle.rules.specs.Exact.{over_both, across}
use Rattle.numerals.specs.Units.{units, is_exact}
use Rattle.formulas.specs.declared.Instruction.{Instruction}
use Rattle.formulas.specs.declared.Instruction.TheVariants.{Constant, Negate, Add, Subtract, Multiply, Coefficient, Reciprocal}
use Rattle.formulas.specs.ExactRun.{nought, ExactRun}
use Rattle.expressions.specs.Tree.{Tree, input, written, negated, sum, difference, product}

-- "code 0 when exact, else code 5 with margin 1"
abbrev pub number_as : Bool → ℕ → Instruction
number_as exact c = cond exact (Constant (pos c)) (Coefficient (pos c) 1)

abbrev pub number_instruction : ℕ → ℕ → ℕ → Instruction
number_instruction F v e = number_as (is_exact F v e) (units F v e)

-- a constant is permitted: its reach is at most M; no other instruction of a text has a number to test
abbrev pub constant_fits : Instruction → Bool
constant_fits (Constant c) = leb (nat_abs c) M
constant_fits (Negate i) = true
constant_fits (Add i j) = true
constant_fits (Subtract i j) = true
constant_fits (Multiply i j) = true
constant_fits (Coefficient c r) = leb (nat_abs c + r) M
constant_fits (Reciprocal i) = true

-- instructions, and the number of the value that they are for
pub record Compiled : Type 0 where
  pub program : List Instruction
  pub result : ℕ

-- "left operand before right, both before their operator": b's instructions follow a's
abbrev pub joined : (ℕ → ℕ → Instruction) → ℕ → Compiled → Compiled → Compiled
joined op n a b =
    record {
      program = a.program ++ (b.program ++ op a.result b.result ∷ []);
      result = n + length a.program + length b.program;
    }

-- "Each number, minus and operator is one instruction": those of a tree, the first of which makes value n
abbrev pub compiled : ℕ → Tree → ℕ → Compiled
compiled F (input i) n = record { program = []; result = i }
compiled F (written v e) n = record { program = number_instruction F v e ∷ []; result = n }
compiled F (negated t) n =
    let a = compiled F t n in
    record { program = a.program ++ Negate a.result ∷ []; result = n + length a.program }
compiled F (sum t u) n = let a = compiled F t n in joined Add n a (compiled F u (n + length a.program))
compiled F (difference t u) n = let a = compiled F t n in joined Subtract n a (compiled F u (n + length a.program))
compiled F (product t u) n = let a = compiled F t n in joined Multiply n a (compiled F u (n + length a.program))

-- exact arithmetic on the tree, "taking numbers as written", ρ being the letters' fractions
abbrev pub minus : Fraction → Fraction
minus x = record { numerator = neg_ℤ x.numerator; denominator = x.denominator; at_least_one = x.at_least_one }

abbrev pub plus : Fraction → Fraction → Fraction
plus x y = over_both (across x y +ℤ across y x) x y

abbrev pub less : Fraction → Fraction → Fraction
less x y = over_both (across x y -ℤ across y x) x y

abbrev pub by : Fraction → Fraction → Fraction
by x y = over_both (x.numerator *ℤ y.numerator) x y

abbrev pub as_written : ℕ → ℕ → Fraction
as_written v e = record { numerator = pos v; denominator = 10 ^ e; at_least_one = one-le-pow e 10 (zero-lt-suc 9) }

abbrev pub worth : (ℕ → Fraction) → Tree → Fraction
worth ρ (input i) = ρ i
worth ρ (written v e) = as_written v e
worth ρ (negated t) = minus (worth ρ t)
worth ρ (sum t u) = plus (worth ρ t) (worth ρ u)
worth ρ (difference t u) = less (worth ρ t) (worth ρ u)
worth ρ (product t u) = by (worth ρ t) (worth ρ u)

-- two fractions are one number
pub record Same (x y : Fraction) : Type 0 where
  pub crosswise : x.numerator *ℤ pos y.denominator ≡ y.numerator *ℤ pos x.denominator

-- every letter is one of the first m, and every number has at most nine digits
abbrev pub Proper : ℕ → Tree → Type 0
Proper m (input i) = i < m
Proper m (written v e) = (v < 10 ^ 9) × (e < 9)
Proper m (negated t) = Proper m t
Proper m (sum t u) = Proper m t × Proper m u
Proper m (difference t u) = Proper m t × Proper m u
Proper m (product t u) = Proper m t × Proper m u

-- exact arithmetic on the tree is among the exact results of its instructions, where xs are the inputs
pub record Among (F : ℕ) (xs : List Fraction) (t : Tree) : Type 0 where
  pub all : List Fraction
  pub runs : ExactRun F (compiled F t (length xs)).program xs all
  pub is_worth : Same (get_or all (compiled F t (length xs)).result nought) (worth (λ i. get_or xs i nought) t)
