-- Document 01: "Exact arithmetic takes the same instructions on fractions, a constant c being c/Q, with no rounding and
-- no limit." Request b: it "may now take, for each such constant, any fraction inside its margin".
-- Request e: it "takes the fraction's reciprocal".
use Rattle.std.specs.Prelude.{◌≡◌, ℕ, ◌*◌, ◌≤◌, ℤ, pos, nat_abs, neg_ℤ, ◌+ℤ◌, ◌-ℤ◌, ◌*ℤ◌}
use Rattle.std.proofs.Common.{mul-pos, pow_pos}
use Rattle.rules.specs.Numbers.{Q}
use Rattle.rules.specs.Values.{Fraction, Contains}
use Rattle.rules.specs.Reciprocals.{sign}
use Rattle.rules.specs.Balls.{ball}
use Rattle.rules.specs.Operation.{Operation, constant, negate, add, subtract, multiply, coefficient, reciprocal}

-- n over the product of two fractions' denominators
abbrev pub over_both : ℤ → Fraction → Fraction → Fraction
over_both n x y =
    record {
      numerator = n;
      denominator = x.denominator * y.denominator;
      at_least_one = mul-pos x.at_least_one y.at_least_one;
    }

abbrev pub across : Fraction → Fraction → ℤ
across x y = x.numerator *ℤ pos y.denominator

-- the reciprocal of n/d is d/n, which is there where n is not 0; a sign below zero goes to the numerator
abbrev pub upside_down : (x : Fraction) → 1 ≤ nat_abs x.numerator → Fraction
upside_down x n =
    record {
      numerator = sign x.numerator *ℤ pos x.denominator;
      denominator = nat_abs x.numerator;
      at_least_one = n;
    }

-- x is an exact result of the instruction; a reciprocal of 0 has none
abbrev pub Exact : ℕ → Operation Fraction → Fraction → Type 0
Exact F (constant c) x = x ≡ record { numerator = c; denominator = Q F; at_least_one = pow_pos F }
Exact F (negate a) x =
    x ≡ record { numerator = neg_ℤ a.numerator; denominator = a.denominator; at_least_one = a.at_least_one }
Exact F (add a b) x = x ≡ over_both (across a b +ℤ across b a) a b
Exact F (subtract a b) x = x ≡ over_both (across a b -ℤ across b a) a b
Exact F (multiply a b) x = x ≡ over_both (a.numerator *ℤ b.numerator) a b
Exact F (coefficient c r) x = Contains F (ball c r) x
Exact F (reciprocal a) x = (n : 1 ≤ nat_abs a.numerator) × (x ≡ upside_down a n)
