-- A number that is not negative is read as request h reads it: the same count of units, and 1 more in the margin exactly where that is not
-- exact. Assumes nothing.
use mathlib.Core.Path.{◌≡◌, refl, sym, ◌∙◌, ap, ap₂}
use mathlib.Core.Bool.{Bool, true, false, cond}
use Prim.Native.Nat.{ℕ, ◌+◌, ◌*◌, ◌/◌, ◌%◌, ◌≤◌}
use native.Mathlib.Nat.{zero-add, div-add-mod', mul-mod_left}
use native.Mathlib.Omega.{arith}
use borrow.Author.Tests.{eqb-true, eqb-false, eq-eqb, ne_eqb}
use lib.Dec.{eqb}
use lib.IntN.{pos}
use Rattle.rules.specs.Numbers.{Q, ceiling}
use Rattle.rules.specs.Balls.{ball}
use Rattle.rules.proofs.Rounding.{ceiling_at_most}
use Rattle.numerals.specs.Units.{units, is_exact}
use Rattle.numerals.proofs.Rounding.{units_exact}
use Rattle.numerals.specs.Decimals.{decimal}
use Rattle.decimals.specs.Units.{tens}
use Rattle.reciprocals.specs.Nearest.{nearest, unless_divides}
use Rattle.decimals.specs.In.{in_centre, in_more, into}
use Rattle.decimals.proofs.Units.{tens_pos}

module _ (F v e : ℕ) where
  pub units_centre : in_centre F (decimal (pos v) e) ≡ pos (units F v e)
  unfolding nearest units
  units_centre = refl

  -- the count is whole exactly where the division leaves nothing
  divides_exact : v * Q F % tens e ≡ 0 → units F v e * tens e ≡ v * Q F
  divides_exact k =
      let whole : v * Q F / tens e * tens e ≡ v * Q F = omega (arith, div-add-mod' (v * Q F) (tens e)) in
      ap (λ (n : ℕ). n * tens e) (units_exact F v e (v * Q F / tens e) whole) ∙ whole

  exact_divides : units F v e * tens e ≡ v * Q F → v * Q F % tens e ≡ 0
  exact_divides k = ap (λ (n : ℕ). n % tens e) (sym k) ∙ mul-mod_left (units F v e) (tens e)

  same_test : eqb (v * Q F % tens e) 0 ≡ is_exact F v e
  same_test = by_test (eqb (v * Q F % tens e) 0) refl
    where
      by_test : (b : Bool) → eqb (v * Q F % tens e) 0 ≡ b → b ≡ is_exact F v e
      by_test true k = sym (eq-eqb _ (v * Q F) (divides_exact (eqb-true (v * Q F % tens e) 0 k)))
      by_test false k = sym (ne_eqb _ (v * Q F) (λ w. eqb-false (v * Q F % tens e) 0 k (exact_divides w)))

  pub exact_margin : in_more F (decimal (pos v) e) ≡ cond (is_exact F v e) 0 1
  unfolding unless_divides
  exact_margin = ap (λ (b : Bool). cond {A = ℕ} b 0 1) same_test

  -- so a number without a margin is the ball that request h makes of it
  pub one_rule : (j : ℕ) → into F (decimal (pos v) e) (decimal 0 j) ≡ ball (pos (units F v e)) (cond (is_exact F v e) 0 1)
  one_rule j = ap₂ ball units_centre (ap₂ (λ (m n : ℕ). m + n) none exact_margin ∙ zero-add (cond (is_exact F v e) 0 1))
    where
      none : ceiling (0 * Q F) (tens j) ≡ 0
      none = let l : ceiling (0 * Q F) (tens j) ≤ 0 = ceiling_at_most 0 (tens_pos j) (omega arith) in omega arith
