-- Every fraction within the decimal margin of the decimal number is inside the ball that is read. Assumes nothing.
use mathlib.Core.Path.{◌≡◌, refl, ◌∙◌, ap}
use mathlib.Core.Bool.{Bool, true, false, cond}
use mathlib.Core.List.{[], ◌∷◌}
use Prim.Native.Nat.{ℕ, suc, ◌+◌, ◌*◌, ◌/◌, ◌%◌, ◌≤◌, ◌<◌}
use native.Mathlib.Nat.{mul-le-mul_right, div-add-mod'}
use native.Mathlib.Omega.{arith}
use borrow.Author.Tests.{eqb-true}
use lib.Dec.{eqb}
use lib.IntN.{ℤ, pos, negsuc, neg_ℤ, nat_abs, ◌+ℤ◌, ◌-ℤ◌, ◌*ℤ◌}
use lib.Signed.{shr_z}
use Rattle.rules.specs.Numbers.{Q}
use Rattle.rules.specs.Values.{Fraction, Contains}
use Rattle.rules.proofs.Rounding.{ceiling_covers}
use Rattle.whole.proofs.Floor.{rest, rest_lt, floor_split, floor_unique}
use Rattle.whole.proofs.Ring.{ring, neg, lit, ◌⊕◌, ◌⊖◌, ◌⊗◌, x₀, x₁, x₂, x₃}
use Rattle.whole.proofs.Size.{size_by, size_mul, size_gap}
use Rattle.numerals.specs.declared.Decimal.{Decimal}
use Rattle.decimals.specs.Units.{tens, Within}
use Rattle.reciprocals.specs.Nearest.{nearest, unless_divides}
use Rattle.decimals.specs.In.{in_centre, in_margin, into}
use Rattle.decimals.proofs.Units.{tens_pos, moved, around_contains, within_around}

-- the nearest whole number is at most a half away: 2·|z − nearest·t| is at most t
module _ (z : ℤ) (t : ℕ) (some : 0 < t) where
  pub nearest_half : nat_abs (pos 2 *ℤ (z -ℤ nearest z t *ℤ pos t)) ≤ t
  unfolding nearest
  nearest_half = size_by twice (size_gap left t (omega (arith, rest_lt (pos 2 *ℤ z +ℤ pos t) two)) (omega arith))
    where
      k : ℤ
      k = shr_z (pos 2 *ℤ z +ℤ pos t) (2 * t)

      left : ℕ
      left = rest (pos 2 *ℤ z +ℤ pos t) (2 * t)

      two : 0 < 2 * t
      two = omega arith

      twice : pos 2 *ℤ (z -ℤ k *ℤ pos t) ≡ pos left -ℤ pos t
      twice =
          ring (z ∷ k ∷ pos t ∷ []) (lit (pos 2) ⊗ (x₀ ⊖ x₁ ⊗ x₂)) (lit (pos 2) ⊗ x₀ ⊕ x₂ ⊖ x₁ ⊗ (lit (pos 2) ⊗ x₂) ⊖ x₂) refl
          ∙ ap (λ (w : ℤ). w -ℤ k *ℤ pos (2 * t) -ℤ pos t) (floor_split (pos 2 *ℤ z +ℤ pos t) two)
          ∙ ring (k ∷ pos (2 * t) ∷ pos left ∷ pos t ∷ []) (x₀ ⊗ x₁ ⊕ x₂ ⊖ x₀ ⊗ x₁ ⊖ x₃) (x₂ ⊖ x₃) refl

  pub nearest_loss : nat_abs (z -ℤ nearest z t *ℤ pos t) ≤ t
  nearest_loss = omega (arith, nearest_half, size_mul (pos 2) (z -ℤ nearest z t *ℤ pos t))

-- it is exact at a multiple
pub nearest_whole : (k : ℤ) (t : ℕ) → 0 < t → nearest (k *ℤ pos t) t ≡ k
unfolding nearest
nearest_whole k t some =
    ap (λ (w : ℤ). shr_z w (2 * t)) (ring (k ∷ pos t ∷ []) (lit (pos 2) ⊗ (x₀ ⊗ x₁) ⊕ x₁) (x₀ ⊗ (lit (pos 2) ⊗ x₁) ⊕ x₁) refl)
    ∙ floor_unique k t (omega arith)

-- a number whose size is divisible is a multiple
multiple : (z : ℤ) (t : ℕ) → nat_abs z % t ≡ 0 → (k : ℤ) × (z ≡ k *ℤ pos t)
multiple (pos n) t e = (pos (n / t), ap pos (omega (arith, div-add-mod' n t)))
multiple (negsuc n) t e =
    (neg_ℤ (pos (suc n / t)), ap (λ (m : ℕ). neg_ℤ (pos m)) whole ∙ ring (pos (suc n / t) ∷ pos t ∷ []) (neg (x₀ ⊗ x₁)) (neg x₀ ⊗ x₁) refl)
  where
    whole : suc n ≡ suc n / t * t
    whole = omega (arith, div-add-mod' (suc n) t)

pub unless_most : (z : ℤ) (t : ℕ) → unless_divides z t ≤ 1
unfolding unless_divides
unless_most z t = by_test (eqb (nat_abs z % t) 0)
  where
    by_test : (b : Bool) → cond {A = ℕ} b 0 1 ≤ 1
    by_test true = omega arith
    by_test false = omega arith

-- what the centre lost is covered by what the margin adds for it
pub nearest_covered : (z : ℤ) (t : ℕ) → 0 < t → nat_abs (z -ℤ nearest z t *ℤ pos t) ≤ unless_divides z t * t
unfolding unless_divides
nearest_covered z t some = by_test (eqb (nat_abs z % t) 0) refl
  where
    by_test : (b : Bool) → eqb (nat_abs z % t) 0 ≡ b → nat_abs (z -ℤ nearest z t *ℤ pos t) ≤ cond b 0 1 * t
    by_test true e =
        let m = multiple z t (eqb-true (nat_abs z % t) 0 e) in
        size_by
        (ap (λ (w : ℤ). w -ℤ nearest w t *ℤ pos t) m.1
        ∙ ap (λ (k : ℤ). m.0 *ℤ pos t -ℤ k *ℤ pos t) (nearest_whole m.0 t some)
        ∙ ring ((m.0 *ℤ pos t) ∷ []) (x₀ ⊖ x₀) (lit (pos 0)) refl)
        (omega arith)
    by_test false e = omega (arith, nearest_loss z t some)

pub in_contains : (F : ℕ) {y : Decimal ℤ} {m : Decimal ℕ} {x : Fraction} → Within y m x → Contains F (into F y m) x
in_contains F {y} {m} p = around_contains F (moved (tens_pos y.places) (tens_pos m.places) covers (within_around p))
  where
    t : ℕ
    t = tens y.places

    u : ℕ
    u = tens m.places

    covers : m.count * Q F * t + nat_abs (y.count *ℤ pos (Q F) -ℤ in_centre F y *ℤ pos t) * u ≤ in_margin F y m * (t * u)
    covers =
        omega (
          arith,
          mul-le-mul_right t (ceiling_covers (m.count * Q F) (tens_pos m.places)),
          mul-le-mul_right u (nearest_covered (y.count *ℤ pos (Q F)) t (tens_pos y.places)),
        )
