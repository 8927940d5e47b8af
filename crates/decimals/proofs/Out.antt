-- A ball in decimals keeps every fraction that the ball contains, with the least margin for its centre, which is 0 only where nothing was
-- lost; and every number on the way is below 2^62. Assumes nothing.
use mathlib.Core.Path.{◌≡◌, refl, ◌∙◌, ap}
use mathlib.Core.List.{[], ◌∷◌}
use Prim.Native.Nat.{ℕ, zero, suc, ◌+◌, ◌-◌, ◌*◌, ◌^◌, ◌≤◌, ◌<◌}
use native.Mathlib.Nat.{le_refl, le_of_eq, mul-le-mul, mul-le-mul_right, le_of_mul-le-mul_right}
use native.Mathlib.Omega.{arith}
use lib.IntN.{ℤ, pos, negsuc, nat_abs, ◌+ℤ◌, ◌-ℤ◌, ◌*ℤ◌, +ℤ_idl, +ℤ_idr}
use lib.Pow.{pow_pos}
use Rattle.rules.specs.declared.Ball.{Ball}
use Rattle.rules.specs.Numbers.{Q, h, M, Up}
use Rattle.rules.specs.Values.{Fraction, Contains}
use Rattle.rules.proofs.Rounding.{round_loss, round_exact, up_covers, ceiling_at_most}
use Rattle.rounding.proofs.Linear.{centre_size}
use Rattle.rounding.proofs.Products.{product_size, round_size}
use Rattle.rounding.proofs.Units.{unit_bound, half_bound, up_size}
use Rattle.whole.proofs.Ring.{ring, neg, ◌⊕◌, ◌⊖◌, ◌⊗◌, x₀, x₁, x₂, x₃, x₄}
use Rattle.whole.proofs.Size.{size_by, size_add, size_neg, size_zero}
use Rattle.numerals.specs.Decimals.{decimal}
use Rattle.decimals.specs.Units.{tens, Within}
use Rattle.decimals.specs.Out.{Countable, out_centre, out_lost, out_doubt, out, out_number, out_margin, NothingLost}
use Rattle.decimals.proofs.Units.{tens_pos, tens_small, from_around, moved, contains_around, within_around, around_within}

-- every fraction inside the ball is within the decimal margin of the decimal centre
pub out_near : (F d : ℕ) {b : Ball} {x : Fraction} → Contains F b x → Within (out_number F d b) (out_margin F d b) x
out_near F d {b} p = around_within (moved (pow_pos F) (pow_pos F) covers (contains_around F p))
  where
    covers : b.margin * tens d * Q F + nat_abs (out_lost F d b.centre) * Q F ≤ (out F d b).margin * (Q F * Q F)
    covers = omega (arith, mul-le-mul_right (Q F) (up_covers F (out_doubt F d b)))

-- the ball's two ends, (c + r)/Q and (c − r)/Q, which it contains
abbrev end : ℕ → ℤ → Fraction
end F n = record { numerator = n; denominator = Q F; at_least_one = pow_pos F }

module _ (F : ℕ) (b : Ball) where
  upper_inside : Contains F b (end F (b.centre +ℤ pos b.margin))
  upper_inside =
      record {
        near = size_by (ring (b.centre ∷ pos b.margin ∷ pos (Q F) ∷ []) ((x₀ ⊕ x₁) ⊗ x₂ ⊖ x₀ ⊗ x₂) (x₁ ⊗ x₂) refl) (le_refl (b.margin * Q F));
      }

  lower_inside : Contains F b (end F (b.centre -ℤ pos b.margin))
  lower_inside =
      record {
        near =
            size_by (ring (b.centre ∷ pos b.margin ∷ pos (Q F) ∷ []) ((x₀ ⊖ x₁) ⊗ x₂ ⊖ x₀ ⊗ x₂) (neg (x₁ ⊗ x₂)) refl)
            (le_of_eq (size_neg (pos (b.margin * Q F))));
      }

-- one of the two ends of an interval is as far from 0 as its centre and its radius together
far_end : (z : ℤ) (y : ℕ) {n : ℕ} → nat_abs (z +ℤ pos y) ≤ n → nat_abs (z -ℤ pos y) ≤ n → nat_abs z + y ≤ n
far_end (pos a) y above below = above
far_end (negsuc a) zero above below = omega (arith, ap nat_abs (+ℤ_idr (negsuc a)))
far_end (negsuc a) (suc y) above below = omega arith

-- the margin is the least for that centre
pub out_least : (F d : ℕ) (b : Ball) (n : ℕ) → ((x : Fraction) → Contains F b x → Within (out_number F d b) (decimal n d) x) → (out F d b).margin ≤ n
unfolding Up
out_least F d b n all =
    ceiling_at_most n (pow_pos F) (omega (arith, far_end (out_lost F d b.centre) (b.margin * tens d) {n = n * Q F} high low))
  where
    high : nat_abs (out_lost F d b.centre +ℤ pos (b.margin * tens d)) ≤ n * Q F
    high =
        size_by
        (ring (b.centre ∷ pos b.margin ∷ pos (tens d) ∷ out_centre F d b.centre ∷ pos (Q F) ∷ [])
        (x₀ ⊗ x₂ ⊖ x₃ ⊗ x₄ ⊕ x₁ ⊗ x₂) ((x₀ ⊕ x₁) ⊗ x₂ ⊖ x₃ ⊗ x₄) refl)
        (from_around (tens_pos d) (within_around (all (end F (b.centre +ℤ pos b.margin)) (upper_inside F b))))

    low : nat_abs (out_lost F d b.centre -ℤ pos (b.margin * tens d)) ≤ n * Q F
    low =
        size_by
        (ring (b.centre ∷ pos b.margin ∷ pos (tens d) ∷ out_centre F d b.centre ∷ pos (Q F) ∷ [])
        (x₀ ⊗ x₂ ⊖ x₃ ⊗ x₄ ⊖ x₁ ⊗ x₂) ((x₀ ⊖ x₁) ⊗ x₂ ⊖ x₃ ⊗ x₄) refl)
        (from_around (tens_pos d) (within_around (all (end F (b.centre -ℤ pos b.margin)) (lower_inside F b))))

-- the margin is 0 only there
pub out_exact : (F d : ℕ) (b : Ball) → (out F d b).margin ≡ 0 → NothingLost F d b
out_exact F d b e = record { no_margin = no_margin; whole = whole }
  where
    nothing : out_doubt F d b ≡ 0
    nothing = omega (arith, up_covers F (out_doubt F d b), ap (λ (n : ℕ). n * Q F) e)

    no_margin : b.margin ≡ 0
    no_margin =
        let l : b.margin ≤ 0 = le_of_mul-le-mul_right {k = tens d} (omega (arith, nothing)) (tens_pos d) in
        omega arith

    whole : b.centre *ℤ pos (tens d) ≡ out_centre F d b.centre *ℤ pos (Q F)
    whole =
        ring ((b.centre *ℤ pos (tens d)) ∷ (out_centre F d b.centre *ℤ pos (Q F)) ∷ []) x₀ (x₀ ⊖ x₁ ⊕ x₁) refl
        ∙ ap (λ (z : ℤ). z +ℤ out_centre F d b.centre *ℤ pos (Q F)) (size_zero (out_lost F d b.centre) (omega (arith, nothing)))
        ∙ +ℤ_idl (out_centre F d b.centre *ℤ pos (Q F))

-- and there it is 0
pub out_whole : (F d : ℕ) (b : Ball) → NothingLost F d b → (out F d b).margin ≡ 0
unfolding Up
out_whole F d b k =
    let l : (out F d b).margin ≤ 0 = ceiling_at_most 0 (pow_pos F) none in
    omega arith
  where
    none : out_doubt F d b ≤ 0 * Q F
    none =
        omega (
          arith,
          round_exact F (b.centre *ℤ pos (tens d)) (out_centre F d b.centre) k.whole,
          ap (λ (n : ℕ). n * tens d) k.no_margin,
        )

-- r·10^d and what rounding lost
pub doubt_most : {F d : ℕ} {b : Ball} {l : ℕ} → Countable F d b → l ≤ h F → b.margin * tens d + l ≤ M * 10 ^ 9 + 2 ^ 30
doubt_most {b = b} k lost =
    let r : b.margin ≤ M = omega (arith, k.legal) in
    omega (arith, mul-le-mul {n₂ = M} r (tens_small k.places), half_bound k.scale)

-- no number on the way reaches 2^62
pub record OutFits (F d : ℕ) (b : Ball) : Type 0 where
  pub scaled : nat_abs (b.centre *ℤ pos (tens d)) < 2 ^ 62
  pub with_half : nat_abs (b.centre *ℤ pos (tens d) +ℤ pos (h F)) < 2 ^ 62
  pub lost : nat_abs (out_lost F d b.centre) ≤ h F
  pub centre : nat_abs (out_centre F d b.centre) < 2 ^ 62
  pub doubt : out_doubt F d b + (Q F - 1) < 2 ^ 62
  pub margin : (out F d b).margin < 2 ^ 62

pub out_fits : {F d : ℕ} {b : Ball} → Countable F d b → OutFits F d b
out_fits {F} {d} {b} k =
    record {
      scaled = omega (arith, product);
      with_half = omega (arith, product, size_add p (pos (h F)), half_bound k.scale);
      lost = round_loss F p;
      centre = omega (arith, round_size p k.scale product);
      doubt = omega (arith, doubt, unit_bound k.scale);
      margin = up_size (out_doubt F d b) k.scale (omega (arith, doubt));
    }
  where
    p : ℤ
    p = b.centre *ℤ pos (tens d)

    product : nat_abs (b.centre *ℤ pos (tens d)) ≤ M * M
    product = product_size b.centre (pos (tens d)) (centre_size b k.legal) (omega (arith, tens_small k.places))

    doubt : out_doubt F d b ≤ M * 10 ^ 9 + 2 ^ 30
    doubt = doubt_most k (round_loss F p)
