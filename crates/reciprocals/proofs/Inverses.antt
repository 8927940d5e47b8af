-- A reciprocal as a quotient of T, and the spread between reciprocals rounded up. Assumes nothing.
use mathlib.Core.Path.{◌≡◌, refl, sym, ◌∙◌, ap, ap₂}
use mathlib.Core.Bool.{Bool, true, false, cond}
use mathlib.Core.List.{[], ◌∷◌}
use Prim.Native.Nat.{ℕ, suc, ◌+◌, ◌-◌, ◌*◌, ◌/◌, ◌%◌, ◌^◌, ◌≤◌, ◌<◌, min}
use native.Mathlib.Nat.{mul-pos, mul-le-mul}
use native.Mathlib.Omega.{arith}
use borrow.Author.Tests.{ltb-true, eqb-true, eqb-false}
use lib.Dec.{eqb}
use lib.IntN.{ℤ, pos, negsuc, nat_abs, ◌+ℤ◌}
use lib.Signed.{lt_z, shr_z}
use mir.Val.{bool_byte}
use Rattle.rules.specs.Numbers.{M, ceiling}
use Rattle.rules.specs.Reciprocals.{T, top_reciprocal_scale, Inverse, inexact}
use Rattle.rules.proofs.Quotients.{ceiling_small}
use Rattle.rules.proofs.Rounding.{ceiling_exact, ceiling_more}
use Rattle.whole.proofs.Cases.{never}
use Rattle.whole.proofs.Machine.{back}
use Rattle.whole.proofs.Ring.{ring, lit, neg, ◌⊗◌, x₀}
use Rattle.reciprocals.specs.Nearest.{nearest, unless_divides, signed}
use Rattle.reciprocals.proofs.Steps.{kept, size_is}
use Rattle.reciprocals.proofs.Quotients.{size_signed, rounded, size_rounded, exact_is, bit_most}

-- ---- rounded up

-- what the library rounds up is the ceiling
pub ceiling_is : (p : ℕ) {q : ℕ} → 0 < q → p / q + min 1 (p % q) ≡ ceiling p q
ceiling_is p {q} some = by_test (eqb (p % q) 0) refl
  where
    by_test : (t : Bool) → eqb (p % q) 0 ≡ t → p / q + min 1 (p % q) ≡ ceiling p q
    by_test true e = omega (arith, ceiling_exact p some (eqb-true (p % q) 0 e), eqb-true (p % q) 0 e)
    by_test false e = omega (arith, ceiling_more p some (eqb-false (p % q) 0 e), eqb-false (p % q) 0 e)

-- T·r and the divisor stay far below the width together, and the divisor is above 0
module _ {t doubt near size : ℕ} (top : t ≤ 2 ^ 32) (half : doubt < 2 ^ 30) (some : 0 < near) (part : near ≤ size) (most : size ≤ M) where
  dividend : t * doubt ≤ 2 ^ 32 * 1073741823
  dividend = mul-le-mul {n₂ = 2 ^ 32} {m₂ = 1073741823} top (omega arith)

  divisor : near * size ≤ M * M
  divisor = mul-le-mul {n₂ = M} {m₂ = M} (omega arith) most

  pub divisor_some : 0 < near * size
  divisor_some = mul-pos some (omega arith)

  pub both_fit : t * doubt + near * size ≤ 2 ^ 63
  both_fit = omega (arith, dividend, divisor)

module _ {F t doubt near size : ℕ} (t_is : (t ≡ T F) × (t ≤ 2 ^ 32)) (g : (F ≤ top_reciprocal_scale) × (doubt < 2 ^ 30) × (0 < near) × (near ≤ size) × (size ≤ M)) where
  pub spread_is : {r : ℕ} → r ≡ t * doubt / (near * size) + min 1 (t * doubt % (near * size))
      → (r ≡ ceiling (T F * doubt) (near * size)) × (r ≤ 2 ^ 62 - 2 ^ 32)
  spread_is e =
      let above = divisor_some t_is.1 g.1 g.2 g.3 g.4 in
      let is = e ∙ ceiling_is (t * doubt) above in
      (rw (← t_is.0) is, omega (arith, is, ceiling_small (t * doubt) above, dividend t_is.1 g.1 g.2 g.3 g.4))

-- ---- of T

-- T/a has the sign of a
inverse_nearest : (F : ℕ) (a : ℤ) → nearest (signed (lt_z a (pos 0)) (T F)) (nat_abs a) ≡ Inverse F a
unfolding nearest Inverse
inverse_nearest F a = by_sign a (lt_z a (pos 0)) refl
  where
    by_sign : (a : ℤ) (below : Bool) → lt_z a (pos 0) ≡ below → nearest (signed below (T F)) (nat_abs a) ≡ Inverse F a
    by_sign (pos m) true e = let l : m < 0 = ltb-true m 0 e in absurd (omega arith)
    by_sign (pos m) false e =
        ap (λ (z : ℤ). shr_z (z +ℤ pos m) (2 * m)) (ring (pos (T F) ∷ []) (lit (pos 2) ⊗ x₀) (lit (pos 1) ⊗ (lit (pos 2) ⊗ x₀)) refl)
    by_sign (negsuc m) true e =
        ap (λ (z : ℤ). shr_z (z +ℤ pos (suc m)) (2 * suc m))
        (ring (pos (T F) ∷ []) (lit (pos 2) ⊗ neg x₀) (lit (negsuc 0) ⊗ (lit (pos 2) ⊗ x₀)) refl)
    by_sign (negsuc m) false e = never e

-- |c|·|a| is T exactly where a divides T: no second division
module _ (F : ℕ) (a : ℤ) (away : 0 < nat_abs a) where
  -- |c| is what the machine divides
  size_inverse : nat_abs (Inverse F a) ≡ rounded (T F) (nat_abs a) (bool_byte (lt_z a (pos 0)))
  size_inverse = ap nat_abs (sym (inverse_nearest F a)) ∙ size_rounded (lt_z a (pos 0)) (T F) away

  pub missed_is : cond {A = ℕ} (eqb (nat_abs (Inverse F a) * nat_abs a) (T F)) 0 1 ≡ inexact F a
  unfolding inexact
  missed_is =
      ap (λ (n : ℕ). cond {A = ℕ} (eqb (n * nat_abs a) (T F)) 0 1) size_inverse
      ∙ ap (λ (b : Bool). cond {A = ℕ} b 0 1)
      (exact_is (T F) (nat_abs a) (bool_byte (lt_z a (pos 0))) away (omega (arith, bit_most (lt_z a (pos 0)), away)))

module _ (a : ℤ) {F t n : ℕ} (t_is : (t ≡ T F) × (t ≤ 2 ^ 32)) (g : (F ≤ top_reciprocal_scale) × (0 < nat_abs a) × (nat_abs a ≤ M))
    (size : n ≡ nat_abs (back a)) where
  pub inverse_is : {c : ℤ} → c ≡ nearest (signed (lt_z (back a) (pos 0)) t) n → c ≡ Inverse F a
  inverse_is e = rw (size_is a g.2 size, t_is.0, kept a g.2) at e ∙ inverse_nearest F a

  pub inexact_is : {m : ℕ} → m ≡ unless_divides (signed (lt_z (back a) (pos 0)) t) n → m ≡ inexact F a
  unfolding unless_divides inexact
  inexact_is e =
      e ∙ ap₂ (λ (i j : ℕ). cond {A = ℕ} (eqb (i % j) 0) 0 1) (size_signed (lt_z (back a) (pos 0)) t ∙ t_is.0) (size_is a g.2 size)
