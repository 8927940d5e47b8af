-- A reciprocal as code computes it: its centre as a quotient of natural numbers, when a divides T, and how large the parts can be. Assumes
-- nothing.
use mathlib.Core.Path.{◌≡◌, refl, sym, ◌∙◌, ap, subst}
use mathlib.Core.List.{[], ◌∷◌}
use Prim.Native.Nat.{ℕ, suc, ◌+◌, ◌-◌, ◌*◌, ◌/◌, ◌%◌, ◌^◌, ◌≤◌, ◌<◌}
use native.Mathlib.Nat.{mul-le-mul_left, le_of_mul-le-mul_right, mul-mod_left, div-mul-le_self, lt-div-mul-add, one-mul}
use native.Mathlib.Omega.{arith}
use lib.IntN.{ℤ, pos, negsuc, neg_ℤ, nat_abs, ◌+ℤ◌, ◌-ℤ◌, ◌*ℤ◌}
use lib.Pow.{pow_mono}
use lib.Signed.{shr_z}
use Rattle.rules.specs.Numbers.{ceiling}
use Rattle.rules.specs.Reciprocals.{T, top_reciprocal_scale, Inverse, inexact}
use Rattle.rules.proofs.Rounding.{ceiling_at_most}
use Rattle.rules.proofs.Reciprocal.{shortfall, inverse_loss}
use Rattle.whole.proofs.Floor.{floor_unique}
use Rattle.whole.proofs.Ring.{ring, neg, lit, ◌⊕◌, ◌⊖◌, ◌⊗◌, x₀, x₁, x₂, x₃}
use Rattle.whole.proofs.Size.{size_sub, size_mul}

-- above zero: (2·T + |a|)/(2·|a|) rounded down
pub inverse_above : (F n : ℕ) → Inverse F (pos n) ≡ pos ((2 * T F + n) / (2 * n))
unfolding Inverse
inverse_above F n = ap (λ (m : ℕ). pos ((m + n) / (2 * n))) (one-mul (2 * T F))

-- below zero: −((2·T + |a| − 1)/(2·|a|)), the quotient rounded down
pub inverse_below : (F n : ℕ) → Inverse F (negsuc n) ≡ neg_ℤ (pos ((2 * T F + n) / (2 * suc n)))
unfolding Inverse
inverse_below F n = ap (λ (z : ℤ). shr_z z (2 * suc n)) same ∙ floor_unique (neg_ℤ (pos k)) left small
  where
    k : ℕ
    k = (2 * T F + n) / (2 * suc n)

    left : ℕ
    left = k * (2 * suc n) + suc n - 2 * T F

    below : k * (2 * suc n) ≤ 2 * T F + n
    below = div-mul-le_self (2 * T F + n) (2 * suc n)

    above : 2 * T F + n < k * (2 * suc n) + 2 * suc n
    above = lt-div-mul-add (omega arith)

    small : left < 2 * suc n
    small = omega (arith, below)

    back : left + 2 * T F ≡ k * (2 * suc n) + suc n
    back = omega (arith, above)

    same : negsuc 0 *ℤ pos (2 * T F) +ℤ pos (suc n) ≡ neg_ℤ (pos k) *ℤ pos (2 * suc n) +ℤ pos left
    same =
        ring (pos (2 * T F) ∷ pos (suc n) ∷ pos (k * (2 * suc n)) ∷ []) (lit (negsuc 0) ⊗ x₀ ⊕ x₁) (neg x₂ ⊕ (x₂ ⊕ x₁) ⊖ x₀) refl
        ∙ ap (λ (m : ℕ). neg_ℤ (pos (k * (2 * suc n))) +ℤ pos m -ℤ pos (2 * T F)) (sym back)
        ∙ ring (pos k ∷ pos (2 * suc n) ∷ pos left ∷ pos (2 * T F) ∷ []) (neg (x₀ ⊗ x₁) ⊕ (x₂ ⊕ x₃) ⊖ x₃) (neg x₀ ⊗ x₁ ⊕ x₂) refl

-- whether a divides T, by its size
pub inexact_size : (F : ℕ) (a : ℤ) → inexact F (pos (nat_abs a)) ≡ inexact F a
unfolding inexact
inexact_size F a = refl

-- a divides T if c·a is T (and only then, `inverse_exact`): no second division
pub exact_divides : (F : ℕ) (a : ℤ) → Inverse F a *ℤ a ≡ pos (T F) → T F % nat_abs a ≡ 0
exact_divides F a e = ap (λ (n : ℕ). n % nat_abs a) (sym (ap nat_abs e) ∙ size_mul (Inverse F a) a) ∙ mul-mod_left (nat_abs (Inverse F a)) (nat_abs a)

-- ---- how large the parts are

pub inverse_size : (F : ℕ) (a : ℤ) → 0 < nat_abs a → nat_abs (Inverse F a) ≤ T F
inverse_size F a away = halved (le_of_mul-le-mul_right {m = 2 * nat_abs (Inverse F a)} {n = 2 * T F + 1} scaled away)
  where
    halved : 2 * nat_abs (Inverse F a) ≤ 2 * T F + 1 → nat_abs (Inverse F a) ≤ T F
    halved l = omega arith

    product : nat_abs (Inverse F a) * nat_abs a ≤ T F + nat_abs (shortfall F a)
    product =
        subst (λ (n : ℕ). n ≤ T F + nat_abs (shortfall F a))
        (ap nat_abs (ring (pos (T F) ∷ Inverse F a ∷ a ∷ []) (x₀ ⊖ (x₀ ⊖ x₁ ⊗ x₂)) (x₁ ⊗ x₂) refl) ∙ size_mul (Inverse F a) a)
        (size_sub (pos (T F)) (shortfall F a))

    scaled : 2 * nat_abs (Inverse F a) * nat_abs a ≤ (2 * T F + 1) * nat_abs a
    scaled = omega (arith, product, inverse_loss F a away, mul-le-mul_left (T F) away)

pub ceiling_small : (p : ℕ) {q : ℕ} → 0 < q → ceiling p q ≤ p
ceiling_small p {q} h = ceiling_at_most p h (omega (arith, mul-le-mul_left p h))

pub T_most : (F : ℕ) → F ≤ top_reciprocal_scale → T F ≤ 2 ^ 32
T_most F low = pow_mono {i = 2 * F} {j = 32} (omega arith)
