-- One slope in the code's shape: what is rounded up, and a reciprocal's quotient. Assumes nothing.
use mathlib.Core.Path.{◌≡◌, refl, sym, ◌∙◌, ap, ap₂}
use Prim.Native.Nat.{ℕ, zero, suc, ◌+◌, ◌-◌, ◌*◌, ◌/◌, ◌%◌, ◌^◌, ◌≤◌, ◌<◌}
use native.Mathlib.Nat.{mul-pos}
use native.Mathlib.Omega.{arith}
use Rattle.std.proofs.Common.{add-zero}
use Rattle.std.specs.Prelude.{min}
use Rattle.std.specs.Int.{div_ceil}
use Rattle.rules.specs.Numbers.{M, Q, top_scale, Up}
use Rattle.rules.specs.Reciprocals.{T, top_reciprocal_scale}
use Rattle.cards.specs.Slopes.{reciprocal_slope}
use Rattle.cards.proofs.Sizes.{reciprocal_slope_exact, reciprocal_slope_more}

pub up_is : {F u p : ℕ} → (F ≤ top_scale) × (p ≤ 2 * (M * M)) → u ≡ Q F → (p + (u - 1)) / Q F ≡ Up F p
unfolding Up
up_is {F} {p = p} l e = ap (λ (n : ℕ). (p + (n - 1)) / Q F) e

module _ {F w l t : ℕ} (pre : (F ≤ top_reciprocal_scale) × (0 < w) × (w ≤ M) × (l ≤ M)) (e : (t ≡ T F) × (t ≤ 2 ^ 32)) where
  same : t * l ≡ T F * l
  same = ap (λ (n : ℕ). n * l) e.0

  pub some_near : 0 < w * w
  some_near = mul-pos pre.1 pre.1

  divided_by : (n : ℕ) → t * l % (w * w) ≡ n → t * l / (w * w) + min 1 n ≡ reciprocal_slope F w l
  divided_by zero z =
      let none : min 1 0 ≡ 0 = omega arith in
      ap₂ (λ (m k : ℕ). m / (w * w) + k) same none ∙ add-zero _
      ∙ sym (reciprocal_slope_exact F w l some_near (ap (λ (n : ℕ). n % (w * w)) (sym same) ∙ z))
  divided_by (suc n) z =
      let one : min 1 (suc n) ≡ 1 = omega arith in
      ap₂ (λ (m k : ℕ). m / (w * w) + k) same one
      ∙ sym
      (reciprocal_slope_more F w l some_near
      (λ r. let e : suc n ≡ 0 = sym z ∙ ap (λ (n : ℕ). n % (w * w)) same ∙ r in absurd (omega arith)))

  pub divided_up : {r : ℕ} → r ≡ div_ceil (t * l) (w * w) → r ≡ reciprocal_slope F w l
  divided_up e = e ∙ divided_by (t * l % (w * w)) refl
