-- A reciprocal of a plain value, as the code comes to it. Assumes nothing.
use mathlib.Core.Path.{◌≡◌, sym, ◌∙◌, ap}
use Prim.Native.Nat.{ℕ, ◌≤◌, ◌<◌}
use native.Mathlib.Omega.{arith}
use lib.IntN.{ℤ, nat_abs}
use Rattle.refusals.specs.declared.Refusal.TheVariants.{MayBeZero}
use Rattle.refusals.specs.Answer.{Answer, refuse}
use Rattle.rules.specs.Values.{Allowed, plain_reach}
use Rattle.rules.specs.Reciprocals.{top_reciprocal_scale, Inverse, plain_may_be_zero}
use Rattle.rules.specs.Operation.{reciprocal}
use Rattle.rules.specs.Steps.{within_reach}
use Rattle.rules.specs.Plain.{plain_rule}
use Rattle.rules.proofs.Zeros.{zero_plain, away_plain}
use Rattle.rules.proofs.Reach.{step_divides, step_goes_on}
use Rattle.whole.proofs.Machine.{back}
use Rattle.reciprocals.proofs.Steps.{size_is, kept_some, centre_held}

module _ (a : ℤ) {n : ℕ} (most : Allowed a) (size : n ≡ nat_abs (back a)) where
  pub zero_refused : (F : ℕ) → n ≡ 0 → refuse MayBeZero ≡ plain_rule F (reciprocal a)
  zero_refused F e =
      sym (step_divides plain_may_be_zero plain_reach (reciprocal a) (Inverse F a) (zero_plain a (sym (size_is a most size) ∙ e)))

  module _ (other : n ≡ 0 → ⊥) where
    away : 0 < n
    away = omega (arith, other)

    pub away_from_zero : 0 < nat_abs (back a)
    away_from_zero = kept_some a most size away

    pub inverse_kept : (F : ℕ) {z : ℤ} {got : Answer ℤ} → F ≤ top_reciprocal_scale → z ≡ Inverse F (back a)
        → got ≡ within_reach plain_reach (back z) → got ≡ plain_rule F (reciprocal a)
    inverse_kept F scaled e g =
        g ∙ ap (within_reach plain_reach) (centre_held a most size F scaled away e)
        ∙ sym (step_goes_on plain_may_be_zero plain_reach (reciprocal a) (Inverse F a) (away_plain a (omega (arith, size_is a most size, away))))
