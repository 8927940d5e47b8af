-- A reciprocal of a ball, as the code comes to it. Assumes nothing.
use mathlib.Core.Path.{◌≡◌, sym, ◌∙◌, ap, ap₂}
use Prim.Native.Nat.{ℕ, ◌+◌, ◌-◌, ◌*◌, ◌^◌, ◌≤◌, ◌<◌}
use native.Mathlib.Omega.{arith}
use lib.IntN.{ℤ, nat_abs}
use Rattle.refusals.specs.declared.Refusal.TheVariants.{MayBeZero}
use Rattle.refusals.specs.Answer.{Answer, refuse}
use Rattle.rules.specs.declared.Ball.{Ball}
use Rattle.rules.specs.Numbers.{M, ceiling}
use Rattle.rules.specs.Values.{IsBall, ball_reach}
use Rattle.rules.specs.Reciprocals.{T, top_reciprocal_scale, Inverse, inexact, ball_may_be_zero}
use Rattle.rules.specs.Operation.{reciprocal}
use Rattle.rules.specs.Steps.{within_reach}
use Rattle.rules.specs.Balls.{ball, ball_reciprocal, ball_rule}
use Rattle.rules.proofs.Zeros.{zero_ball, away_ball}
use Rattle.rules.proofs.Reach.{step_divides, step_goes_on}
use Rattle.whole.proofs.Machine.{back}
use Rattle.rounding.proofs.Linear.{centre_size}
use Rattle.reciprocals.proofs.Steps as steps

module _ (x : Ball) {n : ℕ} (is : IsBall x) (size : n ≡ nat_abs (back x.centre)) where
  most : nat_abs x.centre ≤ M
  most = centre_size x is

  size_is : n ≡ nat_abs x.centre
  size_is = steps.size_is x.centre most size

  pub zero_refused : (F : ℕ) → n ≤ x.margin → refuse MayBeZero ≡ ball_rule F (reciprocal x)
  zero_refused F l =
      sym (step_divides ball_may_be_zero ball_reach (reciprocal x) (ball_reciprocal F x) (zero_ball x (omega (arith, size_is))))

  pub kept_most : nat_abs (back x.centre) ≤ M
  kept_most = steps.kept_most x.centre most size

  pub kept_some : {d : ℕ} → d < n → 0 < nat_abs (back x.centre)
  kept_some l = steps.kept_some x.centre most size l

  pub size_most : n ≤ M
  size_most = omega (arith, size_is, is)

  module _ (away : x.margin < n) where
    -- a ball away from 0 has less than half of M for its margin
    pub margin_half : x.margin < 2 ^ 30
    margin_half = omega (arith, size_is, is)

    pub near_some : 0 < n - x.margin
    near_some = omega arith

    pub near_part : n - x.margin ≤ n
    near_part = omega arith

    module _ (F : ℕ) {k m : ℕ} (small : k ≤ 2 ^ 62 - 2 ^ 32) (lost : m ≡ inexact F (back x.centre)) (scaled : F ≤ top_reciprocal_scale) where
      missed_most : m ≤ 1
      missed_most = steps.missed_most x.centre most size F scaled lost

      pub margin_fits : k + m < 2 ^ 64
      margin_fits = omega (arith, missed_most)

      pub margin_small : k + m < 2 ^ 63
      margin_small = omega (arith, missed_most)

      pub reciprocal_kept : {z : ℤ} {got : Answer Ball} → z ≡ Inverse F (back x.centre)
          → k ≡ ceiling (T F * x.margin) ((n - x.margin) * n) → got ≡ within_reach ball_reach (ball (back z) (k + m))
          → got ≡ ball_rule F (reciprocal x)
      reciprocal_kept e l g =
          g
          ∙ ap₂ (λ (z : ℤ) (i : ℕ). within_reach ball_reach (ball z i)) (steps.centre_held x.centre most size F scaled (omega arith) e)
          (ap₂ (λ (i j : ℕ). i + j) (l ∙ ap (λ (i : ℕ). ceiling (T F * x.margin) ((i - x.margin) * i)) size_is)
          (steps.inexact_held x.centre most size F scaled lost))
          ∙ sym
          (step_goes_on ball_may_be_zero ball_reach (reciprocal x) (ball_reciprocal F x)
          (away_ball x (omega (arith, size_is))))
