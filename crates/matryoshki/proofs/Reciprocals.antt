-- A reciprocal of a matryoshka, as the code comes to it. Assumes nothing.
use mathlib.Core.Path.{◌≡◌, sym, ◌∙◌, ap, ap₂}
use Prim.Native.Nat.{ℕ, ◌+◌, ◌-◌, ◌*◌, ◌^◌, ◌≤◌, ◌<◌}
use native.Mathlib.Omega.{arith}
use lib.IntN.{ℤ, nat_abs}
use Rattle.refusals.specs.declared.Refusal.TheVariants.{MayBeZero}
use Rattle.refusals.specs.Answer.{Answer, refuse}
use Rattle.rules.specs.declared.Matryoshka.{Matryoshka}
use Rattle.rules.specs.Numbers.{M, ceiling}
use Rattle.rules.specs.Values.{IsMatryoshka, matryoshka_reach}
use Rattle.rules.specs.Reciprocals.{T, top_reciprocal_scale, Inverse, matryoshka_may_be_zero}
use Rattle.rules.specs.Operation.{reciprocal}
use Rattle.rules.specs.Steps.{within_reach}
use Rattle.rules.specs.Matryoshki.{matryoshka, matryoshka_reciprocal, matryoshka_rule}
use Rattle.rules.proofs.Zeros.{zero_matryoshka, away_matryoshka}
use Rattle.rules.proofs.Reach.{step_divides, step_goes_on}
use Rattle.whole.proofs.Machine.{back}
use Rattle.rounding.proofs.Linear.{middle_size}
use Rattle.reciprocals.proofs.Steps as steps

module _ (x : Matryoshka) {n : ℕ} (is : IsMatryoshka x) (size : n ≡ nat_abs (back x.middle)) where
  most : nat_abs x.middle ≤ M
  most = middle_size x is

  size_is : n ≡ nat_abs x.middle
  size_is = steps.size_is x.middle most size

  pub zero_refused : (F : ℕ) → n ≤ x.stray + x.margin → refuse MayBeZero ≡ matryoshka_rule F (reciprocal x)
  zero_refused F l =
      sym
      (step_divides matryoshka_may_be_zero matryoshka_reach (reciprocal x) (matryoshka_reciprocal F x)
      (zero_matryoshka x (omega (arith, size_is))))

  pub kept_most : nat_abs (back x.middle) ≤ M
  kept_most = steps.kept_most x.middle most size

  pub kept_some : {d : ℕ} → d < n → 0 < nat_abs (back x.middle)
  kept_some l = steps.kept_some x.middle most size l

  pub size_most : n ≤ M
  size_most = omega (arith, size_is, is)

  module _ (away : x.stray + x.margin < n) where
    -- a matryoshka away from 0 has less than half of M for its stray and its margin
    pub stray_half : x.stray < 2 ^ 30
    stray_half = omega (arith, size_is, is)

    pub margin_half : x.margin < 2 ^ 30
    margin_half = omega (arith, size_is, is)

    -- t = |A| − R, and t − r
    pub near_there : x.stray ≤ n
    near_there = omega arith

    pub near_some : 0 < n - x.stray
    near_some = omega arith

    pub near_part : n - x.stray ≤ n
    near_part = omega arith

    pub near_most : n - x.stray ≤ M
    near_most = omega (arith, size_most)

    pub nearer_there : x.margin ≤ n - x.stray
    nearer_there = omega arith

    pub nearer_some : 0 < n - x.stray - x.margin
    nearer_some = omega arith

    pub nearer_part : n - x.stray - x.margin ≤ n - x.stray
    nearer_part = omega arith

    pub reciprocal_kept : (F : ℕ) {z : ℤ} {k m : ℕ} {got : Answer Matryoshka} → F ≤ top_reciprocal_scale → z ≡ Inverse F (back x.middle)
        → k ≡ ceiling (T F * x.stray) ((n - x.stray) * n)
        → m ≡ ceiling (T F * x.margin) ((n - x.stray - x.margin) * (n - x.stray))
        → got ≡ within_reach matryoshka_reach (matryoshka (back z) k (m + 1)) → got ≡ matryoshka_rule F (reciprocal x)
    reciprocal_kept F {z} {k} {m} scaled e p q g =
        g
        ∙ ap (λ (z : ℤ). within_reach matryoshka_reach (matryoshka z k (m + 1))) (steps.centre_held x.middle most size F scaled (omega arith) e)
        ∙ ap₂ (λ (i j : ℕ). within_reach matryoshka_reach (matryoshka (Inverse F x.middle) i (j + 1)))
        (p ∙ ap (λ (i : ℕ). ceiling (T F * x.stray) ((i - x.stray) * i)) size_is)
        (q ∙ ap (λ (i : ℕ). ceiling (T F * x.margin) ((i - x.stray - x.margin) * (i - x.stray))) size_is)
        ∙ sym
        (step_goes_on matryoshka_may_be_zero matryoshka_reach (reciprocal x) (matryoshka_reciprocal F x)
        (away_matryoshka x (omega (arith, size_is))))
