-- Which values may be 0: the tests of refusal 17, as inequalities. Assumes nothing.
use mathlib.Core.Path.{◌≡◌}
use mathlib.Core.Bool.{true, false}
use Prim.Native.Nat.{◌+◌, ◌≤◌, ◌<◌}
use native.Mathlib.Omega.{arith}
use borrow.Author.Tests.{eqb-true, eq-eqb, ne_eqb, leb-true, leb-false, le-leb, lt-leb}
use lib.IntN.{ℤ, nat_abs}
use Rattle.rules.specs.declared.Ball.{Ball}
use Rattle.rules.specs.declared.Matryoshka.{Matryoshka}
use Rattle.rules.specs.Reciprocals.{plain_may_be_zero, ball_may_be_zero, matryoshka_may_be_zero}

module _ (x : Ball) where
  pub ball_away : ball_may_be_zero x ≡ false → x.margin < nat_abs x.centre
  ball_away e = leb-false (nat_abs x.centre) x.margin e

  pub away_ball : x.margin < nat_abs x.centre → ball_may_be_zero x ≡ false
  away_ball l = lt-leb (nat_abs x.centre) x.margin l

  pub ball_zero : ball_may_be_zero x ≡ true → nat_abs x.centre ≤ x.margin
  ball_zero e = leb-true (nat_abs x.centre) x.margin e

  pub zero_ball : nat_abs x.centre ≤ x.margin → ball_may_be_zero x ≡ true
  zero_ball l = le-leb (nat_abs x.centre) x.margin l

module _ (x : Matryoshka) where
  pub matryoshka_away : matryoshka_may_be_zero x ≡ false → x.stray + x.margin < nat_abs x.middle
  matryoshka_away e = leb-false (nat_abs x.middle) (x.stray + x.margin) e

  pub away_matryoshka : x.stray + x.margin < nat_abs x.middle → matryoshka_may_be_zero x ≡ false
  away_matryoshka l = lt-leb (nat_abs x.middle) (x.stray + x.margin) l

  pub matryoshka_zero : matryoshka_may_be_zero x ≡ true → nat_abs x.middle ≤ x.stray + x.margin
  matryoshka_zero e = leb-true (nat_abs x.middle) (x.stray + x.margin) e

  pub zero_matryoshka : nat_abs x.middle ≤ x.stray + x.margin → matryoshka_may_be_zero x ≡ true
  zero_matryoshka l = le-leb (nat_abs x.middle) (x.stray + x.margin) l

module _ (a : ℤ) where
  pub plain_zero : plain_may_be_zero a ≡ true → nat_abs a ≡ 0
  plain_zero e = eqb-true (nat_abs a) 0 e

  pub zero_plain : nat_abs a ≡ 0 → plain_may_be_zero a ≡ true
  zero_plain e = eq-eqb (nat_abs a) 0 e

  pub away_plain : 0 < nat_abs a → plain_may_be_zero a ≡ false
  away_plain l = ne_eqb (nat_abs a) 0 (λ e. omega arith)
