-- Document 01, "Numbers": plain values, balls, matryoshki, what each reaches, contains and covers.
use Rattle.std.specs.Prelude.{ℕ, ◌+◌, ◌*◌, ◌≤◌, ℤ, pos, nat_abs, ◌-ℤ◌, ◌*ℤ◌}
use Rattle.rules.specs.declared.Ball.{Ball}
use Rattle.rules.specs.declared.Matryoshka.{Matryoshka}
use Rattle.rules.specs.Numbers.{M, Q}

-- a fraction n/d, "d at least 1"
pub record Fraction : Type 0 where
  pub numerator : ℤ
  pub denominator : ℕ
  pub at_least_one : 1 ≤ denominator

-- "A plain value x is allowed when |x| is at most M."
abbrev pub plain_reach : ℤ → ℕ
plain_reach x = nat_abs x

abbrev pub Allowed : ℤ → Type 0
Allowed x = plain_reach x ≤ M

-- "A ball (c, r) has r at least 0 and reach |c| + r at most M." A margin is a natural number.
abbrev pub ball_reach : Ball → ℕ
ball_reach b = nat_abs b.centre + b.margin

abbrev pub IsBall : Ball → Type 0
IsBall b = ball_reach b ≤ M

-- "It contains the fraction n/d (d at least 1) when |n·Q − c·d| is at most r·d."
pub record Contains (F : ℕ) (b : Ball) (x : Fraction) : Type 0 where
  pub near : nat_abs (x.numerator *ℤ pos (Q F) -ℤ b.centre *ℤ pos x.denominator) ≤ b.margin * x.denominator

-- "A matryoshka (C, R, r) has R and r at least 0 and reach |C| + R + r at most M."
abbrev pub matryoshka_reach : Matryoshka → ℕ
matryoshka_reach m = nat_abs m.middle + m.stray + m.margin

abbrev pub IsMatryoshka : Matryoshka → Type 0
IsMatryoshka m = matryoshka_reach m ≤ M

-- "It covers the ball (c, s) when |c − C| is at most R and s is at most r."
pub record Covers (m : Matryoshka) (b : Ball) : Type 0 where
  pub strays : nat_abs (b.centre -ℤ m.middle) ≤ m.stray
  pub doubts : b.margin ≤ m.margin
