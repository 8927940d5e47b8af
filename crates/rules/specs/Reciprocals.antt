-- Request e: what a reciprocal rounds, and which values may be 0.
use Rattle.std.specs.Prelude.{Bool, cond, ℕ, ◌+◌, ◌*◌, ◌%◌, ◌^◌, eqb, leb, ℤ, pos, negsuc, nat_abs, ◌+ℤ◌, ◌*ℤ◌}
use Rattle.rules.specs.declared.Ball.{Ball}
use Rattle.rules.specs.declared.Matryoshka.{Matryoshka}
use Rattle.rules.specs.Numbers.{floor}

-- "for scales 0 to 16"
abbrev pub top_reciprocal_scale : ℕ
top_reciprocal_scale = 16

-- "Let T = 2^(2F)."
abbrev pub T : ℕ → ℕ
T F = 2 ^ (2 * F)

-- −1 below zero, 1 elsewhere: a is sign a · |a|
abbrev pub sign : ℤ → ℤ
sign (pos n) = pos 1
sign (negsuc n) = negsuc 0

-- "the floor of T/a + 1/2", for a other than 0: T/a is sign a · 2·T over 2·|a|, and 1/2 is |a| over 2·|a|
unfoldable pub Inverse : ℕ → ℤ → ℤ
Inverse F a = floor (sign a *ℤ pos (2 * T F) +ℤ pos (nat_abs a)) (2 * nat_abs a)

-- "1 unless a divides T"
unfoldable pub inexact : ℕ → ℤ → ℕ
inexact F a = cond (eqb (T F % nat_abs a) 0) 0 1

-- "if a is 0 (plain), |a| is at most r (ball) or |A| is at most R+r (admission)"
abbrev pub plain_may_be_zero : ℤ → Bool
plain_may_be_zero a = eqb (nat_abs a) 0

abbrev pub ball_may_be_zero : Ball → Bool
ball_may_be_zero x = leb (nat_abs x.centre) x.margin

abbrev pub matryoshka_may_be_zero : Matryoshka → Bool
matryoshka_may_be_zero x = leb (nat_abs x.middle) (x.stray + x.margin)
