-- Document 01, "The instructions", the column "Ball"; request b: "making the ball (c, r)"; request e: "for the ball
-- (a, r)".
use Rattle.std.specs.Prelude.{ℕ, ◌+◌, ◌-◌, ◌*◌, ℤ, pos, nat_abs, neg_ℤ, ◌+ℤ◌, ◌-ℤ◌, ◌*ℤ◌}
use Rattle.rules.specs.declared.Ball.{Ball}
use Rattle.rules.specs.Numbers.{Q, Round, ceiling, Up}
use Rattle.rules.specs.Values.{ball_reach}
use Rattle.rules.specs.Reciprocals.{T, Inverse, inexact, ball_may_be_zero}
use Rattle.rules.specs.Operation.{Operation, constant, negate, add, subtract, multiply, coefficient, reciprocal}
use Rattle.refusals.specs.Answer.{Answer}
use Rattle.rules.specs.Steps.{step_answer}

abbrev pub ball : ℤ → ℕ → Ball
ball c r = record { centre = c; margin = r }

-- "the centre is c = Round(a·b); the margin is Up((|a|+r)·s + |b|·r + |a·b − c·Q|)"
abbrev pub ball_product : ℕ → Ball → Ball → Ball
ball_product F x y =
    let a = x.centre in
    let r = x.margin in
    let b = y.centre in
    let s = y.margin in
    let c = Round F (a *ℤ b) in
    ball c (Up F ((nat_abs a + r) * s + nat_abs b * r + nat_abs (a *ℤ b -ℤ c *ℤ pos (Q F))))

-- "centre the floor of T/a + 1/2, margin T·r/((|a|−r)·|a|) rounded up, plus 1 unless a divides T"
abbrev pub ball_reciprocal : ℕ → Ball → Ball
ball_reciprocal F x =
    let a = x.centre in
    let r = x.margin in
    ball (Inverse F a) (ceiling (T F * r) ((nat_abs a - r) * nat_abs a) + inexact F a)

abbrev pub ball_result : ℕ → Operation Ball → Ball
ball_result F (constant c) = ball c 0
ball_result F (negate x) = ball (neg_ℤ x.centre) x.margin
ball_result F (add x y) = ball (x.centre +ℤ y.centre) (x.margin + y.margin)
ball_result F (subtract x y) = ball (x.centre -ℤ y.centre) (x.margin + y.margin)
ball_result F (multiply x y) = ball_product F x y
ball_result F (coefficient c r) = ball c r
ball_result F (reciprocal x) = ball_reciprocal F x

abbrev pub ball_rule : ℕ → Operation Ball → Answer Ball
ball_rule F o = step_answer ball_may_be_zero ball_reach o (ball_result F o)
