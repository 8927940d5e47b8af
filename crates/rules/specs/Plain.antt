-- Document 01, "The instructions", on plain values: "Plain takes the ball's centre rule."
use Rattle.std.specs.Prelude.{ℕ, ℤ, neg_ℤ, ◌+ℤ◌, ◌-ℤ◌, ◌*ℤ◌}
use Rattle.rules.specs.Numbers.{Round}
use Rattle.rules.specs.Values.{plain_reach}
use Rattle.rules.specs.Reciprocals.{Inverse, plain_may_be_zero}
use Rattle.rules.specs.Operation.{Operation, constant, negate, add, subtract, multiply, coefficient, reciprocal}
use Rattle.refusals.specs.Answer.{Answer}
use Rattle.rules.specs.Steps.{step_answer}

abbrev pub plain_result : ℕ → Operation ℤ → ℤ
plain_result F (constant c) = c
plain_result F (negate a) = neg_ℤ a
plain_result F (add a b) = a +ℤ b
plain_result F (subtract a b) = a -ℤ b
plain_result F (multiply a b) = Round F (a *ℤ b)
plain_result F (coefficient c r) = c
plain_result F (reciprocal a) = Inverse F a

abbrev pub plain_rule : ℕ → Operation ℤ → Answer ℤ
plain_rule F o = step_answer plain_may_be_zero plain_reach o (plain_result F o)
