-- The admission refuses, or the ball run or a slope, or the outputs' numbers are written.
use mathlib.Core.Path.{refl}
use Rattle.std.proofs.lemmas.Result.{err_from_is_err_and}
use Rattle.card_maker.proofs.Made.{carry_slopable, carry_not_admitted, carry_not_graded, carry_done}
use Rattle.card_maker.proofs.making.carry_out.Goals as goal

pub returns-in_err-admit : goal.returns-in_err-admit
returns-in_err-admit c =
    let e = err_from_is_err_and c.from_residual.result c.from_residual.ensures.1 in
    rw (e.1, e.2) (carry_not_admitted c.requires c.admit.ensures c.in_err-admit.was)

pub grade_all-requires : goal.grade_all-requires
grade_all-requires c = carry_slopable c.requires refl

pub returns-in_err-c : goal.returns-in_err-c
returns-in_err-c c =
    let e = err_from_is_err_and c.from_residual-in_err-c.result c.from_residual-in_err-c.ensures.1 in
    rw (e.1, e.2) (carry_not_graded c.requires c.admit.ensures c.in_ok-admit.was c.grade_all.ensures c.in_err-c.was)

pub returns : goal.returns
returns c = carry_done c.requires c.admit.ensures c.in_ok-admit.was c.grade_all.ensures c.in_ok-c.was c.write.ensures
