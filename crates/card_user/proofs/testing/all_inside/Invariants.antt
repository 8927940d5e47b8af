-- The balls before i are inside.
use Rattle.formulas.specs.Readings.{ball_readings}
use Rattle.card_user.proofs.Inside.{InsideBefore}
use Rattle.card_user.proofs.testing.all_inside.Given as goal

abbrev pub invariant-loop-i : goal.invariant-loop-i
invariant-loop-i l =
    InsideBefore l.m (ball_readings l.domain.centres.now l.domain.margins.now) (ball_readings l.balls.centres.now l.balls.margins.now) l.i
