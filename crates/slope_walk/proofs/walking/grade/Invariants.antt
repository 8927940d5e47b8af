-- How far the walk has come, with the rows made so far in front of the list.
use Rattle.slope_walk.proofs.Turns.{Grading}
use Rattle.slope_walk.proofs.walking.grade.Given as goal

abbrev pub invariant-loop-k : goal.invariant-loop-k
invariant-loop-k l = Grading l.s l.h l.centres l.margins l.at l.k l.initial.slopes l.slopes
