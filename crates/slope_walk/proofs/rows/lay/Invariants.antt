-- The first i slopes of the row are written, and none is over M.
use Rattle.slope_walk.proofs.Weighing.{Weighing}
use Rattle.slope_walk.proofs.rows.lay.Given as goal

abbrev pub invariant-loop-i : goal.invariant-loop-i
invariant-loop-i g l = Weighing (λ k m t. goal.F-post g l.slope k m t) l.inputs l.made l.a l.b l.initial.slopes l.slopes l.i
