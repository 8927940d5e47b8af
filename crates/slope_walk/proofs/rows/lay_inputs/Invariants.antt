-- The first j places are written.
use Rattle.slope_walk.proofs.Inputs.{Starting}
use Rattle.slope_walk.proofs.rows.lay_inputs.Given as goal

abbrev pub invariant-loop-j : goal.invariant-loop-j
invariant-loop-j l = Starting l.scale l.inputs l.q l.initial.slopes l.slopes l.j
