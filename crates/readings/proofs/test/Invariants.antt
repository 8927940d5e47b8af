-- The readings before i passed.
use Rattle.readings.proofs.Passing.{PassedBefore}
use Rattle.readings.proofs.test.Given as goal

abbrev pub invariant-loop-i : goal.invariant-loop-i
invariant-loop-i g l = PassedBefore l.fn.m (g.R.Readings.brought l.given) l.i
