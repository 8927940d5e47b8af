-- `columns_of`: the columns hold the first i records. Assumes nothing.
use Rattle.std.proofs.Common.{◌≤◌, take}
use Rattle.columns.specs.Records.{Columned}
use Rattle.columns.proofs.columns_of.Given as goal

abbrev pub invariant-loop-i : goal.invariant-loop-i
invariant-loop-i l = record { within : l.i ≤ l.n; columned : Columned l.l (take l.i l.readings) }
