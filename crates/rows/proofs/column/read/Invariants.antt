-- The lines before `rest` are read. Assumes nothing.
use Rattle.std.proofs.Common.{length}
use Rattle.parsing.proofs.Gathering.{Gathering}
use Rattle.rows.specs.Rows.{column_of, column_front}
use Rattle.rows.proofs.column.read.Given as goal

abbrev pub invariant-loop-rest : goal.invariant-loop-rest
invariant-loop-rest l = Gathering (column_of l.k l.j) (column_front l.k l.j) l.s l.rest l.initial.out l.out l.n

abbrev pub decreases-loop-rest : goal.decreases-loop-rest
decreases-loop-rest l = length l.rest
