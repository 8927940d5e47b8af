-- `read` gathers what its lines mean, line by line. Assumes nothing.
use Rattle.std.proofs.Common.{rules, arith}
use Rattle.parsing.proofs.Cuts.{cut_long}
use Rattle.rows.proofs.Columns.{column_all, column_unended, column_bad, column_one}
use Rattle.rows.proofs.column.read.Goals as goal

pub returns-in_err-line : goal.returns-in_err-line
returns-in_err-line c = search (column_unended, c.in_err-line.ensures)

pub returns-in_err-out : goal.returns-in_err-out
returns-in_err-out c = search (column_bad, c.in_ok-line.ensures, c.in_err-out.was)

pub loop-rest-smaller : goal.loop-rest-smaller
loop-rest-smaller c = omega (arith, cut_long 10 c.loop-rest.rest.now c.in_ok-line.ensures)

pub loop-rest-preserved : goal.loop-rest-preserved
loop-rest-preserved c = search (column_one, c.in_ok-line.ensures, c.in_ok-out.was, rules)

pub returns : goal.returns
returns c = search column_all
