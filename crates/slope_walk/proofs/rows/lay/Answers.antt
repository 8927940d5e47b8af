-- The row begins, a slope is over M, one more is written, or all are.
use borrow.Author.Rules.{rules}
use Rattle.slope_walk.proofs.Weighing.{weighing_start, weighing_stops, weighing_more, weighing_ends}
use Rattle.slope_walk.proofs.rows.lay.Goals as goal

pub loop-i-init : goal.loop-i-init
loop-i-init g c = search (weighing_start, rules)

pub returns-then-t-gt-LIMIT : goal.returns-then-t-gt-LIMIT
returns-then-t-gt-LIMIT g c = search (weighing_stops, rules)

pub loop-i-preserved : goal.loop-i-preserved
loop-i-preserved g c = search (weighing_more, rules)

pub returns : goal.returns
returns g c = search (weighing_ends, rules)
