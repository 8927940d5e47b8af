-- Each reading is judged in its turn.
use borrow.Author.Rules.{rules}
use Rattle.readings.proofs.Passing.{wrong_count, none_tested, in_each, one_passes}
use Rattle.readings.proofs.test.Goals as goal

pub returns-then-not-count_is : goal.returns-then-not-count_is
returns-then-not-count_is g c = search (wrong_count, rules)

pub loop-i-init : goal.loop-i-init
loop-i-init g c = search (none_tested, rules)

pub at-requires : goal.at-requires
at-requires g c = search (in_each, rules)

pub loop-i-preserved : goal.loop-i-preserved
loop-i-preserved g c = search (one_passes, rules)
