-- Each size goes behind those before it.
use borrow.Author.Rules.{rules}
use Rattle.lists.proofs.Front.{sizes_none, sizes_one, sizes_all}
use Rattle.lists.proofs.copy_sizes.Goals as goal

pub loop-i-init : goal.loop-i-init
loop-i-init c = search sizes_none

pub loop-i-preserved : goal.loop-i-preserved
loop-i-preserved c = search (sizes_one, rules)

pub returns : goal.returns
returns c = search sizes_all
