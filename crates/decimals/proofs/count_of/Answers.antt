-- The sum of the margin and of what rounding lost fits.
use borrow.Author.Rules.{rules}
use Rattle.decimals.proofs.Scaled.{doubt_fits, doubt_rounds}
use Rattle.decimals.proofs.count_of.Goals as goal

pub overflow_add-b : goal.overflow_add-b
overflow_add-b c = search doubt_fits

pub up-margin-requires : goal.up-margin-requires
up-margin-requires c = search (doubt_rounds, rules)
