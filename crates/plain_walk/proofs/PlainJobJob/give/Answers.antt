-- The value that stands there goes behind the outputs before it.
use borrow.Author.Rules.{rules}
use Rattle.plain_walk.proofs.Lent.{plain_gives}
use Rattle.plain_walk.proofs.PlainJobJob.give.Goals as goal

pub returns-clause-gives : goal.returns-clause-gives
returns-clause-gives c = search (plain_gives, rules)
