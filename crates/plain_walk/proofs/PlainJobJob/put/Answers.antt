-- The value goes behind those before it.
use borrow.Author.Rules.{rules}
use Rattle.plain_walk.proofs.Lent.{plain_puts}
use Rattle.plain_walk.proofs.PlainJobJob.put.Goals as goal

pub returns-clause-puts : goal.returns-clause-puts
returns-clause-puts c = search (plain_puts, rules)
