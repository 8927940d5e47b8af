-- The last test decides whether both are fit.
use borrow.Author.Rules.{rules}
use Rattle.fitting.proofs.Tests.{reach_asked}
use Rattle.fitting.proofs.reaches.Goals as goal

pub returns-then-size-le2147483647 : goal.returns-then-size-le2147483647
returns-then-size-le2147483647 c = search (reach_asked, rules)
