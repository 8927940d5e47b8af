-- Each part of the reading stands in its list.
use borrow.Author.Rules.{rules}
use Rattle.readings.proofs.InLists.{in_third}
use Rattle.matryoshka_walk.proofs.Lent.{matryoshka_stands_for}
use Rattle.matryoshka_walk.proofs.DomainJobJob.read.Goals as goal

pub returns : goal.returns
returns c = search (matryoshka_stands_for, rules)

pub bounds-self-i-3 : goal.bounds-self-i-3
bounds-self-i-3 c = search in_third
