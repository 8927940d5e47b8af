-- The value goes behind those before it.
use borrow.Author.Rules.{rules}
use Rattle.matryoshka_walk.proofs.Lent.{middle_inside, stray_inside, margin_inside, matryoshka_puts}
use Rattle.matryoshka_walk.proofs.DomainJobJob.put.Goals as goal

pub returns-clause-puts : goal.returns-clause-puts
returns-clause-puts c = search (matryoshka_puts, rules)

pub offset_bounds-self-i : goal.offset_bounds-self-i
offset_bounds-self-i c = search (middle_inside, rules)

pub bounds-self-i : goal.bounds-self-i
bounds-self-i c = search middle_inside

pub offset_bounds-self-i-2 : goal.offset_bounds-self-i-2
offset_bounds-self-i-2 c = search (stray_inside, rules)

pub bounds-self-i-2 : goal.bounds-self-i-2
bounds-self-i-2 c = search stray_inside

pub offset_bounds-self-i-3 : goal.offset_bounds-self-i-3
offset_bounds-self-i-3 c = search (margin_inside, rules)

pub bounds-self-i-3 : goal.bounds-self-i-3
bounds-self-i-3 c = search margin_inside
