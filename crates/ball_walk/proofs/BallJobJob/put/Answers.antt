-- The value goes behind those before it.
use borrow.Author.Rules.{rules}
use Rattle.ball_walk.proofs.Lent.{centre_inside, margin_inside, ball_puts}
use Rattle.ball_walk.proofs.BallJobJob.put.Goals as goal

pub returns-clause-puts : goal.returns-clause-puts
returns-clause-puts c = search (ball_puts, rules)

pub offset_bounds-self-i : goal.offset_bounds-self-i
offset_bounds-self-i c = search (centre_inside, rules)

pub bounds-self-i : goal.bounds-self-i
bounds-self-i c = search centre_inside

pub offset_bounds-self-i-2 : goal.offset_bounds-self-i-2
offset_bounds-self-i-2 c = search (margin_inside, rules)

pub bounds-self-i-2 : goal.bounds-self-i-2
bounds-self-i-2 c = search margin_inside
