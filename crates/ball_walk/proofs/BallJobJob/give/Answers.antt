-- The value that stands there goes behind the outputs before it.
use borrow.Author.Rules.{rules}
use Rattle.ball_walk.proofs.Lent.{centre_inside, margin_inside, ball_gives}
use Rattle.ball_walk.proofs.BallJobJob.give.Goals as goal

pub returns-clause-gives : goal.returns-clause-gives
returns-clause-gives c = search (ball_gives, rules)

pub offset_bounds-self-o : goal.offset_bounds-self-o
offset_bounds-self-o c = search (centre_inside, rules)

pub bounds-self-o : goal.bounds-self-o
bounds-self-o c = search centre_inside

pub offset_bounds-self-k : goal.offset_bounds-self-k
offset_bounds-self-k c = search (centre_inside, rules)

pub bounds-self-k : goal.bounds-self-k
bounds-self-k c = search centre_inside

pub offset_bounds-self-o-2 : goal.offset_bounds-self-o-2
offset_bounds-self-o-2 c = search (margin_inside, rules)

pub bounds-self-o-2 : goal.bounds-self-o-2
bounds-self-o-2 c = search margin_inside

pub offset_bounds-self-k-2 : goal.offset_bounds-self-k-2
offset_bounds-self-k-2 c = search (margin_inside, rules)

pub bounds-self-k-2 : goal.bounds-self-k-2
bounds-self-k-2 c = search margin_inside
