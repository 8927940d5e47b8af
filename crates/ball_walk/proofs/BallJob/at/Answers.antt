-- Each list has a place there.
use borrow.Author.Rules.{rules}
use Rattle.ball_walk.proofs.Lent.{centre_inside, margin_inside, ball_stands}
use Rattle.ball_walk.proofs.BallJob.at.Goals as goal

pub offset_bounds-self-i : goal.offset_bounds-self-i
offset_bounds-self-i c = search (centre_inside, rules)

pub bounds-self-i : goal.bounds-self-i
bounds-self-i c = search centre_inside

pub offset_bounds-self-i-2 : goal.offset_bounds-self-i-2
offset_bounds-self-i-2 c = search (margin_inside, rules)

pub bounds-self-i-2 : goal.bounds-self-i-2
bounds-self-i-2 c = search margin_inside

pub returns : goal.returns
returns c = search (ball_stands, rules)
