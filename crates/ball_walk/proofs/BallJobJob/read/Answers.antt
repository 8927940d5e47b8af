-- Each part of the reading stands in its list.
use borrow.Author.Rules.{rules}
use Rattle.ball_walk.proofs.Lent.{ball_stands_for}
use Rattle.ball_walk.proofs.BallJobJob.read.Goals as goal

pub returns : goal.returns
returns c = search (ball_stands_for, rules)
