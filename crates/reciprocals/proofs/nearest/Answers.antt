-- The size with its sign is the nearest whole number, and the product tells whether it is the quotient.
use Rattle.reciprocals.proofs.Quotients.{centre_below, centre_above, missed_is}
use Rattle.reciprocals.proofs.nearest.Goals as goal
use Rattle.reciprocals.proofs.nearest.Goals.{then-negative, else-negative}

pub returns : goal.returns
returns c = (elim c.if-negative.branch [ then-negative w ↦ search centre_below | else-negative w ↦ search centre_above ], search missed_is)
