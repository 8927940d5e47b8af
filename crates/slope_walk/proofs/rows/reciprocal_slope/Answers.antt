-- The quotient, rounded up.
use Rattle.slope_walk.proofs.Single.{divided_up}
use Rattle.slope_walk.proofs.rows.reciprocal_slope.Goals as goal

pub returns : goal.returns
returns c = search divided_up
