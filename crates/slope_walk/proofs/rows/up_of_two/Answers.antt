-- The shift is the floor.
use Rattle.slope_walk.proofs.Single.{up_is}
use Rattle.slope_walk.proofs.rows.up_of_two.Goals as goal

pub returns : goal.returns
returns c = search up_is
