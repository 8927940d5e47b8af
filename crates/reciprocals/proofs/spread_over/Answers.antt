-- The library's quotient that is rounded up is the ceiling, and small.
use Rattle.reciprocals.proofs.Inverses.{spread_is}
use Rattle.reciprocals.proofs.spread_over.Goals as goal

pub returns : goal.returns
returns c = spread_is c.square.ensures c.requires c.div_ceil.ensures
