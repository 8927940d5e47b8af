-- The quotient of T with the sign of a is the reciprocal.
use Rattle.reciprocals.proofs.Inverses.{inverse_is, inexact_is}
use Rattle.reciprocals.proofs.inverse.Goals as goal

pub returns : goal.returns
returns c = search (inverse_is, inexact_is)
