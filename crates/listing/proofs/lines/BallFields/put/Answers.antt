-- A ball's fields, one behind the other. Assumes nothing.
use Rattle.std.proofs.Common.{rules}
use Rattle.listing.proofs.Line.{rooms, wrote_ball}
use Rattle.listing.proofs.lines.BallFields.put.Goals as goal

pub put_marked-requires : goal.put_marked-requires
put_marked-requires c = search rooms

pub returns : goal.returns
returns c = search (wrote_ball, rules)
