-- The parts of a line, one behind the other. Assumes nothing.
use Rattle.listing.proofs.Line.{room_fields, room_end, wrote_line}
use Rattle.listing.proofs.lines.put_line.Goals as goal

pub put-shown-requires : goal.put-shown-requires
put-shown-requires g c = search room_fields

pub put-requires : goal.put-requires
put-requires g c = search (room_end, g.met.T.Fields.short)

pub returns : goal.returns
returns g c = search wrote_line
