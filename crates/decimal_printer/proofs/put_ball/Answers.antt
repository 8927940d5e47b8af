-- Each part has its room, and all were written.
use Rattle.decimal_printer.proofs.Printing.{between_room, margin_room, wrote_ball}
use Rattle.decimal_printer.proofs.put_ball.Goals as goal

pub put_word-joined-requires : goal.put_word-joined-requires
put_word-joined-requires c = search between_room

pub put_unsigned-requires : goal.put_unsigned-requires
put_unsigned-requires c = search margin_room

pub returns : goal.returns
returns c = search wrote_ball
