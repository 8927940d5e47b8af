-- There is room for the digits behind the point, and both parts were written.
use Rattle.numerals.proofs.Rounding.{ten_some}
use Rattle.decimal_printer.proofs.Printing.{behind_room, wrote_unsigned}
use Rattle.decimal_printer.proofs.put_unsigned.Goals as goal

pub nonzero_div-count : goal.nonzero_div-count
nonzero_div-count c = search ten_some

pub put_behind-requires : goal.put_behind-requires
put_behind-requires c = search behind_room

pub returns : goal.returns
returns c = search wrote_unsigned
