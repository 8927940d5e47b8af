-- Nothing, or the point and the digits.
use Rattle.decimal_printer.proofs.Printing.{wrote_no_point, wrote_point}
use Rattle.decimal_printer.proofs.put_behind.Goals as goal

pub returns-then-decimals-eq0 : goal.returns-then-decimals-eq0
returns-then-decimals-eq0 c = search wrote_no_point

pub returns : goal.returns
returns c = search wrote_point
