-- The count's text, behind a minus where it is below 0.
use Rattle.decimal_printer.proofs.Printing.{wrote_minus, wrote_bare}
use Rattle.decimal_printer.proofs.put_signed.Goals as goal
use Rattle.decimal_printer.proofs.put_signed.Goals.{then-count-lt0, else-count-lt0}

pub returns : goal.returns
returns c = elim c.if-count-lt0.branch [ then-count-lt0 w ↦ search wrote_minus | else-count-lt0 w ↦ search wrote_bare ]
