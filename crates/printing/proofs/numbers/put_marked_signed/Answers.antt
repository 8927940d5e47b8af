-- A mark, and the number as the machine holds it. Assumes nothing.
use Rattle.printing.proofs.Digits.{wrote_marked}
use Rattle.printing.proofs.numbers.put_marked_signed.Goals as goal

pub returns : goal.returns
returns c = search wrote_marked
