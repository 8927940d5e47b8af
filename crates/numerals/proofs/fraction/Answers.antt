-- Each digit is read on; the end stops the number there.
use Rattle.numerals.proofs.Reading.{fraction_begins, fraction_one, fraction_ended}
use Rattle.numerals.proofs.fraction.Goals as goal

pub loop-at-init : goal.loop-at-init
loop-at-init c = search fraction_begins

pub loop-at-preserved : goal.loop-at-preserved
loop-at-preserved c = search fraction_one

pub returns : goal.returns
returns c = search fraction_ended
