-- Each digit is read on; the end stops the digits before a point.
use Rattle.numerals.proofs.Reading.{whole_begins, whole_one, whole_ended}
use Rattle.numerals.proofs.whole.Goals as goal

pub loop-at-init : goal.loop-at-init
loop-at-init c = search whole_begins

pub loop-at-preserved : goal.loop-at-preserved
loop-at-preserved c = search whole_one

pub returns : goal.returns
returns c = search whole_ended
