-- What is still to be read is what was to be read.
use lib.ListN.{drop}
use Rattle.numerals.specs.Digits.{whole_on}
use Rattle.numerals.proofs.Reading.{WholeGoing}
use Rattle.numerals.proofs.whole.Given as goal

abbrev pub invariant-loop-at : goal.invariant-loop-at
invariant-loop-at l = WholeGoing l.text l.from l.at l.until l.count (whole_on l.left l.first (drop l.from l.text))
