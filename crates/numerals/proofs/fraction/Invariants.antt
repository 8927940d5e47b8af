-- What is still to be read is what was to be read.
use Prim.Native.Nat.{◌+◌}
use lib.ListN.{drop}
use Rattle.numerals.specs.Digits.{fraction_on}
use Rattle.numerals.proofs.Reading.{FractionGoing}
use Rattle.numerals.proofs.fraction.Given as goal

abbrev pub invariant-loop-at : goal.invariant-loop-at
invariant-loop-at l =
    FractionGoing l.text l.from l.at (l.from + l.left) l.places l.count (fraction_on l.left 1 l.first (drop l.from l.text))
