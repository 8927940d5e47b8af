-- The digits from a place on stand, and the number without them is left.
use Rattle.decimal_printer.proofs.Last.{LastOnes}
use Rattle.decimal_printer.proofs.put_last.Given as goal

abbrev pub invariant-loop-place : goal.invariant-loop-place
invariant-loop-place l = LastOnes l.count l.at l.end l.initial.out l.out l.place l.left
