-- The sizes of the first i are written.
use mathlib.Core.List.{map}
use lib.IntN.{nat_abs}
use Rattle.lists.proofs.Front.{Filled}
use Rattle.lists.proofs.copy_sizes.Given as goal

abbrev pub invariant-loop-i : goal.invariant-loop-i
invariant-loop-i l = Filled (map nat_abs l.from) l.initial.to l.to l.i
