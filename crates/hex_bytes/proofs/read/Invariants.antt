-- The pairs before the n-th are read. Assumes nothing.
use Rattle.hex_bytes.proofs.Hexes.{Pairs}
use Rattle.hex_bytes.proofs.read.Given as goal

abbrev pub invariant-loop-n : goal.invariant-loop-n
invariant-loop-n l = Pairs l.s l.initial.out l.out l.n
