-- Those before `below` were passed.
use Rattle.packed.specs.Format.{instruction, widest}
use Rattle.checking.proofs.Several.{Passing}
use Rattle.checking.proofs.passing.pass_last.Given as goal

abbrev pub invariant-loop-below : goal.invariant-loop-below
invariant-loop-below l = Passing (instruction l.scale) widest l.s l.initial.at l.first l.count l.at l.below
