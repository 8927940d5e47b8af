-- The first k were passed.
use Rattle.checking.proofs.Several.{Passing, output_below}
use Rattle.checking.proofs.passing.pass_outputs.Given as goal

abbrev pub invariant-loop-k : goal.invariant-loop-k
invariant-loop-k l = Passing (output_below l.below) 10 l.s l.initial.at 0 l.count l.at l._k
