-- All bytes but k are given out.
use Rattle.writing.proofs.Giving.{Closing}
use Rattle.writing.proofs.Writer.finish.Given as goal

abbrev pub invariant-loop-k : goal.invariant-loop-k
invariant-loop-k l = Closing l.held l.bytes l.fn.self.at l.initial.out l.out l.k
