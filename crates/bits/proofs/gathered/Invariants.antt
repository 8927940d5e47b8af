-- What was gathered is the window at k, and k goes back to i.
use Rattle.bits.proofs.Ends.{GoneBack}
use Rattle.bits.proofs.gathered.Given as goal

abbrev pub invariant-loop-k : goal.invariant-loop-k
invariant-loop-k l = GoneBack l.s l.i l.k l.v
