-- The first k are read back, and their numbers stand in front of each list.
use Rattle.filling.proofs.Turns.{Turn}
use Rattle.filling.proofs.Listing.{Listing}
use Rattle.filling.proofs.fill_program.Given as goal

abbrev pub invariant-loop-k : goal.invariant-loop-k
invariant-loop-k l = record {
  turn : Turn l.s l.fn.h l.at l.k;
  codes : Listing (λ r. r.code) l.s l.fn.h l.initial.codes l.codes l.k;
  firsts : Listing (λ r. r.first) l.s l.fn.h l.initial.firsts l.firsts l.k;
  seconds : Listing (λ r. r.second) l.s l.fn.h l.initial.seconds l.seconds l.k;
}
