-- The cursor is past the first k fields, and their numbers stand in front.
use Rattle.outputs.proofs.Turns.{Past}
use Rattle.filling.proofs.Naming.{Naming}
use Rattle.filling.proofs.fill_outputs.Given as goal

abbrev pub invariant-loop-k : goal.invariant-loop-k
invariant-loop-k l = record {
  past : Past l.fn.c l.at l.count l.k;
  naming : Naming l.s l.fn.c l.count l.initial.outputs l.outputs l.k;
}
