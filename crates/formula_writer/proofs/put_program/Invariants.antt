-- The first k are put.
use Rattle.putting.proofs.Turns.{ProgramPutting}
use Rattle.formula_writer.proofs.put_program.Given as goal

abbrev pub invariant-loop-k : goal.invariant-loop-k
invariant-loop-k l = ProgramPutting l.given l.initial.w l.initial.out l.k l.w l.out
