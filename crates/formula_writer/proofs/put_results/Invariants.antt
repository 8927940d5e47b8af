-- The first of them are put.
use Rattle.putting.proofs.Turns.{ResultsPutting}
use Rattle.formula_writer.proofs.put_results.Given as goal

abbrev pub invariant-loop-output : goal.invariant-loop-output
invariant-loop-output l = ResultsPutting l.outputs l.initial.w l.initial.out l.output-index l.w l.out
