-- The first of them fit.
use Prim.Native.Nat.{◌*◌}
use Rattle.packing.specs.Slots.{output_slots}
use Rattle.fitting.proofs.Summing.{Summing}
use Rattle.fitting.proofs.results_size.Given as goal

abbrev pub invariant-loop-output : goal.invariant-loop-output
invariant-loop-output l = Summing (output_slots l.values) 0 l.outputs l.output-index (10 * l.output-index)
