-- The bits of the first k are summed up.
use Rattle.packing.specs.Slots.{instruction_slots}
use Rattle.fitting.proofs.Summing.{Summing}
use Rattle.fitting.proofs.program_size.Given as goal

abbrev pub invariant-loop-k : goal.invariant-loop-k
invariant-loop-k l = Summing (instruction_slots l.scale) l.inputs l.given.program l.k l.bits
