-- The numbers of the first k outputs are written.
use Rattle.card_maker.proofs.Picked.{Picking}
use Rattle.card_maker.proofs.picking.pick_numbers.Given as goal

abbrev pub invariant-loop-k : goal.invariant-loop-k
invariant-loop-k l = Picking l.outputs l.fn.n l.work l.initial.out l.out l.k
