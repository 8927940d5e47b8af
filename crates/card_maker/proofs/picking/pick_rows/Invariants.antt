-- The rows of the first k outputs are written.
use Rattle.card_maker.proofs.Picked.{RowsPicking}
use Rattle.card_maker.proofs.picking.pick_rows.Given as goal

abbrev pub invariant-loop-k : goal.invariant-loop-k
invariant-loop-k l = RowsPicking l.outputs l.fn.n l.fn.m l.work l.initial.out l.out l.k
