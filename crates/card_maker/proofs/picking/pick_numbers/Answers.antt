-- The number that output k names goes behind those before it.
use Rattle.card_maker.proofs.Picked.{picking_more}
use Rattle.card_maker.proofs.picking.pick_numbers.Goals as goal

pub loop-k-preserved : goal.loop-k-preserved
loop-k-preserved c = search picking_more
