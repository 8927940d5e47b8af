-- The row that output k names goes behind those before it.
use borrow.Author.Rules.{rules}
use Rattle.card_maker.proofs.Picked.{rows_more}
use Rattle.card_maker.proofs.picking.pick_rows.Goals as goal

pub loop-k-preserved : goal.loop-k-preserved
loop-k-preserved c = search (rows_more, rules)
