-- The outputs' numbers are filled in, and what they name is picked.
use borrow.Author.Rules.{rules}
use Rattle.card_maker.proofs.Filed.{outputs_pickable, static_pickable, slopes_pickable, card_written}
use Rattle.card_maker.proofs.picking.write.Goals as goal

pub fill_outputs-requires : goal.fill_outputs-requires
fill_outputs-requires c = search outputs_pickable

pub pick_numbers-requires : goal.pick_numbers-requires
pick_numbers-requires c = search (static_pickable, rules)

pub pick_rows-requires : goal.pick_rows-requires
pick_rows-requires c = search (slopes_pickable, rules)

pub returns : goal.returns
returns c = search (card_written, rules)
