-- A card has at most 16 outputs.
use Rattle.card_door.proofs.CardTelling.{card_few}
use Rattle.card_door.proofs.margins_make_card.Goals as goal

pub replied-requires : goal.replied-requires
replied-requires c = search card_few
