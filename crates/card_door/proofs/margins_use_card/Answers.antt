-- A card has at most 16 outputs.
use Rattle.card_door.proofs.CardTelling.{use_few}
use Rattle.card_door.proofs.margins_use_card.Goals as goal

pub replied-requires : goal.replied-requires
replied-requires c = search use_few
