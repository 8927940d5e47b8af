-- The sums go in front.
use Rattle.card_user.proofs.Fronts.{sums_put}
use Rattle.card_user.proofs.Card.put_margins.Goals as goal

pub returns : goal.returns
returns c = sums_put c.requires.0 c.margins_into.ensures c.in_ok-margins_into.was c.copy_from_slice.ensures.after
