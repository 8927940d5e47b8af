-- Small numbers are as the machine keeps them.
use Rattle.card_user.proofs.Inside.{inside_told}
use Rattle.card_user.proofs.testing.is_inside.Goals as goal

pub returns : goal.returns
returns c = search inside_told
