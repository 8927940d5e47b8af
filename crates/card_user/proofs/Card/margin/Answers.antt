-- It begins with E, and each input adds its rise.
use Rattle.card_user.proofs.Sums.{added_none, rising, added_one, added_past}
use Rattle.card_user.proofs.Card.margin.Goals as goal

pub loop-i-init : goal.loop-i-init
loop-i-init c = search added_none

pub rise-sum-requires : goal.rise-sum-requires
rise-sum-requires c = search rising

pub returns-then-sum-gt-LIMIT : goal.returns-then-sum-gt-LIMIT
returns-then-sum-gt-LIMIT c = search added_past

pub loop-i-preserved : goal.loop-i-preserved
loop-i-preserved c = search added_one
