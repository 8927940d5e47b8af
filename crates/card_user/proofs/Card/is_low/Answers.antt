-- A static margin is over M, or the slopes decide.
use Rattle.card_user.proofs.Lows.{static_large, by_slopes}
use Rattle.card_user.proofs.Card.is_low.Goals as goal

pub returns-then-all_small : goal.returns-then-all_small
returns-then-all_small c = search by_slopes

pub returns-else-all_small : goal.returns-else-all_small
returns-else-all_small c = search static_large
