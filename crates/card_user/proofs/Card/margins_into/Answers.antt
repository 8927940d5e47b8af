-- A sum is past M, or one more is written, or all are.
use Rattle.card_user.proofs.Sums.{summed_all, sum_past, sum_kept}
use Rattle.card_user.proofs.Card.margins_into.Goals as goal

pub returns-in_default : goal.returns-in_default
returns-in_default c = search sum_past

pub loop-j-preserved : goal.loop-j-preserved
loop-j-preserved c = search sum_kept

pub returns : goal.returns
returns c = search summed_all
