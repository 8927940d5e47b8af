-- Each ball is looked at.
use Rattle.card_user.proofs.Inside.{domain_there, ball_there, numbers_small, sticks_out, one_inside, all_looked_at}
use Rattle.card_user.proofs.testing.all_inside.Goals as goal

pub at-requires : goal.at-requires
at-requires c = search domain_there

pub at-requires-in-loop-i : goal.at-requires-in-loop-i
at-requires-in-loop-i c = search ball_there

pub is_inside-requires : goal.is_inside-requires
is_inside-requires c = search numbers_small

pub returns-then-not-is_inside : goal.returns-then-not-is_inside
returns-then-not-is_inside c = search sticks_out

pub loop-i-preserved : goal.loop-i-preserved
loop-i-preserved c = search one_inside

pub returns : goal.returns
returns c = search all_looked_at
