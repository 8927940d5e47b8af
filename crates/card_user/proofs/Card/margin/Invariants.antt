-- The sum over the inputs before i.
use Rattle.card_user.proofs.Sums.{Added}
use Rattle.card_user.proofs.Card.margin.Given as goal

abbrev pub invariant-loop-i : goal.invariant-loop-i
invariant-loop-i l = Added l.self l.margins l.j l.sum l.i
