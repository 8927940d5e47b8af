-- The sums before output j are written, and none is over M.
use Rattle.card_user.proofs.Sums.{Summed}
use Rattle.card_user.proofs.Card.margins_into.Given as goal

abbrev pub invariant-loop-j : goal.invariant-loop-j
invariant-loop-j l = Summed l.self l.margins l.initial.out l.out l.j
