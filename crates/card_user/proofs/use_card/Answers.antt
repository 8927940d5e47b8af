-- The scale refuses, or the counts, or what follows.
use Rattle.card_user.proofs.Begun.{no_scale, no_counts, begun}
use Rattle.card_user.proofs.use_card.Goals as goal

pub returns-then-not-below : goal.returns-then-not-below
returns-then-not-below c = rw c.into.ensures (search no_scale)

pub returns-then-not-counts_fit : goal.returns-then-not-counts_fit
returns-then-not-counts_fit c = rw c.into-then-not-counts_fit.ensures (search no_counts)

pub with_counts-requires : goal.with_counts-requires
with_counts-requires c = search begun
