-- The readings refuse, or a margin, or the room, or nothing.
use Rattle.card_maker.proofs.Rest.{test_moves, test_short, test_passes}
use Rattle.card_maker.proofs.testing.test.Goals as goal

pub returns-then-not-still : goal.returns-then-not-still
returns-then-not-still c = rw c.into.ensures (test_moves c.test.ensures c.in_ok-test.was c.still.ensures c.if-not-still.true)

pub returns-then-not-enough : goal.returns-then-not-enough
returns-then-not-enough c =
    rw c.into-then-not-enough.ensures
    (test_short c.test.ensures c.in_ok-test.was c.still.ensures c.if-not-still.false c.enough.ensures c.if-not-enough.true)

pub returns : goal.returns
returns c = test_passes c.test.ensures c.in_ok-test.was c.still.ensures c.if-not-still.false c.enough.ensures c.if-not-enough.false
