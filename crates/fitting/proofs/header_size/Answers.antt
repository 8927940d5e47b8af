-- By the lengths of the lists.
use Rattle.std.proofs.lemmas.Grind.{common_steps}
use Rattle.std.proofs.Common.{arith}
use Rattle.fitting.proofs.Wholes.{count_is}
use Rattle.fitting.proofs.header_size.Goals as goal

pub returns-then-not-below-2 : goal.returns-then-not-below-2
returns-then-not-below-2 c = rw (← c.given.view_is, count_is) (grind (arith, common_steps))

pub returns : goal.returns
returns c = rw (← c.given.view_is, count_is) (grind (arith, common_steps))
