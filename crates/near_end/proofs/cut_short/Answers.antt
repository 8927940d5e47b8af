-- The first operand is cut, or the second is where a second is asked for.
use Rattle.packed.proofs.Inside.{cut_first, cut_or_second}
use Rattle.near_end.proofs.cut_short.Goals as goal

pub returns-then-ended : goal.returns-then-ended
returns-then-ended c = search cut_first

pub returns : goal.returns
returns c = search cut_or_second
