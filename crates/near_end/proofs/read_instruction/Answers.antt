-- The code is cut; otherwise what is read off the loaded cursor is read from its place.
use Rattle.packed.proofs.Inside.{cut_code, read_below, read_from, from_place}
use Rattle.near_end.proofs.read_instruction.Goals as goal

pub returns-then-ended : goal.returns-then-ended
returns-then-ended c = search (from_place, read_below, cut_code)

pub returns-in-0 : goal.returns-in-0
returns-in-0 c = search (from_place, read_from)

pub returns-else-cut_short : goal.returns-else-cut_short
returns-else-cut_short c = search (from_place, read_below)
