-- What is read off the loaded cursor is read from its place.
use Rattle.packed.proofs.Inside.{read_from, read_below, from_place}
use Rattle.reading.proofs.read_whole.Goals as goal

pub returns-in-0 : goal.returns-in-0
returns-in-0 c = search (from_place, read_from)

pub returns-in-1-to-4 : goal.returns-in-1-to-4
returns-in-1-to-4 c = search (from_place, read_below)
