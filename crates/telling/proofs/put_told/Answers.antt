-- A word and a number, one behind the other. Assumes nothing.
use Rattle.lists.proofs.Again.{wrote_then}
use Rattle.telling.proofs.put_told.Goals as goal

pub returns : goal.returns
returns c = search wrote_then
