-- A mark, and a number behind it. Assumes nothing.
use Rattle.lists.proofs.Again.{wrote_behind}
use Rattle.printing.proofs.numbers.put_marked.Goals as goal

pub returns : goal.returns
returns c = search wrote_behind
