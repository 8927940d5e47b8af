-- A byte written. Assumes nothing.
use Rattle.lists.proofs.Again.{wrote_byte}
use Rattle.printing.proofs.bytes.put.Goals as goal

pub returns : goal.returns
returns c = wrote_byte c.args.b c.requires
