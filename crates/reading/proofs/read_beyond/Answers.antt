-- What is read whichever value is made, and at whichever scale; and no code but 5 and 6.
use Rattle.packed.proofs.Inside.{read_from}
use Rattle.packed.proofs.Margins.{no_such_code}
use Rattle.reading.proofs.read_beyond.Goals as goal

pub returns-in-5 : goal.returns-in-5
returns-in-5 c = search read_from

pub returns-in_default : goal.returns-in_default
returns-in_default c = search no_such_code
