-- What is loaded is what is ahead of the cursor.
use Rattle.packed.proofs.Taking.{loads}
use Rattle.packed.proofs.loaded.load.Goals as goal

pub returns : goal.returns
returns c = search loads
