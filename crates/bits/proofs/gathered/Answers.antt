-- The loop begins at the end, goes one byte back, and stops at the window.
use Rattle.bits.proofs.Ends.{gone_back}
use Rattle.bits.proofs.gathered.Goals as goal

pub returns : goal.returns
returns c = search gone_back
