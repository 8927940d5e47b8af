-- `read` reads what its digits mean, pair by pair. Assumes nothing.
use Rattle.hex_bytes.proofs.Hexes.{pairs_bad, pairs_one, pairs_all, pairs_odd}
use Rattle.hex_bytes.proofs.read.Goals as goal

pub returns-in_err-out : goal.returns-in_err-out
returns-in_err-out c = search (pairs_bad, c.in_err-out.was)

pub loop-n-preserved : goal.loop-n-preserved
loop-n-preserved c = search (pairs_one, c.in_ok-out.was)

pub returns-then-s-eq0 : goal.returns-then-s-eq0
returns-then-s-eq0 c = search pairs_all

pub returns-else-s-eq0 : goal.returns-else-s-eq0
returns-else-s-eq0 c = search pairs_odd
