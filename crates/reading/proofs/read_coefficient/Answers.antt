-- Over M there is no constant.
use Rattle.reading.proofs.Found.{over_limit}
use Rattle.reading.proofs.read_coefficient.Goals as goal

pub returns : goal.returns
returns c = search over_limit
