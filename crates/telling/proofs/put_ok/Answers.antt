-- The first line of a job that ended. Assumes nothing.
use Rattle.std.proofs.Common.{rules}
use Rattle.telling.proofs.Headline.{ok_room, wrote_ok}
use Rattle.telling.proofs.put_ok.Goals as goal

pub put-requires : goal.put-requires
put-requires c = search (ok_room, rules)

pub returns : goal.returns
returns c = search wrote_ok
