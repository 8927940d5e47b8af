-- The line of a refusal. Assumes nothing.
use Rattle.std.proofs.Common.{rules}
use Rattle.telling.proofs.Headline.{place_room, wrote_refused}
use Rattle.telling.proofs.put_refused.Goals as goal

pub put_place-requires : goal.put_place-requires
put_place-requires c = search (place_room, rules)

pub returns : goal.returns
returns c = search wrote_refused
