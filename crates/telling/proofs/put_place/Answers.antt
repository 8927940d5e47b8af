-- A place, and room for the end of its line. Assumes nothing.
use Rattle.std.proofs.Common.{rules}
use Rattle.telling.proofs.Headline.{place_end}
use Rattle.telling.proofs.put_place.Goals as goal

pub put-requires : goal.put-requires
put-requires c = search (place_end, rules)
