-- A line a turn. Assumes nothing.
use Rattle.std.proofs.Common.{rules}
use Rattle.listing.proofs.Listed.{lists_none, lists_room, lists_next, lists_all}
use Rattle.listing.proofs.outputs.put_lines.Goals as goal

pub loop-i-init : goal.loop-i-init
loop-i-init g c = search (lists_none, rules)

pub put_line-next-requires : goal.put_line-next-requires
put_line-next-requires g c = search (lists_room, g.met.T.Fields.short, rules)

pub loop-i-preserved : goal.loop-i-preserved
loop-i-preserved g c = search (lists_next, rules)

pub returns : goal.returns
returns g c = search (lists_all, rules)
