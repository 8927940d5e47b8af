-- The lines of numbers. Assumes nothing.
use Rattle.std.proofs.Common.{rules, pos}
use Rattle.listing.proofs.Listed.{plain_told}
use Rattle.listing.proofs.outputs.put_plain.Goals as goal

pub returns : goal.returns
returns c =
    let l = c.put_lines.ensures in
    plain_told l.values c.args.values.now l.many l.writes (search rules) (λ i m. let g = l.given i (pos 0) m in search rules)
