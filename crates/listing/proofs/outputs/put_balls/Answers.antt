-- The lines of balls. Assumes nothing.
use Rattle.std.proofs.Common.{rules}
use Rattle.rules.specs.Lists.{no_ball}
use Rattle.listing.proofs.Listed.{balls_told}
use Rattle.listing.proofs.outputs.put_balls.Goals as goal

pub returns : goal.returns
returns c =
    let l = c.put_lines.ensures in
    balls_told l.values c.args.centres.now c.args.margins.now l.many l.writes (search rules) (search rules)
    (λ i m. let g = l.given i no_ball m in search rules)
