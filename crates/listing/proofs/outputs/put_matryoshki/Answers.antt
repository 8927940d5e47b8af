-- The lines of matryoshki. Assumes nothing.
use Rattle.std.proofs.Common.{rules}
use Rattle.rules.specs.Lists.{no_matryoshka}
use Rattle.listing.proofs.Listed.{matryoshki_told}
use Rattle.listing.proofs.outputs.put_matryoshki.Goals as goal

pub returns : goal.returns
returns c =
    let l = c.put_lines.ensures in
    matryoshki_told l.values c.args.middles.now c.args.strays.now c.args.margins.now l.many l.writes (search rules) (search rules) (search rules)
    (λ i m. let g = l.given i no_matryoshka m in search rules)
