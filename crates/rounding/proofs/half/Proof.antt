-- `half` meets its contract. Assumes nothing.
use native.Mathlib.Omega.{arith}
use borrow.Author.Rules.{rules}
use Rattle.rounding.proofs.Units.{half_part, half_bound}
use Rattle.rounding.proofs.half.Statement.{statement}
use Rattle.rounding.proofs.half.Tie as tie

returns : tie.Need-returns
returns c =
    let s = c.before in
    let e = half_part s.args.scale in (
      omega (arith, c.part.ensures, e),
      omega (arith, c.part.ensures, e, half_bound s.requires),
    )

pub half_spec : {M : Type 1} → statement M
half_spec = tie.close (tie.spec (λ c κs. search rules) returns)
