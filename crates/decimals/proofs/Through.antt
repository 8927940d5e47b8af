-- From a ball to decimals and back to a ball, at any scale: what the first contains, the second contains. Assumes nothing.
use Prim.Native.Nat.{ℕ}
use Rattle.rules.specs.declared.Ball.{Ball}
use Rattle.rules.specs.Values.{Fraction, Contains}
use Rattle.decimals.specs.Out.{out_number, out_margin}
use Rattle.decimals.specs.In.{into}
use Rattle.decimals.proofs.Out.{out_near}
use Rattle.decimals.proofs.In.{in_contains}

-- the ball that is read from what was written
abbrev pub again : ℕ → ℕ → ℕ → Ball → Ball
again F d G b = into G (out_number F d b) (out_margin F d b)

pub again_contains : (F d G : ℕ) {b : Ball} {x : Fraction} → Contains F b x → Contains G (again F d G b) x
again_contains F d G p = in_contains G (out_near F d p)
