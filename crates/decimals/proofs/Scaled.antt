-- What `count_of` rounds up: the margin, scaled, and what rounding the centre lost. Assumes nothing.
use mathlib.Core.Path.{◌≡◌}
use Prim.Native.Nat.{ℕ, ◌+◌, ◌*◌, ◌^◌, ◌≤◌}
use native.Mathlib.Omega.{arith}
use mir.Syntax.{w64}
use mir.Val.{Fits}
use Rattle.rules.specs.declared.Ball.{Ball}
use Rattle.rules.specs.Numbers.{M, h, top_scale}
use Rattle.decimals.specs.Units.{tens}
use Rattle.decimals.specs.Out.{Countable}
use Rattle.decimals.proofs.Out.{doubt_most}

module _ {F d : ℕ} {b : Ball} (k : Countable F d b) {t : ℕ} (ten : t ≡ tens d) {l : ℕ} (lost : l ≤ h F) where
  doubt : b.margin * t + l ≤ M * 10 ^ 9 + 2 ^ 30
  doubt = rw ten (doubt_most k lost)

  pub doubt_fits : Fits w64 (b.margin * t + l)
  doubt_fits = record { fits = omega (arith, doubt) }

  pub doubt_rounds : b.margin * t + l ≤ M * M + 2 ^ top_scale
  doubt_rounds = omega (arith, doubt)
