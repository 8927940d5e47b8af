-- `spread` meets its contract: p·s + q·r is at most p·(q + s), since r is at most p. Assumes nothing.
use mathlib.Core.Path.{◌≡◌, refl, ap}
use mathlib.Core.List.{[], ◌∷◌}
use Prim.Native.Nat.{ℕ, ◌+◌, ◌*◌, ◌≤◌}
use native.Mathlib.Nat.{mul-le-mul, mul-le-mul_left}
use native.Mathlib.Omega.{arith}
use lib.IntN.{pos, nat_abs}
use Rattle.rules.specs.Numbers.{M}
use Rattle.whole.proofs.Ring.{ring, ◌⊕◌, ◌⊗◌, x₀, x₁, x₂}
use Rattle.rounding.proofs.spread.Statement.{statement}
use Rattle.rounding.proofs.spread.Tie as tie
use Rattle.rounding.proofs.spread.Reads as reads
use Rattle.rounding.proofs.spread.Lts as lts

jointly : (p s q r : ℕ) → p ≤ M → q + s ≤ M → r ≤ p → p * s + q * r ≤ M * M
jointly p s q r hp hq hr = omega (arith, mul-le-mul hp hq, mul-le-mul_left q hr, apart)
  where
    apart : p * (q + s) ≡ q * p + p * s
    apart = ap nat_abs (ring (pos p ∷ pos s ∷ pos q ∷ []) (x₀ ⊗ (x₂ ⊕ x₁)) (x₂ ⊗ x₀ ⊕ x₀ ⊗ x₁) refl)

together : (c : lts.Start reads.Pre reads.Post) → c.args.p * c.args.s + c.args.q * c.args.r ≤ M * M
together c = jointly c.args.p c.args.s c.args.q c.args.r c.requires.0 c.requires.1 c.requires.2

mul_result : tie.Need-overflow_mul-result
mul_result c = record { fits = omega (arith, together c) }

mul_result_2 : tie.Need-overflow_mul-result-2
mul_result_2 c = record { fits = omega (arith, together c) }

add_result : tie.Need-overflow_add-result
add_result c = record { fits = omega (arith, together c) }

returns : tie.Need-returns
returns c = (refl, together c)

pub spread_spec : {M : Type 1} → statement M
spread_spec = tie.close (tie.spec mul_result mul_result_2 add_result returns)
