-- `round` meets its contract: p + h fits 64 bits, and the shift is the floor. Assumes nothing.
use mathlib.Core.Path.{◌≡◌, ◌∙◌, ap}
use mathlib.Core.List.{[], ◌∷◌}
use Prim.Native.Nat.{ℕ, ◌*◌, ◌^◌, ◌≤◌}
use native.Mathlib.Omega.{arith}
use borrow.Author.Rules.{rules}
use lib.IntN.{ℤ, pos, ◌+ℤ◌}
use lib.Signed.{shr_z}
use Rattle.rules.specs.Numbers.{M, h, Round}
use Rattle.whole.proofs.Ring.{◌⊕◌, x₀, x₁}
use Rattle.whole.proofs.Size.{Within, more, none}
use Rattle.whole.proofs.Machine.{back, held_is, fits, fits_size, worth_fits, back_shr}
use Rattle.rounding.proofs.Units.{half_part, half_bound}
use Rattle.rounding.proofs.round.Statement.{statement}
use Rattle.rounding.proofs.round.Tie as tie
use Rattle.rounding.proofs.round.Reads as reads
use Rattle.rounding.proofs.round.Lts as lts
use Rattle.rounding.proofs.part.Reads as part_reads

is_half : (c : lts.After-part (part_reads.Asked, part_reads.Learnt) reads.Pre reads.Post) → c.part.result ≡ h c.before.args.scale
is_half c = omega (arith, c.part.ensures, half_part c.before.args.scale)

small : (c : lts.After-part (part_reads.Asked, part_reads.Learnt) reads.Pre reads.Post) → c.part.result ≤ 2 ^ 30
small c = omega (arith, is_half c, half_bound c.before.requires.0)

-- p, and what is added to it
bounds : (c : lts.After-part (part_reads.Asked, part_reads.Learnt) reads.Pre reads.Post) → Within (c.before.args.p ∷ pos c.part.result ∷ []) (M * M ∷ 2 ^ 30 ∷ [])
bounds c = more c.before.requires.1 (more (small c) none)

cast_result : tie.Need-overflow_cast-result
cast_result c = fits_size (omega (arith, small c))

add_result : tie.Need-overflow_add-result
add_result c = fits (bounds c) (x₀ ⊕ x₁) tt

returns : tie.Need-returns
unfolding Round
returns c =
    let q = 2 ^ c.before.args.scale in
    let sum = held_is (bounds c) (x₀ ⊕ x₁) tt in
    ap (λ (z : ℤ). back (shr_z z q)) sum
    ∙ back_shr (c.before.args.p +ℤ pos c.part.result) q (worth_fits (bounds c) (x₀ ⊕ x₁) tt)
    ∙ ap (λ (n : ℕ). shr_z (c.before.args.p +ℤ pos n) q) (is_half c)

pub round_spec : {M : Type 1} → statement M
round_spec =
    tie.close (tie.spec (λ c κs. search rules) cast_result add_result (λ c. search rules) (λ c. search rules) returns)
