-- `over_units` meets its contract: the bits below one unit are the remainder. Assumes nothing.
use mathlib.Core.Path.{◌∙◌, ap}
use Prim.Native.Nat.{ℕ, ◌-◌}
use native.Mathlib.Nat.{mod-lt}
use native.Mathlib.Omega.{arith}
use lib.Bits.{bit_and, and_mask}
use lib.Pow.{pow_pos}
use Rattle.rounding.proofs.Units.{unit_part, unit_bound}
use Rattle.rounding.proofs.over_units.Statement.{statement}
use Rattle.rounding.proofs.over_units.Tie as tie

part_requires : tie.Need-part-requires
part_requires c κs = (c.requires, omega arith, omega (arith, unit_part c.args.scale, pow_pos c.args.scale))

returns : tie.Need-returns
returns c =
    let F = c.before.args.scale in
    let p = c.before.args.p in
    let e = ap (bit_and p) (c.part.ensures ∙ ap (λ (n : ℕ). n - 1) (unit_part F)) ∙ and_mask p F in
    (e, omega (arith, e, mod-lt p (pow_pos F), unit_bound c.before.requires))

pub over_units_spec : {M : Type 1} → statement M
over_units_spec = tie.close (tie.spec part_requires returns)
