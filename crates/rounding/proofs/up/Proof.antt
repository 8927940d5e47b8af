-- `up` meets its contract: p + Q − 1 fits, and the shift is the floor. Assumes nothing.
use mathlib.Core.Path.{◌≡◌, ap}
use Prim.Native.Nat.{ℕ, ◌+◌, ◌-◌, ◌/◌}
use native.Mathlib.Omega.{arith}
use borrow.Author.Rules.{rules}
use lib.Pow.{pow_pos}
use Rattle.rules.specs.Numbers.{Q, Up}
use Rattle.rounding.proofs.Units.{unit_part, unit_bound, up_size}
use Rattle.rounding.proofs.up.Statement.{statement}
use Rattle.rounding.proofs.up.Tie as tie
use Rattle.rounding.proofs.up.Reads as reads
use Rattle.rounding.proofs.up.Lts as lts
use Rattle.rounding.proofs.part.Reads as part_reads

is_most : (c : lts.After-part (part_reads.Asked, part_reads.Learnt) reads.Pre reads.Post) → c.part.result ≡ Q c.before.args.scale - 1
is_most c = omega (arith, c.part.ensures, unit_part c.before.args.scale)

part_requires : tie.Need-part-requires
part_requires c κs = (c.requires.0, omega arith, omega (arith, unit_part c.args.scale, pow_pos c.args.scale))

add_result : tie.Need-overflow_add-result
add_result c = record { fits = omega (arith, is_most c, unit_bound c.before.requires.0, c.before.requires.1) }

returns : tie.Need-returns
unfolding Up
returns c =
    let a = c.before.args in
    let e = ap (λ (n : ℕ). (a.p + n) / Q a.scale) (is_most c) in
    (e, rw e (up_size a.p c.before.requires.0 c.before.requires.1))

pub up_spec : {M : Type 1} → statement M
up_spec = tie.close (tie.spec part_requires add_result (λ c. search rules) returns)
