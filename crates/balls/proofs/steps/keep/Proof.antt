-- `keep` meets its contract: the test is that of the reach. Assumes nothing.
use mathlib.Core.Path.{◌≡◌, sym, ◌∙◌}
use Prim.Native.Nat.{◌+◌, ◌≤◌, ◌<◌}
use native.Mathlib.Omega.{arith}
use borrow.Author.Rules.{rules}
use borrow.Author.Tests.{leb-true, leb-false}
use lib.IntN.{nat_abs}
use lib.Signed.{nat_abs-le}
use Rattle.rules.specs.Numbers.{M}
use Rattle.rules.specs.Values.{ball_reach}
use Rattle.rules.proofs.Reach.{reach_accepts, reach_refuses}
use Rattle.whole.proofs.Machine.{size_back}
use Rattle.balls.proofs.steps.keep.Statement.{statement}
use Rattle.balls.proofs.steps.keep.Tie as tie

sum_within_requires : tie.Need-sum_within-requires
sum_within_requires c κs =
    let s = c.before.before in
    let b = s.args.b in
    let told = c.before.struct_told-1.given.0.1 in
    let e : c.magnitude.result ≡ nat_abs b.centre = c.magnitude.ensures ∙ size_back b.centre told in
    omega (arith, e, nat_abs-le b.centre told, s.requires)

returns : tie.Need-returns-then-sum_within
returns c =
    let s = c.before.before.before.before in
    let b = s.args.b in
    let m = c.before.before.magnitude in
    let e : m.result ≡ nat_abs b.centre = m.ensures ∙ size_back b.centre c.before.before.before.struct_told-1.given.0.1 in
    let t : m.result + 0 + b.margin ≤ M = leb-true (m.result + 0 + b.margin) M (sym c.before.sum_within.ensures ∙ c.if-sum_within.true) in
    sym (reach_accepts ball_reach b (omega arith))

returns_2 : tie.Need-returns-else-sum_within
returns_2 c =
    let s = c.before.before.before.before in
    let b = s.args.b in
    let m = c.before.before.magnitude in
    let e : m.result ≡ nat_abs b.centre = m.ensures ∙ size_back b.centre c.before.before.before.struct_told-1.given.0.1 in
    let t : M < m.result + 0 + b.margin = leb-false (m.result + 0 + b.margin) M (sym c.before.sum_within.ensures ∙ c.if-sum_within.false) in
    sym (reach_refuses ball_reach b (omega arith))

pub keep_spec : {M : Type 1} → statement M
keep_spec = tie.close (tie.spec (λ c κs. search rules) sum_within_requires returns returns_2)
