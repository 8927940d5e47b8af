-- `keep` meets its contract: the test is that of the reach. Assumes nothing.
use mathlib.Core.Path.{◌≡◌, sym, ◌∙◌}
use Prim.Native.Nat.{◌+◌, ◌≤◌, ◌<◌}
use native.Mathlib.Omega.{arith}
use borrow.Author.Rules.{rules}
use borrow.Author.Tests.{leb-true, leb-false}
use lib.IntN.{nat_abs}
use lib.Signed.{nat_abs-le}
use Rattle.rules.specs.Numbers.{M}
use Rattle.rules.specs.Values.{matryoshka_reach}
use Rattle.rules.proofs.Reach.{reach_accepts, reach_refuses}
use Rattle.whole.proofs.Machine.{size_back}
use Rattle.matryoshki.proofs.steps.keep.Statement.{statement}
use Rattle.matryoshki.proofs.steps.keep.Tie as tie

sum_within_requires : tie.Need-sum_within-requires
sum_within_requires c κs =
    let s = c.before.before in
    let m = s.args.m in
    let told = c.before.struct_told-1.given.0.1 in
    let e : c.magnitude.result ≡ nat_abs m.middle = c.magnitude.ensures ∙ size_back m.middle told in
    omega (arith, e, nat_abs-le m.middle told, s.requires)

returns : tie.Need-returns-then-sum_within
returns c =
    let s = c.before.before.before.before in
    let m = s.args.m in
    let n = c.before.before.magnitude in
    let e : n.result ≡ nat_abs m.middle = n.ensures ∙ size_back m.middle c.before.before.before.struct_told-1.given.0.1 in
    let t : n.result + m.stray + m.margin ≤ M = leb-true (n.result + m.stray + m.margin) M (sym c.before.sum_within.ensures ∙ c.if-sum_within.true) in
    sym (reach_accepts matryoshka_reach m (omega arith))

returns_2 : tie.Need-returns-else-sum_within
returns_2 c =
    let s = c.before.before.before.before in
    let m = s.args.m in
    let n = c.before.before.magnitude in
    let e : n.result ≡ nat_abs m.middle = n.ensures ∙ size_back m.middle c.before.before.before.struct_told-1.given.0.1 in
    let t : M < n.result + m.stray + m.margin = leb-false (n.result + m.stray + m.margin) M (sym c.before.sum_within.ensures ∙ c.if-sum_within.false) in
    sym (reach_refuses matryoshka_reach m (omega arith))

pub keep_spec : {M : Type 1} → statement M
keep_spec = tie.close (tie.spec (λ c κs. search rules) sum_within_requires returns returns_2)
