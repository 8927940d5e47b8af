-- `keep` meets its contract: the test is that of the reach. Assumes nothing.
use mathlib.Core.Path.{◌≡◌, sym, ◌∙◌, ap}
use Prim.Native.Nat.{◌+◌, ◌≤◌, ◌<◌}
use native.Mathlib.Omega.{arith}
use borrow.Author.Rules.{rules}
use borrow.Author.Tests.{leb-true, leb-false}
use lib.IntN.{nat_abs}
use mir.Syntax.{w64}
use mir.ValLaws.{to_z-of_z}
use Rattle.rules.specs.Numbers.{M}
use Rattle.rules.specs.Values.{plain_reach}
use Rattle.refusals.specs.Answer.{value}
use Rattle.rules.proofs.Reach.{reach_accepts, reach_refuses}
use Rattle.whole.proofs.Machine.{size_back}
use Rattle.plain.proofs.steps.keep.Statement.{statement}
use Rattle.plain.proofs.steps.keep.Tie as tie

returns : tie.Need-returns-then-within
returns c =
    let s = c.before.before.before in
    let x = s.args.x in
    let m = c.before.before.magnitude in
    let e : m.result ≡ nat_abs x = m.ensures ∙ size_back x s.ranges.x.sfits in
    let t : m.result + 0 + 0 ≤ M = leb-true (m.result + 0 + 0) M (sym c.before.within.ensures ∙ c.if-within.true) in
    ap value (to_z-of_z w64 x s.ranges.x) ∙ sym (reach_accepts plain_reach x (omega arith))

returns_2 : tie.Need-returns-else-within
returns_2 c =
    let s = c.before.before.before in
    let x = s.args.x in
    let m = c.before.before.magnitude in
    let e : m.result ≡ nat_abs x = m.ensures ∙ size_back x s.ranges.x.sfits in
    let t : M < m.result + 0 + 0 = leb-false (m.result + 0 + 0) M (sym c.before.within.ensures ∙ c.if-within.false) in
    sym (reach_refuses plain_reach x (omega arith))

pub keep_spec : {M : Type 1} → statement M
keep_spec = tie.close (tie.spec (λ c κs. search rules) (λ c κs. search rules) returns returns_2)
