-- `within` meets its contract: the three tests are one, and none of them overflows. Assumes nothing.
use mathlib.Core.Path.{sym}
use Prim.Native.Nat.{◌+◌, ◌-◌}
use native.Mathlib.Omega.{arith}
use borrow.Author.Rules.{rules}
use borrow.Author.Tests.{lt-leb}
use Rattle.rules.specs.Numbers.{M}
use Rattle.whole.proofs.Order.{leb_same}
use Rattle.rounding.proofs.within.Statement.{statement}
use Rattle.rounding.proofs.within.Tie as tie

returns : tie.Need-returns-then-size-gt-LIMIT
returns c = let s = c.before in sym (lt-leb (s.args.size + s.args.stray + s.args.margin) M (omega arith))

returns_2 : tie.Need-returns-then-size-stray
returns_2 c = let s = c.before.before in sym (lt-leb (s.args.size + s.args.stray + s.args.margin) M (omega arith))

returns_3 : tie.Need-returns
returns_3 c =
    let s = c.before.before in
    leb_same s.args.margin (M - s.args.size - s.args.stray) (s.args.size + s.args.stray + s.args.margin) M (omega arith) (omega arith)

pub within_spec : {M : Type 1} → statement M
within_spec = tie.close (tie.spec returns returns_2 (λ c. search rules) returns_3)
