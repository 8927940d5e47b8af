-- The tests refuse, there is no room, or the bytes stand in front.
use native.Mathlib.Omega.{arith}
use borrow.Author.Rules.{rules}
use Rattle.std.proofs.lemmas.Result.{err_from_is_err_and}
use Rattle.putting.proofs.Packings.{tests_refuse, room_refuses, formula_packed}
use Rattle.packer.proofs.pack.Goals as goal

pub returns-in_err-bits : goal.returns-in_err-bits
returns-in_err-bits c =
    let p = err_from_is_err_and c.from_residual.result c.from_residual.ensures.1 in
    rw (p.1, p.2) (search (tests_refuse, c.in_err-bits.ensures, rules))

pub returns-then-out-bytes : goal.returns-then-out-bytes
returns-then-out-bytes c = room_refuses c.args.scale c.args.inputs _ c.ranges.scale c.ranges.inputs c.in_ok-bits.ensures _ (omega arith) (search rules)

pub returns : goal.returns
returns c = formula_packed c.args.scale c.args.inputs _ c.ranges.scale c.ranges.inputs c.in_ok-bits.ensures (omega arith) c.write.ensures
