-- What is ahead begins with the field, and what is below it is cut off.
use mathlib.Core.Path.{refl}
use Prim.Native.Nat.{◌-◌, ◌/◌, ◌^◌}
use native.Mathlib.Nat.{mod-lt}
use native.Mathlib.Omega.{arith}
use lib.Pow.{pow_pos}
use Rattle.whole.proofs.Machine.{one_shifted}
use Rattle.bits.proofs.Take.{field_short, field_ahead}
use Rattle.bits.proofs.Cursor.field.Goals as goal

pub returns-then-s-end : goal.returns-then-s-end
returns-then-s-end c =
    let a = c.args in
    (field_short a.s.now a.self a.width (omega arith) (omega arith), tt)

pub returns : goal.returns
returns c =
    let a = c.args in
    let w = a.width in
    let x = c.ahead.result in (
      field_ahead a.s.now a.self w (omega arith) x (omega arith) (omega arith) c.ahead.ensures.fields,
      (refl, rw (one_shifted w (omega arith)) (mod-lt (x / 2 ^ (64 - w)) (pow_pos w))),
    )
