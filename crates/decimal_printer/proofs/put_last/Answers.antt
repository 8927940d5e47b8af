-- One digit more in front of those that stand.
use native.Mathlib.Omega.{arith}
use Rattle.decimal_printer.proofs.Last.{last_begins, last_more, last_ended}
use Rattle.decimal_printer.proofs.put_last.Goals as goal

pub loop-place-init : goal.loop-place-init
loop-place-init c = last_begins (omega arith) (omega arith)

pub loop-place-preserved : goal.loop-place-preserved
loop-place-preserved c = search last_more

pub returns : goal.returns
returns c = search last_ended
