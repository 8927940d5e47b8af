-- None is given out, one more, and all.
use native.Mathlib.Omega.{arith}
use borrow.Author.Rules.{rules}
use Rattle.writing.proofs.Giving.{closing_none, closing_one, closing_all}
use Rattle.writing.proofs.Writer.finish.Goals as goal

pub loop-k-init : goal.loop-k-init
loop-k-init c = search (closing_none, rules)

pub loop-k-preserved : goal.loop-k-preserved
loop-k-preserved c = closing_one c.loop-k.invariant (omega arith) (omega arith)

pub returns : goal.returns
returns c = closing_all c.args.self c.loop-k.invariant (omega arith) (omega arith) (omega arith) (omega arith)
