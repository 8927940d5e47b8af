-- The bytes end, or an output names no value, or one more is passed, or all are.
use borrow.Author.Rules.{rules}
use Rattle.checking.proofs.Several.{outputs_passed, output_ended, output_refused, output_passed}
use Rattle.checking.proofs.passing.pass_outputs.Goals as goal

pub returns-in_default : goal.returns-in_default
returns-in_default c = search (output_ended, rules)

pub returns-then-below-n : goal.returns-then-below-n
returns-then-below-n c = search (output_refused, rules)

pub loop-k-preserved : goal.loop-k-preserved
loop-k-preserved c = search (output_passed, rules)

pub returns : goal.returns
returns c = search (outputs_passed, rules)
