-- An instruction refuses, or one more is passed, or all are.
use borrow.Author.Rules.{rules}
use Rattle.checking.proofs.Several.{all_passed, instruction_refused, instruction_passed}
use Rattle.checking.proofs.passing.pass_instructions.Goals as goal

pub returns-in_err-at : goal.returns-in_err-at
returns-in_err-at c = search (instruction_refused, rules)

pub loop-below-preserved : goal.loop-below-preserved
loop-below-preserved c = search (instruction_passed, rules)

pub returns : goal.returns
returns c = search (all_passed, rules)
