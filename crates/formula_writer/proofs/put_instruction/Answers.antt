-- Each form is put with the bits of its fields.
use borrow.Author.Rules.{rules}
use Rattle.putting.proofs.Instructions.{constant_put, one_put, margin_room, coefficient_put, divisor_put, two_put}
use Rattle.formula_writer.proofs.put_instruction.Goals as goal

pub put-requires-in-5 : goal.put-requires-in-5
put-requires-in-5 c = search (margin_room, rules)

pub returns-in-0 : goal.returns-in-0
returns-in-0 c = search (constant_put, rules)

pub returns-in-1 : goal.returns-in-1
returns-in-1 c = search (one_put, rules)

pub returns-in-5 : goal.returns-in-5
returns-in-5 c = search (coefficient_put, rules)

pub returns-in-6 : goal.returns-in-6
returns-in-6 c = search (divisor_put, rules)

pub returns-in_default : goal.returns-in_default
returns-in_default c = search (two_put, rules)
