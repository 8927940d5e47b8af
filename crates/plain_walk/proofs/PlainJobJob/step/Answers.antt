-- Each instruction's step, on the values that its operands name.
use borrow.Author.Rules.{rules}
use Rattle.formulas.specs.Kinds.{plain_kind}
use Rattle.formulas.proofs.Lawful.{plain_lawful}
use Rattle.walks.proofs.Stepping.{operand_of, operand_legal, negate_named, add_first, add_second, subtract_first, subtract_second, multiply_first, multiply_second, reciprocal_named, reciprocal_scaled}
use Rattle.walks.proofs.Stepping.{did_constant, did_negate, did_add, did_subtract, did_multiply, did_coefficient, did_reciprocal, bare_coefficient}
use Rattle.plain_walk.proofs.Lent.{plain_kept}
use Rattle.plain_walk.proofs.PlainJobJob.step.Goals as goal

pub negate-requires : goal.negate-requires
negate-requires c = search (operand_legal plain_lawful, negate_named plain_kind, plain_kept, rules)

pub add-requires : goal.add-requires
add-requires c = search (operand_legal plain_lawful, add_first plain_kind, add_second plain_kind, plain_kept, rules)

pub subtract-requires : goal.subtract-requires
subtract-requires c = search (operand_legal plain_lawful, subtract_first plain_kind, subtract_second plain_kind, plain_kept, rules)

pub multiply-requires : goal.multiply-requires
multiply-requires c = search (operand_legal plain_lawful, multiply_first plain_kind, multiply_second plain_kind, plain_kept, rules)

pub reciprocal-requires : goal.reciprocal-requires
reciprocal-requires c = search (operand_legal plain_lawful, reciprocal_named plain_kind, reciprocal_scaled plain_kind, plain_kept, rules)

pub returns-in-Constant : goal.returns-in-Constant
returns-in-Constant c = search (did_constant plain_kind)

pub returns-in-Negate : goal.returns-in-Negate
returns-in-Negate c = search (did_negate plain_kind, operand_of plain_lawful, negate_named plain_kind, plain_kept)

pub returns-in-Add : goal.returns-in-Add
returns-in-Add c = search (did_add plain_kind, operand_of plain_lawful, add_first plain_kind, add_second plain_kind, plain_kept)

pub returns-in-Subtract : goal.returns-in-Subtract
returns-in-Subtract c = search (did_subtract plain_kind, operand_of plain_lawful, subtract_first plain_kind, subtract_second plain_kind, plain_kept)

pub returns-in-Multiply : goal.returns-in-Multiply
returns-in-Multiply c = search (did_multiply plain_kind, operand_of plain_lawful, multiply_first plain_kind, multiply_second plain_kind, plain_kept)

pub returns-in-Reciprocal : goal.returns-in-Reciprocal
returns-in-Reciprocal c = search (did_reciprocal plain_kind, operand_of plain_lawful, reciprocal_named plain_kind, plain_kept)

pub returns-in-Coefficient : goal.returns-in-Coefficient
returns-in-Coefficient c = search (did_coefficient plain_kind, bare_coefficient)
