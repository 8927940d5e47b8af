-- Each instruction's step, on the values that its operands name.
use borrow.Author.Rules.{rules}
use Rattle.formulas.specs.Kinds.{matryoshka_kind}
use Rattle.formulas.proofs.Lawful.{matryoshka_lawful}
use Rattle.walks.proofs.Stepping.{operand_of, operand_legal, coefficient_small, negate_named, add_first, add_second, subtract_first, subtract_second, multiply_first, multiply_second, reciprocal_named, reciprocal_scaled}
use Rattle.walks.proofs.Stepping.{did_constant, did_negate, did_add, did_subtract, did_multiply, did_coefficient, did_reciprocal}
use Rattle.matryoshka_walk.proofs.Lent.{matryoshka_kept}
use Rattle.matryoshka_walk.proofs.DomainJobJob.step.Goals as goal

pub negate-requires : goal.negate-requires
negate-requires c = search (operand_legal matryoshka_lawful, negate_named matryoshka_kind, matryoshka_kept, rules)

pub add-requires : goal.add-requires
add-requires c = search (operand_legal matryoshka_lawful, add_first matryoshka_kind, add_second matryoshka_kind, matryoshka_kept, rules)

pub subtract-requires : goal.subtract-requires
subtract-requires c = search (operand_legal matryoshka_lawful, subtract_first matryoshka_kind, subtract_second matryoshka_kind, matryoshka_kept, rules)

pub multiply-requires : goal.multiply-requires
multiply-requires c = search (operand_legal matryoshka_lawful, multiply_first matryoshka_kind, multiply_second matryoshka_kind, matryoshka_kept, rules)

pub reciprocal-requires : goal.reciprocal-requires
reciprocal-requires c = search (operand_legal matryoshka_lawful, reciprocal_named matryoshka_kind, reciprocal_scaled matryoshka_kind, matryoshka_kept, rules)

pub coefficient-requires : goal.coefficient-requires
coefficient-requires c = search (coefficient_small matryoshka_kind)

pub returns-in-Constant : goal.returns-in-Constant
returns-in-Constant c = search (did_constant matryoshka_kind)

pub returns-in-Negate : goal.returns-in-Negate
returns-in-Negate c = search (did_negate matryoshka_kind, operand_of matryoshka_lawful, negate_named matryoshka_kind)

pub returns-in-Add : goal.returns-in-Add
returns-in-Add c = search (did_add matryoshka_kind, operand_of matryoshka_lawful, add_first matryoshka_kind, add_second matryoshka_kind)

pub returns-in-Subtract : goal.returns-in-Subtract
returns-in-Subtract c = search (did_subtract matryoshka_kind, operand_of matryoshka_lawful, subtract_first matryoshka_kind, subtract_second matryoshka_kind)

pub returns-in-Multiply : goal.returns-in-Multiply
returns-in-Multiply c = search (did_multiply matryoshka_kind, operand_of matryoshka_lawful, multiply_first matryoshka_kind, multiply_second matryoshka_kind)

pub returns-in-Reciprocal : goal.returns-in-Reciprocal
returns-in-Reciprocal c = search (did_reciprocal matryoshka_kind, operand_of matryoshka_lawful, reciprocal_named matryoshka_kind)

pub returns-in-Coefficient : goal.returns-in-Coefficient
returns-in-Coefficient c = search (did_coefficient matryoshka_kind)
