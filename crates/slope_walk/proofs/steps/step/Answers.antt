-- The row laid is the one of the instruction.
use borrow.Author.Rules.{rules}
use Rattle.slope_walk.proofs.Instructions.{summed_first, summed_second, operands_there}
use Rattle.slope_walk.proofs.Instructions.{did_constant, did_negate, did_add, did_multiply, did_reciprocal}
use Rattle.slope_walk.proofs.steps.step.Goals as goal

pub lay-requires-in-Add-clause-rows : goal.lay-requires-in-Add-clause-rows
lay-requires-in-Add-clause-rows c = search (operands_there, summed_first, summed_second)

pub returns-in-Constant : goal.returns-in-Constant
returns-in-Constant c = did_constant c.requires c.in-Constant.is c.lay.ensures (λ k l t h m e. search rules)

pub returns-in-Negate : goal.returns-in-Negate
returns-in-Negate c = search (did_negate, rules)

pub returns-in-Add : goal.returns-in-Add
returns-in-Add c = search (did_add, rules)

pub returns-in-Multiply : goal.returns-in-Multiply
returns-in-Multiply c = did_multiply c.requires c.in-Multiply.is c.reach-x.ensures c.reach-y.ensures c.lay-in-Multiply.ensures (λ k l t h m e. search rules)

pub returns-in-Reciprocal : goal.returns-in-Reciprocal
returns-in-Reciprocal c = did_reciprocal c.requires c.in-Reciprocal.is c.nearness-w.ensures c.lay-in-Reciprocal.ensures (λ k l t h m e. search rules)
