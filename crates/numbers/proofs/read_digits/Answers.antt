-- `read_digits` reads what its digits mean. Assumes nothing.
use Rattle.std.proofs.Common.{rules}
use Rattle.parsing.proofs.Decimals.{wrong_length, counted_none, counted_one}
use Rattle.numbers.proofs.read_digits.Goals as goal

pub returns-then-is_empty : goal.returns-then-is_empty
returns-then-is_empty c = search (wrong_length, rules)

pub loop-b-init : goal.loop-b-init
loop-b-init c = search (counted_none, rules)

pub loop-b-preserved : goal.loop-b-preserved
loop-b-preserved c = search (counted_one, rules)
