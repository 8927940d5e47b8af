-- The first digits are counted. Assumes nothing.
use Rattle.parsing.proofs.Decimals.{Counted}
use Rattle.numbers.proofs.read_digits.Given as goal

abbrev pub invariant-loop-b : goal.invariant-loop-b
invariant-loop-b l = Counted l.s l.n l.b-index
