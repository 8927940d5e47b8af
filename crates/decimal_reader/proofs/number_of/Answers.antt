-- By the first byte, and by what reading the rest told.
use borrow.Author.Rules.{rules}
use Rattle.decimal_reader.proofs.Numbers.{above_wrong, above_is, below_wrong, below_is}
use Rattle.decimal_reader.proofs.number_of.Goals as goal

pub returns-in_err-above : goal.returns-in_err-above
returns-in_err-above c = search (rules, above_wrong, c.in_err-above.ensures)

pub returns-then-not-minus_first : goal.returns-then-not-minus_first
returns-then-not-minus_first c = search (above_is, c.in_ok-above.ensures)

pub returns-in-Ok : goal.returns-in-Ok
returns-in-Ok c = search below_is

pub returns-in-Err : goal.returns-in-Err
returns-in-Err c = search below_wrong
