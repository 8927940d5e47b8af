-- By what reading the number in front told.
use borrow.Author.Rules.{rules}
use Rattle.decimal_reader.proofs.Margins.{margin_missing, margin_short, margin_whole}
use Rattle.decimal_reader.proofs.margin_of.Goals as goal

pub returns-in_err-front : goal.returns-in_err-front
returns-in_err-front c = search (rules, margin_missing, c.in_err-front.ensures)

pub returns-then-front-text : goal.returns-then-front-text
returns-then-front-text c = search (margin_short, c.in_ok-front.ensures)

pub returns : goal.returns
returns c = search (margin_whole, c.in_ok-front.ensures)
