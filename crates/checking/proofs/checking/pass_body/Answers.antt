-- The instructions refuse, or the outputs, or the padding, or nothing.
use borrow.Author.Rules.{rules}
use Rattle.checking.proofs.Checks.{program_stops, results_stop, padding_passes, padding_stops}
use Rattle.checking.proofs.checking.pass_body.Goals as goal

pub returns-in_err-d : goal.returns-in_err-d
returns-in_err-d c = search (program_stops, rules)

pub returns-in_err-e : goal.returns-in_err-e
returns-in_err-e c = search (results_stop, rules)

pub returns-then-not-padded : goal.returns-then-not-padded
returns-then-not-padded c = search (padding_stops, rules)

pub returns : goal.returns
returns c = search (padding_passes, rules)
