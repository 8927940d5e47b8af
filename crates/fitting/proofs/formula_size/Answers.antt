-- The first part that is refused decides; else all three are summed up.
use borrow.Author.Rules.{rules}
use Rattle.fitting.proofs.Wholes.{header_stops, program_refused, results_refused, sums_near, formula_fits}
use Rattle.fitting.proofs.formula_size.Goals as goal

pub returns-in_err-header : goal.returns-in_err-header
returns-in_err-header c = search (header_stops, c.in_err-header.ensures, rules)

pub returns-in_err-program : goal.returns-in_err-program
returns-in_err-program c = search (program_refused, c.in_ok-header.ensures, c.in_err-program.ensures, rules)

pub returns-in_err-results : goal.returns-in_err-results
returns-in_err-results c =
    search (results_refused c.args.given.now c.in_ok-header.ensures c.in_ok-program.ensures c.given.inside c.given.view_is, c.in_err-results.ensures, rules)

pub overflow_add-result : goal.overflow_add-result
overflow_add-result c =
    search (sums_near c.args.given.now c.in_ok-header.ensures c.in_ok-program.ensures c.given.inside c.given.view_is, c.in_ok-results.ensures, rules)

pub overflow_add-result-2 : goal.overflow_add-result-2
overflow_add-result-2 c =
    search (sums_near c.args.given.now c.in_ok-header.ensures c.in_ok-program.ensures c.given.inside c.given.view_is, c.in_ok-results.ensures, rules)

pub returns : goal.returns
returns c =
    search (formula_fits c.args.given.now c.in_ok-header.ensures c.in_ok-program.ensures c.given.inside c.given.view_is, c.in_ok-results.ensures, rules)
