-- A whole text: its sum, or the refusal of what was read or of what stands behind it.
use Rattle.std.proofs.Common.{rules}
use Rattle.std.proofs.lemmas.Result.{err_from_is_err_and}
use Rattle.expression_parser.proofs.Whole.{text_refused, text_not_ended, text_made}
use Rattle.expression_parser.proofs.parse.Goals as goal

pub returns-in_err-value : goal.returns-in_err-value
returns-in_err-value c =
    let p = err_from_is_err_and c.from_residual.result c.from_residual.ensures.1 in
    rw (p.1, p.2) (search (rules, text_refused, c.in_err-value.ensures))

pub returns-then-at-text : goal.returns-then-at-text
returns-then-at-text c = search (rules, text_not_ended, c.in_ok-value.ensures)

pub returns : goal.returns
returns c = search (rules, text_made, c.in_ok-value.ensures)
