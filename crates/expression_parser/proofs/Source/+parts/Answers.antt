-- A factor of each form, and operands joined by their signs.
use Rattle.std.proofs.lemmas.Result.{err_from_is_err_and}
use Rattle.expression_parser.proofs.Factors.{letter_made, parenthesis_too_deep, sum_refused, sum_not_closed, sum_closed, minus_too_deep, minus_refused, minus_made}
use Rattle.expression_parser.proofs.Joined.{joining_begins, first_refused, next_refused, joining_more, joining_ends}
use Rattle.expression_parser.proofs.Source.+parts.Goals as goal

-- ---- a sum in parentheses

pub factor-returns-in_err-inside-in-Parenthesis : goal.factor-returns-in_err-inside-in-Parenthesis
factor-returns-in_err-inside-in-Parenthesis t c =
    let p = err_from_is_err_and c.from_residual.result c.from_residual.ensures.1 in
    rw (p.1, p.2) (parenthesis_too_deep c.requires c.in_err-inside-in-Parenthesis.ensures c.in-Parenthesis.ensures)

pub factor-returns-in_err-value-in-Parenthesis : goal.factor-returns-in_err-value-in-Parenthesis
factor-returns-in_err-value-in-Parenthesis t c =
    let p = err_from_is_err_and c.from_residual-in_err-value-in-Parenthesis.result c.from_residual-in_err-value-in-Parenthesis.ensures.1 in
    rw (p.1, p.2) (sum_refused c.in_ok-inside-in-Parenthesis.ensures c.in-Parenthesis.ensures c.in_err-value-in-Parenthesis.ensures)

pub factor-returns-in_err-close-in-Parenthesis : goal.factor-returns-in_err-close-in-Parenthesis
factor-returns-in_err-close-in-Parenthesis t c =
    let p = err_from_is_err_and c.from_residual-in_err-close-in-Parenthesis.result c.from_residual-in_err-close-in-Parenthesis.ensures.1 in
    rw (p.1, p.2)
    (sum_not_closed c.in_ok-inside-in-Parenthesis.ensures c.in-Parenthesis.ensures c.in_ok-value-in-Parenthesis.ensures c.in_err-close-in-Parenthesis.ensures)

pub factor-returns-in_ok-close-in-Parenthesis : goal.factor-returns-in_ok-close-in-Parenthesis
factor-returns-in_ok-close-in-Parenthesis t c =
    sum_closed c.in_ok-inside-in-Parenthesis.ensures c.in-Parenthesis.ensures c.in_ok-value-in-Parenthesis.ensures c.in_ok-close-in-Parenthesis.ensures

-- ---- a minus and a factor

pub factor-returns-in_err-inside-in-Minus : goal.factor-returns-in_err-inside-in-Minus
factor-returns-in_err-inside-in-Minus t c =
    let p = err_from_is_err_and c.from_residual-in_err-inside-in-Minus.result c.from_residual-in_err-inside-in-Minus.ensures.1 in
    rw (p.1, p.2) (minus_too_deep c.requires c.in_err-inside-in-Minus.ensures c.in-Minus.ensures)

pub factor-returns-in_err-value-in-Minus : goal.factor-returns-in_err-value-in-Minus
factor-returns-in_err-value-in-Minus t c =
    let p = err_from_is_err_and c.from_residual-in_err-value-in-Minus.result c.from_residual-in_err-value-in-Minus.ensures.1 in
    rw (p.1, p.2) (minus_refused c.in_ok-inside-in-Minus.ensures c.in-Minus.ensures c.in_err-value-in-Minus.ensures)

pub factor-returns-in_ok-value-in-Minus : goal.factor-returns-in_ok-value-in-Minus
factor-returns-in_ok-value-in-Minus t c =
    minus_made c.in_ok-inside-in-Minus.ensures c.in-Minus.ensures c.in_ok-value-in-Minus.ensures c.keep.ensures

-- ---- a letter

pub factor-returns-in-Letter : goal.factor-returns-in-Letter
factor-returns-in-Letter t c = letter_made c.requires c.in-Letter.ensures

-- ---- operands joined by their signs

pub joined-returns-in_err-left : goal.joined-returns-in_err-left
joined-returns-in_err-left t c =
    let p = err_from_is_err_and c.from_residual.result c.from_residual.ensures.1 in
    rw (p.1, p.2) (first_refused c.args.operands c.in_err-left.ensures)

pub joined-loop-sign-init : goal.joined-loop-sign-init
joined-loop-sign-init t c = joining_begins c.args.operands c.in_ok-left.ensures

pub joined-returns-in_err-right : goal.joined-returns-in_err-right
joined-returns-in_err-right t c =
    let p = err_from_is_err_and c.from_residual-in_err-right.result c.from_residual-in_err-right.ensures.1 in
    rw (p.1, p.2) (next_refused c.loop-sign.invariant c.in-Some.ensures c.in_err-right.ensures)

pub joined-loop-sign-preserved : goal.joined-loop-sign-preserved
joined-loop-sign-preserved t c = joining_more c.loop-sign.invariant c.in-Some.ensures c.in_ok-right.ensures c.joins.ensures c.keep-left.ensures

pub joined-returns : goal.joined-returns
joined-returns t c = joining_ends c.loop-sign.invariant c.in_default.ensures
