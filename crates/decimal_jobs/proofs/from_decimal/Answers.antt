-- Each test's refusal, and what is written where all pass.
use borrow.Author.Rules.{rules}
use Rattle.std.proofs.lemmas.Result.{err_from_is_err_and}
use Rattle.decimal_jobs.proofs.Reading.{no_scale, wrong_number, wrong_margin, no_reach, no_places, read_so}
use Rattle.decimal_jobs.proofs.from_decimal.Goals as goal

pub returns-in_err-scale : goal.returns-in_err-scale
returns-in_err-scale c = search (rules, no_scale, c.in_err-scale.ensures)

pub returns-in_err-number : goal.returns-in_err-number
returns-in_err-number c = search (rules, wrong_number, c.in_ok-scale.ensures, c.in_err-number.ensures)

pub returns-in_err-margin : goal.returns-in_err-margin
returns-in_err-margin c =
    let p = err_from_is_err_and c.from_residual-in_err-margin.result c.from_residual-in_err-margin.ensures.1 in
    rw (p.1, p.2)
    (wrong_margin c.ranges.scale _ _ c.in_ok-scale.ensures c.number_of.ensures c.in_ok-number.ensures c.margin_of.ensures c.in_err-margin.ensures)

pub returns-in_err-in_reach : goal.returns-in_err-in_reach
returns-in_err-in_reach c =
    search (rules, no_reach, c.in_ok-scale.ensures, c.in_ok-number.ensures, c.in_ok-margin.ensures, c.in_err-in_reach.ensures)

pub returns-in_err-have_places : goal.returns-in_err-have_places
returns-in_err-have_places c =
    let p = err_from_is_err_and c.from_residual-in_err-have_places.result c.from_residual-in_err-have_places.ensures.1 in
    rw (p.1, p.2)
    (no_places c.ranges.scale _ _ c.in_ok-scale.ensures c.number_of.ensures c.in_ok-number.ensures c.margin_of.ensures c.in_ok-margin.ensures
    c.ball_of-b.ensures c.in_ok-in_reach.ensures c.in_err-have_places.ensures)

pub returns : goal.returns
returns c =
    search (rules, read_so, c.in_ok-scale.ensures, c.in_ok-number.ensures, c.in_ok-margin.ensures, c.in_ok-in_reach.ensures, c.in_ok-have_places.ensures)
