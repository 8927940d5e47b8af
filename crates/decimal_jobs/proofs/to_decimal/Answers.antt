-- Each test's refusal, and what is written where all pass.
use borrow.Author.Rules.{rules}
use Rattle.std.proofs.lemmas.Result.{err_from_is_err_and}
use Rattle.decimal_jobs.proofs.Showing.{no_scale, no_decimals, no_reach, no_room, shown_so}
use Rattle.decimal_jobs.proofs.to_decimal.Goals as goal

pub returns-in_err-scale : goal.returns-in_err-scale
returns-in_err-scale c = search (rules, no_scale, c.in_err-scale.ensures)

pub returns-in_err-decimals : goal.returns-in_err-decimals
returns-in_err-decimals c = search (rules, no_decimals, c.in_ok-scale.ensures, c.in_err-decimals.ensures)

pub returns-in_err-in_reach : goal.returns-in_err-in_reach
returns-in_err-in_reach c = search (rules, no_reach, c.in_ok-scale.ensures, c.in_ok-decimals.ensures, c.in_err-in_reach.ensures)

pub returns-in_err-have_room : goal.returns-in_err-have_room
returns-in_err-have_room c =
    let p = err_from_is_err_and c.from_residual-in_err-have_room.result c.from_residual-in_err-have_room.ensures.1 in
    rw (p.1, p.2)
    (no_room c.ranges.scale c.in_ok-scale.ensures c.ranges.decimals c.in_ok-decimals.ensures c.in_ok-in_reach.ensures c.count_of-counts.ensures
    c.put_ball-bytes.ensures c.in_err-have_room.ensures)

pub returns : goal.returns
returns c = search (rules, shown_so, c.in_ok-scale.ensures, c.in_ok-decimals.ensures, c.in_ok-in_reach.ensures, c.in_ok-have_room.ensures)
