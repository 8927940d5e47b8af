-- The check refuses, or a test, or the card is carried out.
use Rattle.std.proofs.lemmas.Result.{err_from_is_err_and}
use Rattle.card_maker.proofs.Kept.{make_unread, make_testable, make_refused, make_kept}
use Rattle.card_maker.proofs.making.make_card.Goals as goal

pub returns-in_err-h : goal.returns-in_err-h
returns-in_err-h c =
    let e = err_from_is_err_and c.from_residual.result c.from_residual.ensures.1 in
    rw (e.1, e.2) (make_unread _ c.check.ensures c.in_err-h.was)

pub test-requires : goal.test-requires
test-requires c = make_testable _ c.check.ensures c.in_ok-h.was

pub returns-in_err-test : goal.returns-in_err-test
returns-in_err-test c =
    let e = err_from_is_err_and c.from_residual-in_err-test.result c.from_residual-in_err-test.ensures.1 in
    rw (e.1, e.2) (make_refused _ c.check.ensures c.in_ok-h.was c.test.ensures c.in_err-test.was)

pub returns : goal.returns
returns c = make_kept _ c.check.ensures c.in_ok-h.was c.test.ensures c.in_ok-test.was c.carry_out.ensures
