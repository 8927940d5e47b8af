-- The readings refuse, or the lists, or the card, or the sums.
use Rattle.std.proofs.lemmas.Result.{err_from_is_err_and}
use Rattle.card_user.proofs.Kept.{domain_misread, balls_misread, both_passed, no_room, misfit_low, misfit_inside, out_there, summable, margins_put}
use Rattle.card_user.proofs.with_counts.Goals as goal
use Rattle.card_user.proofs.with_counts.Goals.{then-not-is_low-via-then-not-is_low, then-not-is_low-via-else-not-is_low+then-not-all_inside}

pub returns-in_err-test : goal.returns-in_err-test
returns-in_err-test c =
    let e = err_from_is_err_and c.from_residual.result c.from_residual.ensures.1 in
    rw (e.1, e.2) (domain_misread c.args.card c.requires c.test.ensures c.in_err-test.was)

pub returns-in_err-test-2 : goal.returns-in_err-test-2
returns-in_err-test-2 c =
    let e = err_from_is_err_and c.from_residual-in_err-test-2.result c.from_residual-in_err-test-2.ensures.1 in
    rw (e.1, e.2) (balls_misread c.args.card c.requires c.test.ensures c.in_ok-test.was c.test-2.ensures c.in_err-test-2.was)

pub returns-then-not-has_room : goal.returns-then-not-has_room
returns-then-not-has_room c =
    let p = both_passed c.args.card c.requires c.test.ensures c.in_ok-test.was c.test-2.ensures c.in_ok-test-2.was in
    rw c.into.ensures (no_room c.args.card c.requires p _ c.has_room.ensures c.if-not-has_room.true)

pub returns-then-not-is_low : goal.returns-then-not-is_low
returns-then-not-is_low c =
    let p = both_passed c.args.card c.requires c.test.ensures c.in_ok-test.was c.test-2.ensures c.in_ok-test-2.was in
    rw c.into-then-not-is_low.ensures (elim c.then-not-is_low.branch [
      | then-not-is_low-via-then-not-is_low w ↦
          misfit_low c.args.card c.requires p _ c.has_room.ensures c.if-not-has_room.false c.is_low.ensures w.if-not-is_low.true
      | then-not-is_low-via-else-not-is_low+then-not-all_inside w ↦
          misfit_inside c.args.card c.requires p _ c.has_room.ensures c.if-not-has_room.false c.is_low.ensures w.if-not-is_low.false
          w.all_inside.ensures w.if-not-all_inside.true
    ])

pub put_margins-requires : goal.put_margins-requires
put_margins-requires c =
    let p = both_passed c.args.card c.requires c.test.ensures c.in_ok-test.was c.test-2.ensures c.in_ok-test-2.was in (
      summable c.args.card c.requires p _ c.has_room.ensures c.if-not-has_room.false c.is_low.ensures c.if-not-is_low.false
          c.all_inside.ensures c.if-not-all_inside.false,
      out_there c.args.card c.requires p _ c.has_room.ensures c.if-not-has_room.false,
    )

pub returns : goal.returns
returns c =
    let p = both_passed c.args.card c.requires c.test.ensures c.in_ok-test.was c.test-2.ensures c.in_ok-test-2.was in
    margins_put c.args.card c.requires p _ c.has_room.ensures c.if-not-has_room.false c.is_low.ensures c.if-not-is_low.false
    c.all_inside.ensures c.if-not-all_inside.false c.put_margins.ensures
