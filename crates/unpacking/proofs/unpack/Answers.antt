-- The bytes are no formula, a list is too short, or all are filled.
use Rattle.std.proofs.Common.{arith}
use Rattle.std.proofs.lemmas.Grind.{common_steps}
use Rattle.std.proofs.lemmas.Result.{err_from_is_err_and}
use Rattle.unpacking.proofs.Unpacked.{unpack_refused, unpack_cramped, unpack_picks, unpack_done}
use Rattle.unpacking.proofs.unpack.Goals as goal

pub returns-in_err-h : goal.returns-in_err-h
returns-in_err-h c =
    let p = err_from_is_err_and c.from_residual.result c.from_residual.ensures.1 in
    rw (p.1, p.2) (unpack_refused c.in_err-h.ensures)

pub returns-then-codes-l : goal.returns-then-codes-l
returns-then-codes-l c = unpack_cramped c.in_ok-h.ensures (grind (arith, common_steps))

pub fill_outputs-requires : goal.fill_outputs-requires
fill_outputs-requires c = unpack_picks c.in_ok-h.ensures c.fill_program-c.ensures.0 (omega arith)

pub returns : goal.returns
returns c =
    let filled = c.fill_program-c.ensures in
    unpack_done c.in_ok-h.ensures (omega arith) (omega arith) (omega arith) (omega arith) filled.1 filled.2 filled.3 c.fill_outputs.ensures
