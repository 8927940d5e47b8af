-- The parts of an input that is not too long are not too long. Assumes nothing.
use Rattle.std.proofs.Common.{arith}
use Rattle.parsing.proofs.Cuts.{cut_long}
use Rattle.text.proofs.answering.answer.Goals as goal

pub by_job-requires : goal.by_job-requires
by_job-requires c =
    let first = cut_long 10 c.args.input.now c.in-Some.ensures in
    let second = cut_long 10 c.in-Some.rest.now c.in-Some-halves.ensures in
    record { formula_short = omega arith; rest_short = omega arith; room = omega arith }
