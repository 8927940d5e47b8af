-- Each step lays one row more, or is given up.
use borrow.Author.Rules.{rules}
use Rattle.packed.proofs.Taking.{loaded_near}
use Rattle.slope_walk.proofs.Turns.{grading_start, grading_within, grading_readable, grading_steps, grading_stops, grading_more, grading_ends}
use Rattle.slope_walk.proofs.walking.grade.Goals as goal

pub loop-k-init : goal.loop-k-init
loop-k-init c = search grading_start

pub load-requires : goal.load-requires
load-requires c = search grading_within

pub decode_ahead-d-requires : goal.decode_ahead-d-requires
decode_ahead-d-requires c = search (loaded_near, grading_within, grading_readable, rules)

pub step-requires : goal.step-requires
step-requires c = search grading_steps

pub returns-in-Err : goal.returns-in-Err
returns-in-Err c = search grading_stops

pub loop-k-preserved : goal.loop-k-preserved
loop-k-preserved c = search grading_more

pub returns : goal.returns
returns c = search grading_ends
