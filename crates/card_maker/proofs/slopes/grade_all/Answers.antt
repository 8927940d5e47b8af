-- The ball run refuses, or the slopes are worked out over it.
use borrow.Author.Rules.{rules}
use Rattle.card_maker.proofs.Graded.{local_room, range_runnable, inputs_startable, slopes_gradable, slopes_graded}
use Rattle.card_maker.proofs.slopes.grade_all.Goals as goal

pub range-requires : goal.range-requires
range-requires c = search (range_runnable, rules)

pub lay_inputs-requires : goal.lay_inputs-requires
lay_inputs-requires c = search inputs_startable

pub grade-requires : goal.grade-requires
grade-requires c = slopes_gradable c.requires c.range.ensures local_room c.in_ok-range.was c.lay_inputs.ensures

pub returns : goal.returns
returns c = slopes_graded c.requires c.range.ensures local_room c.in_ok-range.was c.lay_inputs.ensures c.grade.ensures
