-- Each value is cut to its part, and the walk on them is what is told.
use mathlib.Core.Path.{◌∙◌, refl}
use borrow.Author.Rules.{rules}
use Rattle.explaining.proofs.Trying.{cutting_none, cutting_reads, cutting_cuttable, cutting_inside, cutting_more, cutting_walkable}
use Rattle.explaining.proofs.Trying.{tries_stopped, tries_finished, room_kept}
use Rattle.explaining.proofs.searching.admit_part.Goals as goal

pub loop-i-init : goal.loop-i-init
loop-i-init c = record { cutting = cutting_none c.requires; same_given = refl }

pub read-m-requires : goal.read-m-requires
read-m-requires c = cutting_reads c.loop-i.invariant.cutting c.loop-i-test.true c.loop-i.invariant.same_given

pub narrowed-requires : goal.narrowed-requires
narrowed-requires c = cutting_cuttable c.loop-i.invariant.cutting c.loop-i-test.true c.loop-i.invariant.same_given c.read-m.ensures

pub put-requires : goal.put-requires
put-requires c = cutting_inside c.loop-i.invariant.cutting c.loop-i-test.true

pub loop-i-preserved : goal.loop-i-preserved
loop-i-preserved c =
    let was = c.loop-i.invariant in
    record {
      cutting = cutting_more was.cutting c.loop-i-test.true was.same_given c.read-m.ensures (search rules);
      same_given = c.put.ensures.same_given ∙ was.same_given;
    }

pub walk-requires : goal.walk-requires
walk-requires c = cutting_walkable c.loop-i.invariant.cutting c.loop-i-test.false

pub returns-in_err-walk-clause-tries : goal.returns-in_err-walk-clause-tries
returns-in_err-walk-clause-tries c = search (tries_stopped c.loop-i.invariant.cutting c.loop-i-test.false c.walk.ensures.walks, rules)

pub returns-in_err-walk-clause-same_room : goal.returns-in_err-walk-clause-same_room
returns-in_err-walk-clause-same_room c = room_kept c.loop-i.invariant.cutting c.loop-i-test.false c.walk.ensures.walks

pub returns-clause-tries : goal.returns-clause-tries
returns-clause-tries c = tries_finished c.loop-i.invariant.cutting c.loop-i-test.false c.walk.ensures.walks c.in_ok-walk.was

pub returns-clause-same_room : goal.returns-clause-same_room
returns-clause-same_room c = room_kept c.loop-i.invariant.cutting c.loop-i-test.false c.walk.ensures.walks
