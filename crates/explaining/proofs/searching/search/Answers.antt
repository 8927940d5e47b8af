-- The part that is tried is admitted or refused, and half of those left are done with.
use mathlib.Core.Path.{◌∙◌, refl}
use Rattle.explaining.proofs.Search.{search_begins, search_passed, search_refused}
use Rattle.explaining.proofs.searching.search.Goals as goal
use Rattle.explaining.proofs.searching.search.Goals.{in-Ok, in-Err}

pub loop-low-init : goal.loop-low-init
loop-low-init c = record { come = search_begins c.requires; same_given = refl }

pub loop-low-preserved : goal.loop-low-preserved
loop-low-preserved c =
    let was = c.loop-low.invariant in
    let tried = c.admit_part.ensures in
    record {
      come =
          elim c.match-admit_part.branch [
            | in-Ok w ↦
                rw (w.low-is, w.high-is, w.met-is)
                (search_passed was.come c.loop-low-test.true was.same_given tried.tries tried.same_room w.in-Ok.is
                (rw (w.low-is, w.high-is) at c.half-t.ensures))
            | in-Err w ↦
                rw (w.low-is, w.high-is, w.met-is)
                (search_refused was.come c.loop-low-test.true was.same_given tried.tries tried.same_room w.in-Err.is
                (rw (w.low-is, w.high-is) at c.half-t.ensures))
          ];
      same_given = tried.same_given ∙ was.same_given;
    }
