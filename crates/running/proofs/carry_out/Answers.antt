-- Readings copied, instructions walked, outputs picked; the lists for the outputs wait untouched until then.
use mathlib.Core.Path.{◌∙◌}
use Rattle.running.proofs.Running.{run_copyable, run_walkable, run_stops, run_pickable, run_done}
use Rattle.running.proofs.carry_out.Goals as goal

pub copy-requires : goal.copy-requires
copy-requires g c = search (run_copyable g.met.J.Job.lawful)

pub walk-requires : goal.walk-requires
walk-requires g c = search (run_walkable g.met.J.Job.lawful)

pub returns-in_err-end-clause-kept : goal.returns-in_err-end-clause-kept
returns-in_err-end-clause-kept g c =
    let same = c.walk.ensures.same_output ∙ c.copy.ensures.same_output in
    let was = c.in_err-end.was in
    search (run_stops g.met.J.Job.lawful)

pub pick-requires : goal.pick-requires
pick-requires g c =
    let same = c.walk.ensures.same_output ∙ c.copy.ensures.same_output in
    let was = c.in_ok-end.was in
    search (run_pickable g.met.J.Job.lawful)

pub returns-clause-kept : goal.returns-clause-kept
returns-clause-kept g c =
    let same = c.walk.ensures.same_output ∙ c.copy.ensures.same_output in
    let was = c.in_ok-end.was in
    search (run_done g.met.J.Job.lawful)
