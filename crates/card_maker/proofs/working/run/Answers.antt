-- What is copied is walked on.
use Rattle.card_maker.proofs.Carried.{run_copyable, run_walkable, run_done}
use Rattle.card_maker.proofs.working.run.Goals as goal

pub copy-requires : goal.copy-requires
copy-requires g c = search (run_copyable g.met.J.Job.lawful)

pub walk-requires : goal.walk-requires
walk-requires g c = search (run_walkable g.met.J.Job.lawful)

pub returns-clause-runs : goal.returns-clause-runs
returns-clause-runs g c = search (run_done g.met.J.Job.lawful)
