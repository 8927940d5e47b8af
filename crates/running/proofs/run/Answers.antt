-- A formula that is ready is carried out.
use Rattle.running.proofs.Readiness.{ready_refused, ready_begins}
use Rattle.running.proofs.run.Goals as goal

pub returns-in_err-h-clause-kept : goal.returns-in_err-h-clause-kept
returns-in_err-h-clause-kept g c = let was = c.in_err-h.was in search (ready_refused g.met.J.Job.lawful)

pub carry_out-requires : goal.carry_out-requires
carry_out-requires g c = let was = c.in_ok-h.was in search (ready_begins g.met.J.Job.lawful)
