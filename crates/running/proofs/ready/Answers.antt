-- The formula is refused, or what the tests say is told.
use Rattle.running.proofs.Readiness.{ready_unread, ready_tested}
use Rattle.running.proofs.ready.Goals as goal

pub returns-in_err-h : goal.returns-in_err-h
returns-in_err-h g c = let was = c.in_err-h.was in search (ready_unread g.J.Job.kind)

pub returns : goal.returns
returns g c = let was = c.in_ok-h.was in search (ready_tested g.J.Job.kind)
