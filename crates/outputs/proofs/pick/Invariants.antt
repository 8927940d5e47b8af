-- The cursor is past the first k fields, and the values that they name stand in front.
use mathlib.Core.Path.{◌≡◌}
use Rattle.outputs.proofs.Turns.{Past, Picking}
use Rattle.outputs.proofs.pick.Given as goal

abbrev pub invariant-loop-k : goal.invariant-loop-k
invariant-loop-k g l = record {
  past : Past l.fn.c l.at l.count l.k;
  picking : Picking g.J.Job.kind l.s l.fn.c l.count (g.J.Job.work l.job) (g.J.Job.output l.initial.job) (g.J.Job.output l.job) l.k;
  same_given : g.J.Job.given l.job ≡ g.J.Job.given l.initial.job;
  same_work : g.J.Job.work l.job ≡ g.J.Job.work l.initial.job;
  same_lists : g.J.Job.names l.job ≡ g.J.Job.names l.initial.job;
}
