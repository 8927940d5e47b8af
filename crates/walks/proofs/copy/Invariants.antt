-- The first i values stand in front.
use mathlib.Core.Path.{◌≡◌}
use Rattle.walks.proofs.Copied.{Copying}
use Rattle.walks.proofs.copy.Given as goal

abbrev pub invariant-loop-i : goal.invariant-loop-i
invariant-loop-i g l = record {
  copying : Copying g.J.Job.kind l.fn.m (g.J.Job.given l.job) (g.J.Job.work l.initial.job) (g.J.Job.work l.job) l.i;
  same_given : g.J.Job.given l.job ≡ g.J.Job.given l.initial.job;
  same_output : g.J.Job.output l.job ≡ g.J.Job.output l.initial.job;
  same_lists : g.J.Job.names l.job ≡ g.J.Job.names l.initial.job;
}
