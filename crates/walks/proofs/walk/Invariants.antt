-- How far the walk has come, with legal values that the lists hold.
use mathlib.Core.Path.{◌≡◌}
use Rattle.walks.proofs.Walking.{Walking}
use Rattle.walks.proofs.walk.Given as goal

abbrev pub invariant-loop-k : goal.invariant-loop-k
invariant-loop-k g l = record {
  walking : Walking g.J.Job.kind l.s l.h l.at l.k (g.J.Job.work l.initial.job) (g.J.Job.work l.job);
  same_given : g.J.Job.given l.job ≡ g.J.Job.given l.initial.job;
  same_output : g.J.Job.output l.job ≡ g.J.Job.output l.initial.job;
  same_lists : g.J.Job.names l.job ≡ g.J.Job.names l.initial.job;
}
