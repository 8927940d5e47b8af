-- The first i values stand in front, each cut to its part.
use mathlib.Core.Path.{◌≡◌}
use Rattle.explaining.specs.Explaining.{given_by, worked_in}
use Rattle.explaining.proofs.Trying.{Cutting}
use Rattle.explaining.proofs.searching.admit_part.Given as goal

abbrev pub invariant-loop-i : goal.invariant-loop-i
invariant-loop-i l = record {
  cutting : Cutting l.s l.h l.t (given_by l.initial.job) (worked_in l.initial.job) (worked_in l.job) l.i;
  same_given : given_by l.job ≡ given_by l.initial.job;
}
