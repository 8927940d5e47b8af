-- What each turn keeps, and what falls.
use mathlib.Core.Path.{◌≡◌}
use Prim.Native.Nat.{◌-◌}
use Rattle.explaining.specs.Explaining.{given_by, worked_in}
use Rattle.explaining.proofs.Search.{Search}
use Rattle.explaining.proofs.searching.search.Given as goal

abbrev pub invariant-loop-low : goal.invariant-loop-low
invariant-loop-low l = record {
  come : Search l.s l.h (given_by l.initial.job) (worked_in l.initial.job) (worked_in l.job) l.low l.high l.t l.met l.admissions;
  same_given : given_by l.job ≡ given_by l.initial.job;
}

abbrev pub decreases-loop-low : goal.decreases-loop-low
decreases-loop-low l = l.high - l.low
