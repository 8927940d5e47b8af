-- Request i: "Why was this domain refused?"
use Rattle.std.specs.Prelude.{List, ℕ, zero, suc, ◌-◌, length}
use Rattle.refusals.specs.Answer.{Answer, value, refused, then}
use Rattle.refusals.specs.Places.{Where, Placed, refused_at, elsewhere}
use Rattle.rules.specs.declared.Matryoshka.{Matryoshka}
use Rattle.rules.specs.Matryoshki.{matryoshka_rule}
use Rattle.rules.specs.Lists.{no_matryoshka}
use Rattle.formulas.specs.Formula.{Formula}
use Rattle.formulas.specs.Run.{Walk, finished, stopped, run}
use Rattle.formulas.specs.Readings.{Domain}
use Rattle.formulas.specs.Kinds.{matryoshka_kind, tested}
use Rattle.shrinking.specs.Parts.{all_parts, narrowed_all}

-- "the largest t that is admitted, and the refusal and instruction met at t+1; or .. that even t = 0 is refused, with
-- that refusal and instruction"; "an accepted domain is answered 'nothing to explain'"
pub data Explanation : Type 0 where
  nothing_to_explain : Explanation
  admitted_to : ℕ → Where → Explanation
  never_admitted : Where → Explanation

-- what a walk from m inputs met: nothing, or a refusal and its instruction
abbrev pub met_in : ℕ → Walk Matryoshka → Placed (Unit {0})
met_in m (finished vs) = value tt
met_in m (stopped n vs) = refused_at n (length vs - m)

-- whether a formula is admitted on these matryoshki
unfoldable pub admission : Formula → List Matryoshka → Placed (Unit {0})
admission f ms =
    met_in f.header.inputs (run (matryoshka_rule f.header.scale) no_matryoshka f.program ms)

-- "the largest t that is admitted": from above, t + 1 having met this
abbrev pub at_part : ℕ → Where → (Where → Explanation) → Placed (Unit {0}) → Explanation
at_part t met below (value x) = admitted_to t met
at_part t met below (refused w) = below w

abbrev pub largest_below : (ℕ → Placed (Unit {0})) → ℕ → Where → Explanation
largest_below admitted zero met = never_admitted met
largest_below admitted (suc t) met = at_part t met (λ w. largest_below admitted t w) (admitted t)

abbrev pub if_refused : (Where → Explanation) → Placed (Unit {0}) → Explanation
if_refused why (value x) = nothing_to_explain
if_refused why (refused w) = why w

unfoldable pub explained : (ℕ → Placed (Unit {0})) → Explanation
explained admitted = if_refused (λ w. largest_below admitted all_parts w) (admitted all_parts)

-- the formula on these matryoshki at each t
abbrev pub admissions : Formula → List Matryoshka → ℕ → Placed (Unit {0})
admissions f ms t = admission f (narrowed_all t ms)

-- "Refusals: reading refusals, then 13 to 15"
unfoldable pub explanation : Answer Formula → Domain → Placed Explanation
explanation a g =
    then (elsewhere a) (λ f. then (tested matryoshka_kind f.header.inputs g) (λ ms.
    value (explained (admissions f ms))))
