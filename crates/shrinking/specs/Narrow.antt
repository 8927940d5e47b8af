-- Request i: "with the middles kept, if every stray and every margin of the domain is made no larger, an accepted domain
-- stays accepted and no stray or margin in the answer grows."
use Rattle.std.specs.Prelude.{◌≡◌, List, ℕ, ◌≤◌, ℤ, pos}
use Rattle.lists.specs.Joined.{Rel}
use Rattle.refusals.specs.Answer.{Answer}
use Rattle.rules.specs.declared.Matryoshka.{Matryoshka}
use Rattle.formulas.specs.Formula.{Formula}
use Rattle.formulas.specs.Readings.{Domain}
use Rattle.formulas.specs.Kinds.{matryoshka_kind}
use Rattle.formulas.specs.Job.{done, job}

-- n is m with the middle kept, and no stray or margin larger
pub record Narrows (m n : Matryoshka) : Type 0 where
  pub middle_kept : n.middle ≡ m.middle
  pub stray_no_larger : n.stray ≤ m.stray
  pub margin_no_larger : n.margin ≤ m.margin

-- of a domain as a caller brings it, in signed numbers: k is at least 0 and at most n
pub data NoLarger : ℤ → ℤ → Type 0 where
  no_larger : {n k : ℕ} → k ≤ n → NoLarger (pos n) (pos k)

-- "with the middles kept, if every stray and every margin of the domain is made no larger"
pub record NarrowerDomain (g k : Domain) : Type 0 where
  pub middles_kept : k.middles ≡ g.middles
  pub strays_no_larger : Rel NoLarger g.strays k.strays
  pub margins_no_larger : Rel NoLarger g.margins k.margins

-- "stays accepted and no stray or margin in the answer grows": all values and the outputs, beside vs and os
pub record StaysAccepted (a : Answer Formula) (k : Domain) (work output : ℕ) (vs os : List Matryoshka) : Type 0 where
  pub values : List Matryoshka
  pub outputs : List Matryoshka
  pub accepted : job matryoshka_kind a k work output ≡ done values outputs
  pub values_no_larger : Rel Narrows vs values
  pub outputs_no_larger : Rel Narrows os outputs
