-- A walk allows one outcome: how it ended, and every place of the lists. Assumes nothing.
use mathlib.Core.Path.{◌≡◌, sym, ◌∙◌, ap}
use mathlib.Core.List.{List}
use Prim.Native.Nat.{ℕ}
use Rattle.std.specs.declared.result.Result.TheVariants.{Ok, Err}
use Rattle.refusals.proofs.OneReply.{never_both, first_said, place_said, same_refused}
use Rattle.bits.proofs.OneField.{one_cursor}
use Rattle.formulas.specs.declared.Header.{Header}
use Rattle.formulas.specs.Run.{made_by}
use Rattle.formulas.specs.Kinds.{Kind}
use Rattle.formulas.specs.Lawful.{Lawful}
use Rattle.walks.specs.Walks.{Walked}
use Rattle.walks.specs.Walks.{walked_said, StandsAfter, walk_of, Walks}

pub walks_one_outcome : {K : Kind} → Lawful K → {s : List ℕ} {h : Header} {old : K.Lists} (new₁ new₂ : K.Lists)
    (r t : Walked) → Walks K s h old new₁ r → Walks K s h old new₂ t → (r ≡ t) × (new₁ ≡ new₂)
walks_one_outcome {K} law {s} {h} {old} new₁ new₂ r t a b = (
  by_case r t (a.says ∙ sym b.says) a.stands b.stands,
  law.holds_one (made_by (walk_of K s h old)) old new₁ new₂ a.holds b.holds,
)
  where
    by_case : (r t : Walked) → walked_said r ≡ walked_said t → StandsAfter s r → StandsAfter s t → r ≡ t
    by_case (Ok c) (Ok d) e p q = ap Ok (one_cursor c d (p.stands ∙ sym q.stands))
    by_case (Ok c) (Err q) e p z = absurd (never_both e)
    by_case (Err q) (Ok d) e p z = absurd (never_both (sym e))
    by_case (Err q) (Err r) e p w = ap Err (same_refused (ap first_said e) (ap place_said e))
