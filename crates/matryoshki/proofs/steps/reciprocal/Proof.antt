-- `reciprocal` meets its contract. Assumes nothing.
use borrow.Author.Rules.{rules}
use Rattle.matryoshki.proofs.Reciprocals.{zero_refused, kept_most, kept_some, size_most, stray_half, margin_half}
use Rattle.matryoshki.proofs.Reciprocals.{near_there, near_some, near_part, near_most, nearer_there, nearer_some, nearer_part}
use Rattle.matryoshki.proofs.Reciprocals.{reciprocal_kept}
use Rattle.matryoshki.proofs.steps.reciprocal.Statement.{statement}
use Rattle.matryoshki.proofs.steps.reciprocal.Tie as tie

pub reciprocal_spec : {M : Type 1} → statement M
reciprocal_spec =
    tie.close
    (tie.spec (λ c κs. search rules) (λ c. search rules) (λ c κs. search (kept_some, kept_most))
    (λ c. search near_there) (λ c κs. search (stray_half, near_some, near_part, size_most)) (λ c. search nearer_there)
    (λ c κs. search (margin_half, nearer_some, nearer_part, near_most)) (λ c. search rules) (λ c κs. search rules)
    (λ c. search reciprocal_kept) (λ c. search zero_refused))
