-- `reciprocal` meets its contract. Assumes nothing.
use borrow.Author.Rules.{rules}
use Rattle.balls.proofs.Reciprocals.{zero_refused, kept_most, kept_some, size_most, margin_half, near_some, near_part}
use Rattle.balls.proofs.Reciprocals.{margin_fits, margin_small, reciprocal_kept}
use Rattle.balls.proofs.steps.reciprocal.Statement.{statement}
use Rattle.balls.proofs.steps.reciprocal.Tie as tie

pub reciprocal_spec : {M : Type 1} → statement M
reciprocal_spec =
    tie.close
    (tie.spec (λ c κs. search rules) (λ c κs. search (kept_some, kept_most)) (λ c. search rules)
    (λ c κs. search (margin_half, near_some, near_part, size_most)) (λ c. search margin_fits) (λ c κs. search margin_small)
    (λ c. search reciprocal_kept) (λ c. search zero_refused))
