-- `reciprocal` meets its contract. Assumes nothing.
use borrow.Author.Rules.{rules}
use Rattle.reciprocals.proofs.Steps.{kept_most}
use Rattle.plain.proofs.Reciprocals.{zero_refused, away_from_zero, inverse_kept}
use Rattle.plain.proofs.steps.reciprocal.Statement.{statement}
use Rattle.plain.proofs.steps.reciprocal.Tie as tie

pub reciprocal_spec : {M : Type 1} → statement M
reciprocal_spec =
    tie.close
    (tie.spec (λ c κs. search rules) (λ c. search (zero_refused, rules)) (λ c κs. search (away_from_zero, kept_most)) (λ c κs. search rules)
    (λ c. search inverse_kept))
