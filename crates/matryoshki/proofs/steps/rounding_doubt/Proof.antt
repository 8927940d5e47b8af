-- `rounding_doubt` meets its contract. Assumes nothing.
use borrow.Author.Rules.{rules}
use Rattle.rules.proofs.Whole.{either_whole, neither_whole, both_stray}
use Rattle.matryoshki.proofs.steps.rounding_doubt.Statement.{statement}
use Rattle.matryoshki.proofs.steps.rounding_doubt.Tie as tie

pub rounding_doubt_spec : {M : Type 1} → statement M
rounding_doubt_spec =
    tie.close
    (tie.spec
    (λ c κs. search rules)
    (λ c κs. search rules)
    (λ c. search (rules, either_whole))
    (λ c κs. search rules)
    (λ c. search (rules, neither_whole))
    (λ c κs. search rules)
    (λ c. search (rules, both_stray)))
