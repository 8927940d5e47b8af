-- `margins_from_decimal` meets its contract. Assumes nothing.
use borrow.Author.Rules.{rules}
use Rattle.decimal_door.proofs.DecimalTelling.{in_few, in_told}
use Rattle.decimal_door.proofs.margins_from_decimal.Statement.{statement}
use Rattle.decimal_door.proofs.margins_from_decimal.Tie as tie

pub margins_from_decimal_spec : {M : Type 1} → statement M
margins_from_decimal_spec =
    tie.close
    (tie.spec
    (λ c κs. search rules)
    (λ c κs. search in_few)
    (λ c. search rules)
    (λ c. search rules)
    (λ c. search in_told))
