-- `margins_to_decimal` meets its contract. Assumes nothing.
use borrow.Author.Rules.{rules}
use Rattle.decimal_door.proofs.DecimalTelling.{out_few, out_told}
use Rattle.decimal_door.proofs.margins_to_decimal.Statement.{statement}
use Rattle.decimal_door.proofs.margins_to_decimal.Tie as tie

pub margins_to_decimal_spec : {M : Type 1} → statement M
margins_to_decimal_spec =
    tie.close
    (tie.spec
    (λ c κs. search rules)
    (λ c κs. search out_few)
    (λ c. search rules)
    (λ c. search rules)
    (λ c. search rules)
    (λ c. search out_told))
