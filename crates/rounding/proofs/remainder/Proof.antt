-- `remainder` meets its contract. Assumes nothing.
use borrow.Author.Rules.{rules}
use Rattle.rounding.proofs.Remainders.{half_added_fits, unit_casts, some_unit, quotient_fits, mask_fits, masked_natural, masked_fits, dropped}
use Rattle.rounding.proofs.remainder.Statement.{statement}
use Rattle.rounding.proofs.remainder.Tie as tie

pub remainder_spec : {M : Type 1} → statement M
remainder_spec =
    tie.close
    (tie.spec
    (λ c κs. search rules)
    (λ c. search rules)
    (λ c. search half_added_fits)
    (λ c κs. search rules)
    (λ c. search unit_casts)
    (λ c. search (mask_fits, some_unit, quotient_fits))
    (λ c. search (masked_natural, masked_fits))
    (λ c. search dropped))
