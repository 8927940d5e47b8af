-- `apart` meets its contract. Assumes nothing.
use borrow.Author.Rules.{rules}
use Rattle.rounding.proofs.Remainders.{apart_below, apart_above}
use Rattle.rounding.proofs.apart.Statement.{statement}
use Rattle.rounding.proofs.apart.Tie as tie

pub apart_spec : {M : Type 1} → statement M
apart_spec = tie.close (tie.spec (λ c. search rules) (λ c. search apart_below) (λ c. search apart_above))
