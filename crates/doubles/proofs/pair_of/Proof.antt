-- `pair_of` meets its contract. Assumes nothing.
use borrow.Author.Rules.{rules}
use Rattle.doubles.proofs.Exact.{centre_casts, margin_casts, unit_casts, centre_double, margin_double}
use Rattle.doubles.proofs.pair_of.Statement.{statement}
use Rattle.doubles.proofs.pair_of.Tie as tie

pub pair_of_spec : {M : Type 1} → statement M
pair_of_spec =
    tie.close
    (tie.spec (λ c κs. search rules) (λ c. search unit_casts) (λ c. search centre_casts) (λ c. search margin_casts)
    (λ c. search (centre_double, margin_double)))
