-- `ending` meets its contract: what is behind the field is moved out, and what is before it is cut off. Assumes nothing.
use borrow.Author.Rules.{rules}
use Rattle.bits.proofs.Endings.{end_fits, last_fits, end_within, eight_before, eight_here, behind_small, behind_few}
use Rattle.bits.proofs.Endings.{width_few, some_modulus, ends_at}
use Rattle.bits.proofs.ending.Statement.{statement}
use Rattle.bits.proofs.ending.Tie as tie

pub ending_spec : {M : Type 1} → statement M
ending_spec =
    tie.close
    (tie.spec (λ c. search end_fits) (λ c. search last_fits) (λ c. search end_within) (λ c. search eight_before)
    (λ c κs. search eight_here) (λ c. search (behind_small, rules)) (λ c. search (behind_small, rules)) (λ c. search (behind_few, rules)) (λ c. search (width_few, rules))
    (λ c. search some_modulus) (λ c. search ends_at))
