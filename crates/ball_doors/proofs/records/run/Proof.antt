-- `run` meets its contract. Assumes nothing.
use mathlib.Core.Path.{sym}
use lib.Seq.{length-take-le}
use borrow.Author.Rules.{rules}
use Rattle.ball_doors.proofs.records.run.Statement.{statement}
use Rattle.ball_doors.proofs.records.run.Tie as tie

pub run_spec : {M : Type 1} → statement M
run_spec =
    tie.close
    (tie.spec
    (λ c. search rules)
    (λ c. sym (length-take-le _ _ (search rules)))
    (λ c. search rules)
    (λ c. sym (length-take-le _ _ (search rules)))
    (λ c κs. search rules)
    (λ c. search rules)
    (λ c. search rules)
    (λ c. search rules)
    (λ c. search rules)
    (λ c. search rules))
