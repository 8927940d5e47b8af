-- `ahead` meets its contract. Assumes nothing.
use Rattle.bits.proofs.Ends.{window_ahead}
use borrow.Author.Rules.{rules}
use Rattle.bits.proofs.ahead.Statement.{statement}
use Rattle.bits.proofs.ahead.Tie as tie

returns : tie.Need-returns
returns c = window_ahead c.before.before.args.s.now c.before.before.args.c c.window.ensures

pub ahead_spec : {M : Type 1} → statement M
ahead_spec =
    tie.close
    (tie.spec (λ c κs. search rules) (λ c. search rules) (λ c. search rules) (λ c. search rules) returns)
