-- `coefficient` meets its contract. Assumes nothing.
use mathlib.Core.Path.{◌∙◌, ap}
use borrow.Author.Rules.{rules}
use lib.IntN.{ℤ}
use mir.Syntax.{w64}
use mir.ValLaws.{to_z-of_z}
use Rattle.rules.specs.Values.{ball_reach}
use Rattle.rules.specs.Steps.{within_reach}
use Rattle.rules.specs.Balls.{ball}
use Rattle.balls.proofs.steps.coefficient.Statement.{statement}
use Rattle.balls.proofs.steps.coefficient.Tie as tie

returns : tie.Need-returns
returns c = record { every = λ F. let s = c.before in c.keep.ensures ∙ ap (λ (z : ℤ). within_reach ball_reach (ball z s.args.r)) (to_z-of_z w64 s.args.c s.ranges.c) }

pub coefficient_spec : {M : Type 1} → statement M
coefficient_spec = tie.close (tie.spec (λ c κs. search rules) returns)
