-- `negate` meets its contract. Assumes nothing.
use mathlib.Core.Path.{◌∙◌, ap}
use borrow.Author.Rules.{rules}
use lib.IntN.{ℤ}
use Rattle.rules.specs.Values.{matryoshka_reach}
use Rattle.rules.specs.Steps.{within_reach}
use Rattle.rules.specs.Matryoshki.{matryoshka}
use Rattle.whole.proofs.Machine.{fits}
use Rattle.rounding.proofs.Linear.{one, middle_size, negated, negated_is}
use Rattle.matryoshki.proofs.steps.negate.Statement.{statement}
use Rattle.matryoshki.proofs.steps.negate.Tie as tie

sub_t2 : tie.Need-overflow_sub-x
sub_t2 c = let s = c.before.before in fits (one s.args.x.middle (middle_size s.args.x s.requires)) negated tt

returns : tie.Need-returns
returns c = record { every = λ F. let s = c.before.before.before in c.keep.ensures ∙ ap (λ (z : ℤ). within_reach matryoshka_reach (matryoshka z s.args.x.stray s.args.x.margin)) (negated_is s.args.x.middle (middle_size s.args.x s.requires)) }

pub negate_spec : {M : Type 1} → statement M
negate_spec = tie.close (tie.spec sub_t2 (λ c κs. search rules) returns)
