-- `negate` meets its contract. Assumes nothing.
use mathlib.Core.Path.{◌∙◌, ap}
use borrow.Author.Rules.{rules}
use lib.IntN.{ℤ}
use Rattle.rules.specs.Values.{plain_reach}
use Rattle.rules.specs.Steps.{within_reach}
use Rattle.whole.proofs.Machine.{fits}
use Rattle.rounding.proofs.Linear.{one, negated, negated_is}
use Rattle.plain.proofs.steps.negate.Statement.{statement}
use Rattle.plain.proofs.steps.negate.Tie as tie

sub_keep : tie.Need-overflow_sub-a
sub_keep c = let s = c in fits (one s.args.a s.requires) negated tt

returns : tie.Need-returns
returns c = record { every = λ F. let s = c.before in c.keep.ensures ∙ ap (λ (z : ℤ). within_reach plain_reach z) (negated_is s.args.a s.requires) }

pub negate_spec : {M : Type 1} → statement M
negate_spec = tie.close (tie.spec sub_keep (λ c κs. search rules) returns)
