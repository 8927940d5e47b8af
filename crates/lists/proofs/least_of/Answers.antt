-- The library's smaller number is the spec's.
use mathlib.Core.Path.{◌∙◌}
use Rattle.lists.proofs.Over.{least_min}
use Rattle.lists.proofs.least_of.Goals as goal

pub returns : goal.returns
returns c = c.min.ensures ∙ least_min c.args.a c.args.b
