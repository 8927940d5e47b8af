-- `multiply` meets its contract. Assumes nothing.
use mathlib.Core.Path.{◌∙◌, ap}
use borrow.Author.Rules.{rules}
use lib.IntN.{ℤ}
use Rattle.rules.specs.Numbers.{Round}
use Rattle.rules.specs.Values.{plain_reach}
use Rattle.rules.specs.Steps.{within_reach}
use Rattle.rounding.proofs.Products.{kept_product, round_held}
use Rattle.plain.proofs.steps.multiply.Statement.{statement}
use Rattle.plain.proofs.steps.multiply.Tie as tie

returns : tie.Need-returns
returns c =
    let s = c.before.before in
    c.keep.ensures
    ∙ ap (λ (z : ℤ). within_reach plain_reach z) (round_held s.requires.0 s.args.a s.args.b s.requires.1 s.requires.2
    (c.before.product.ensures ∙ ap (Round s.args.scale) (kept_product s.args.a s.args.b s.requires.1 s.requires.2)))

pub multiply_spec : {M : Type 1} → statement M
multiply_spec = tie.close (tie.spec (λ c κs. search rules) (λ c κs. search rules) returns)
