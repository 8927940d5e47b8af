-- `product` meets its contract. Assumes nothing.
use mathlib.Core.Path.{sym, ◌∙◌, ap, subst}
use Prim.Native.Nat.{◌*◌, ◌≤◌}
use lib.IntN.{ℤ, nat_abs}
use Rattle.rules.specs.Numbers.{M, Round}
use Rattle.whole.proofs.Ring.{◌⊗◌, x₀, x₁}
use Rattle.whole.proofs.Machine.{fits}
use Rattle.rounding.proofs.Linear.{two}
use Rattle.rounding.proofs.Products.{product_size, product_held, round_held}
use Rattle.rounding.proofs.product.Statement.{statement}
use Rattle.rounding.proofs.product.Tie as tie

mul_round : tie.Need-overflow_mul-a
mul_round c = fits (two c.args.a c.args.b c.requires.1 c.requires.2) (x₀ ⊗ x₁) tt

round_requires : tie.Need-round-requires
round_requires c κs = (
  c.requires.0,
  subst (λ (z : ℤ). nat_abs z ≤ M * M) (sym (product_held c.args.a c.args.b c.requires.1 c.requires.2))
      (product_size c.args.a c.args.b c.requires.1 c.requires.2),
)

returns : tie.Need-returns
returns c =
    let s = c.before in
    round_held s.requires.0 s.args.a s.args.b s.requires.1 s.requires.2
    (c.round.ensures ∙ ap (Round s.args.scale) (product_held s.args.a s.args.b s.requires.1 s.requires.2))

pub product_spec : {M : Type 1} → statement M
product_spec = tie.close (tie.spec mul_round round_requires returns)
