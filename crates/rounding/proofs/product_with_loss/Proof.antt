-- `product_with_loss` meets its contract. Assumes nothing.
use mathlib.Core.Path.{◌≡◌, ◌∙◌, ap}
use native.Mathlib.Nat.{le_trans, le_of_eq}
use borrow.Author.Rules.{rules}
use lib.IntN.{ℤ, pos, nat_abs, ◌-ℤ◌, ◌*ℤ◌}
use Rattle.rules.specs.Numbers.{Q, Round}
use Rattle.rules.proofs.Rounding.{round_loss}
use Rattle.whole.proofs.Ring.{◌⊗◌, x₀, x₁}
use Rattle.whole.proofs.Machine.{back, fits}
use Rattle.rounding.proofs.Linear.{two}
use Rattle.rounding.proofs.Products.{product_held, product_held_size, round_held}
use Rattle.rounding.proofs.Remainders.{lost_apart}
use Rattle.rounding.proofs.product_with_loss.Statement.{statement}
use Rattle.rounding.proofs.product_with_loss.Tie as tie

returns : tie.Need-returns
returns c =
    let s = c.before.before.before.before in
    let F = s.args.scale in
    let p = s.args.a *ℤ s.args.b in
    let e = product_held s.args.a s.args.b s.requires.1 s.requires.2 in
    let r : c.before.before.before.round-centre.result ≡ Round F p = c.before.before.before.round-centre.ensures ∙ ap (Round F) e in
    let l : c.apart-lost.result ≡ nat_abs (p -ℤ Round F p *ℤ pos (Q F)) =
    c.apart-lost.ensures ∙ lost_apart F (back (back s.args.a *ℤ back s.args.b)) c.before.before.remainder.ensures c.before.half.ensures.0
    ∙ ap (λ (z : ℤ). nat_abs (z -ℤ Round F z *ℤ pos (Q F))) e in
    (round_held s.requires.0 s.args.a s.args.b s.requires.1 s.requires.2 r, l, le_trans (le_of_eq l) (round_loss F p))

pub product_with_loss_spec : {M : Type 1} → statement M
product_with_loss_spec =
    tie.close
    (tie.spec
    (λ c. fits (two c.args.a c.args.b c.requires.1 c.requires.2) (x₀ ⊗ x₁) tt)
    (λ c κs. (c.requires.0, product_held_size c.args.a c.args.b c.requires.1 c.requires.2))
    (λ c κs. (c.before.requires.0, product_held_size c.before.args.a c.before.args.b c.before.requires.1 c.before.requires.2))
    (λ c κs. search rules)
    (λ c κs. search rules)
    returns)
