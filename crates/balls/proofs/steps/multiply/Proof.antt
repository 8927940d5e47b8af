-- `multiply` meets its contract. Assumes nothing.
use mathlib.Core.Path.{◌≡◌, ◌∙◌, ap, ap₂}
use Prim.Native.Nat.{ℕ, ◌+◌, ◌*◌}
use native.Mathlib.Omega.{arith}
use borrow.Author.Rules.{rules}
use lib.IntN.{ℤ, pos, nat_abs, ◌-ℤ◌, ◌*ℤ◌}
use Rattle.rules.specs.Numbers.{Q, Round, Up}
use Rattle.rules.specs.Values.{ball_reach}
use Rattle.rules.specs.Steps.{within_reach}
use Rattle.rules.specs.Balls.{ball}
use Rattle.rounding.proofs.Units.{half_bound}
use Rattle.rounding.proofs.Linear.{centre_size}
use Rattle.rounding.proofs.Products.{kept, kept_size, kept_product, round_held}
use Rattle.balls.proofs.steps.multiply.Statement.{statement}
use Rattle.balls.proofs.steps.multiply.Tie as tie

product_with_loss_requires : tie.Need-product_with_loss-rounded-requires
product_with_loss_requires c κs =
    let s = c.before.before in
    (s.requires.0, kept_size s.args.x.centre (centre_size s.args.x s.requires.1), kept_size s.args.y.centre (centre_size s.args.y s.requires.2))

add_far_x : tie.Need-overflow_add-far_x
add_far_x c =
    let s = c.before.before.before.before.before.before.before.before in
    let x = s.args.x in
    let m = c.before.before.before.magnitude-size_x in
    let e : m.result ≡ nat_abs x.centre = m.ensures ∙ ap nat_abs (kept x.centre (centre_size x s.requires.1)) in
    record { fits = omega (arith, e, s.requires.1) }

spread_requires : tie.Need-spread-spread-requires
spread_requires c κs =
    let s = c.before.before.before.before.before.before.before.before in
    let x = s.args.x in
    let y = s.args.y in
    let m = c.before.before.before.magnitude-size_x in
    let n = c.before.magnitude-size_y in
    let e : m.result ≡ nat_abs x.centre = m.ensures ∙ ap nat_abs (kept x.centre (centre_size x s.requires.1)) in
    let f : n.result ≡ nat_abs y.centre = n.ensures ∙ ap nat_abs (kept y.centre (centre_size y s.requires.2)) in
    (omega (arith, e, s.requires.1), omega (arith, f, s.requires.2), omega arith)

add_up : tie.Need-overflow_add-spread
add_up c =
    let s = c.before.before.before.before.before.before.before.before.before.before in
    let q = c.before.before.before.before.before.before.before.product_with_loss-rounded in
    record { fits = omega (arith, c.before.spread-spread.ensures.1, q.ensures.2, half_bound s.requires.0) }

up_requires : tie.Need-up-margin-requires
up_requires c κs =
    let s = c.before.before.before.before.before.before.before.before.before.before in
    let q = c.before.before.before.before.before.before.before.product_with_loss-rounded in
    (s.requires.0, omega (arith, c.before.spread-spread.ensures.1, q.ensures.2, half_bound s.requires.0))

keep_requires : tie.Need-keep-requires
keep_requires c κs = omega (arith, c.before.up-margin.ensures.1)

returns : tie.Need-returns
returns c =
    let s = c.before.before.before.before.before.before.before.before.before.before.before.before.before in
    let F = s.args.scale in
    let x = s.args.x in
    let y = s.args.y in
    let p = centre_size x s.requires.1 in
    let q = centre_size y s.requires.2 in
    let product = kept_product x.centre y.centre p q in
    let t = c.before.before.before.before.before.before.before.before.before.before.product_with_loss-rounded in
    let m = c.before.before.before.before.before.before.before.before.magnitude-size_x in
    let n = c.before.before.before.before.before.before.magnitude-size_y in
    let w = c.before.before.before.before.spread-spread in
    c.keep.ensures
    ∙ ap₂ (λ (z : ℤ) (n : ℕ). within_reach ball_reach (ball z n))
    (round_held s.requires.0 x.centre y.centre p q (t.ensures.0 ∙ ap (Round F) product))
    (c.before.before.up-margin.ensures.0
    ∙ ap₂ (λ (m n : ℕ). Up F (m + n))
    (w.ensures.0 ∙ ap₂ (λ (m n : ℕ). (m + x.margin) * y.margin + n * x.margin) (m.ensures ∙ ap nat_abs (kept x.centre p)) (n.ensures ∙ ap nat_abs (kept y.centre q)))
    (t.ensures.1 ∙ ap (λ (z : ℤ). nat_abs (z -ℤ Round F z *ℤ pos (Q F))) product))

pub multiply_spec : {M : Type 1} → statement M
multiply_spec =
    tie.close
    (tie.spec
    product_with_loss_requires
    (λ c κs. search rules)
    (λ c κs. search rules)
    add_far_x
    spread_requires
    add_up
    up_requires
    keep_requires
    returns)
