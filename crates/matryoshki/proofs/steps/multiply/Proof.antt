-- `multiply` meets its contract. Assumes nothing.
use mathlib.Core.Path.{◌≡◌, ◌∙◌, ap, ap₂}
use Prim.Native.Nat.{ℕ, ◌+◌, ◌*◌}
use native.Mathlib.Omega.{arith}
use borrow.Author.Rules.{rules}
use lib.IntN.{ℤ, nat_abs, ◌*ℤ◌}
use Rattle.rules.specs.Numbers.{Round, Up}
use Rattle.rules.specs.Values.{matryoshka_reach}
use Rattle.rules.specs.Steps.{within_reach}
use Rattle.rules.specs.Matryoshki.{matryoshka}
use Rattle.rounding.proofs.Linear.{middle_size}
use Rattle.rounding.proofs.Products.{kept, kept_size, kept_product, round_held}
use Rattle.matryoshki.proofs.steps.multiply.Statement.{statement}
use Rattle.matryoshki.proofs.steps.multiply.Tie as tie

product_requires : tie.Need-product-middle-requires
product_requires c κs =
    let s = c.before.before in
    (s.requires.0, kept_size s.args.x.middle (middle_size s.args.x s.requires.1), kept_size s.args.y.middle (middle_size s.args.y s.requires.2))

add_far_x : tie.Need-overflow_add-far_x
add_far_x c =
    let s = c.before.before.before.before.before.before in
    let x = s.args.x in
    let m = c.before.magnitude in
    let e : m.result ≡ nat_abs x.middle = m.ensures ∙ ap nat_abs (kept x.middle (middle_size x s.requires.1)) in
    record { fits = omega (arith, e, s.requires.1) }

spread_requires : tie.Need-spread-strays-requires
spread_requires c κs =
    let s = c.before.before.before.before.before.before.before.before in
    let x = s.args.x in
    let m = c.before.before.before.magnitude in
    let e : m.result ≡ nat_abs x.middle = m.ensures ∙ ap nat_abs (kept x.middle (middle_size x s.requires.1)) in
    let y = s.args.y in
    let n = c.magnitude-size_y in
    let f : n.result ≡ nat_abs y.middle = n.ensures ∙ ap nat_abs (kept y.middle (middle_size y s.requires.2)) in
    (omega (arith, e, s.requires.1), omega (arith, f, s.requires.2), omega arith)

add_spread : tie.Need-overflow_add-far_x-2
add_spread c =
    let s = c.before.before.before.before.before.before.before.before.before.before in
    let x = s.args.x in
    let m = c.before.before.before.before.before.magnitude in
    let e : m.result ≡ nat_abs x.middle = m.ensures ∙ ap nat_abs (kept x.middle (middle_size x s.requires.1)) in
    record { fits = omega (arith, e, s.requires.1) }

add_spread_2 : tie.Need-overflow_add-size_y
add_spread_2 c =
    let s = c.before.before.before.before.before.before.before.before.before.before.before in
    let y = s.args.y in
    let n = c.before.before.before.magnitude-size_y in
    let f : n.result ≡ nat_abs y.middle = n.ensures ∙ ap nat_abs (kept y.middle (middle_size y s.requires.2)) in
    record { fits = omega (arith, f, s.requires.2) }

spread_requires_2 : tie.Need-spread-doubts-requires
spread_requires_2 c κs =
    let s = c.before.before.before.before.before.before.before.before.before.before.before in
    let x = s.args.x in
    let m = c.before.before.before.before.before.before.magnitude in
    let e : m.result ≡ nat_abs x.middle = m.ensures ∙ ap nat_abs (kept x.middle (middle_size x s.requires.1)) in
    let y = s.args.y in
    let n = c.before.before.before.magnitude-size_y in
    let f : n.result ≡ nat_abs y.middle = n.ensures ∙ ap nat_abs (kept y.middle (middle_size y s.requires.2)) in
    (omega (arith, e, s.requires.1), omega (arith, f, s.requires.2), omega arith)

add_up : tie.Need-overflow_add-doubts
add_up c = record { fits = omega (arith, c.before.before.spread-doubts.ensures.1, c.rounding_doubt.ensures.1) }

up_requires_2 : tie.Need-up-margin-requires
up_requires_2 c κs =
    let s = c.before.before.before.before.before.before.before.before.before.before.before.before.before.before in
    (s.requires.0, omega (arith, c.before.before.spread-doubts.ensures.1, c.rounding_doubt.ensures.1))

keep_requires : tie.Need-keep-requires
keep_requires c κs = omega (arith, c.before.before.up-stray.ensures.1, c.up-margin.ensures.1)

returns : tie.Need-returns
returns c =
    let s = c.before.before.before.before.before.before.before.before.before.before.before.before.before.before.before.before in
    let F = s.args.scale in
    let x = s.args.x in
    let y = s.args.y in
    let p = middle_size x s.requires.1 in
    let q = middle_size y s.requires.2 in
    let e = c.before.before.before.before.before.before.before.before.before.before.before.magnitude.ensures ∙ ap nat_abs (kept x.middle p) in
    let f = c.before.before.before.before.before.before.before.before.magnitude-size_y.ensures ∙ ap nat_abs (kept y.middle q) in
    c.keep.ensures
    ∙ ap (λ (z : ℤ). within_reach matryoshka_reach (matryoshka z c.before.before.before.up-stray.result c.before.up-margin.result))
    (round_held s.requires.0 x.middle y.middle p q (c.before.before.before.before.before.before.before.before.before.before.before.before.before.product-middle.ensures ∙ ap (Round F) (kept_product x.middle y.middle p q)))
    ∙ ap₂ (λ (n k : ℕ). within_reach matryoshka_reach (matryoshka (Round F (x.middle *ℤ y.middle)) n k))
    (c.before.before.before.up-stray.ensures.0
    ∙ ap (Up F) (c.before.before.before.before.before.before.before.spread-strays.ensures.0 ∙ ap₂ (λ (m n : ℕ). (m + x.stray) * y.stray + n * x.stray) e f))
    (c.before.up-margin.ensures.0
    ∙ ap₂ (λ (d n : ℕ). Up F (d + n))
    (c.before.before.before.before.spread-doubts.ensures.0 ∙ ap₂ (λ (m n : ℕ). (m + x.stray + x.margin) * y.margin + (n + y.stray) * x.margin) e f)
    c.before.before.rounding_doubt.ensures.0)

pub multiply_spec : {M : Type 1} → statement M
multiply_spec =
    tie.close
    (tie.spec
    product_requires
    (λ c κs. search rules)
    add_far_x
    (λ c κs. search rules)
    spread_requires
    add_spread
    add_spread_2
    spread_requires_2
    (λ c κs. search rules)
    (λ c κs. search rules)
    add_up
    up_requires_2
    keep_requires
    returns)
