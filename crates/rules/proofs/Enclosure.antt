-- Each ball rule encloses: if the operands contain the fractions, the result contains the exact result, and so does the accepted ball.
-- Assumes nothing.
use mathlib.Core.Path.{◌≡◌, refl, ap, subst}
use mathlib.Core.Bool.{false}
use mathlib.Core.List.{List, [], ◌∷◌}
use Prim.Native.Nat.{ℕ, ◌+◌, ◌*◌, ◌≤◌, zero-le}
use native.Mathlib.Nat.{le_refl, le_trans, le_of_eq, mul-le-mul_right, le_of_mul-le-mul_right}
use native.Mathlib.Omega.{arith}
use lib.IntN.{ℤ, pos, neg_ℤ, nat_abs, ◌+ℤ◌, ◌-ℤ◌, ◌*ℤ◌}
use lib.Pow.{pow_pos}
use Rattle.rules.specs.declared.Ball.{Ball}
use Rattle.rules.specs.Numbers.{Q, Round, Up}
use Rattle.rules.specs.Values.{Fraction, Contains, ball_reach}
use Rattle.rules.specs.Reciprocals.{ball_may_be_zero}
use Rattle.rules.specs.Operation.{Operation, divides_by_zero, Alike, constants, negations, sums, differences, products, coefficients, reciprocals}
use Rattle.refusals.specs.Answer.{value}
use Rattle.rules.specs.Balls.{ball_result, ball_rule}
use Rattle.rules.specs.Exact.{Exact, over_both, across}
use Rattle.rules.proofs.Reach.{step_accepted}
use Rattle.rules.proofs.Rounding.{up_covers}
use Rattle.rules.proofs.Zeros.{ball_away}
use Rattle.rules.proofs.Reciprocal.{not_zero, inverse_encloses}
use Rattle.whole.proofs.Ring.{Expr, worth, ring, neg, lit, ◌⊕◌, ◌⊖◌, ◌⊗◌, x₀, x₁, x₂, x₃, x₄, x₅, x₆, x₇}
use Rattle.whole.proofs.Size.{Within, none, more, size_by, bound, bounded, size_neg, size_add, size_sub, size_mul}

-- by how much a fraction misses the centre: n·Q − c·d
abbrev miss : ℕ → ℤ → Fraction → ℤ
miss F c x = x.numerator *ℤ pos (Q F) -ℤ c *ℤ pos x.denominator

-- c/Q is inside every margin around c
centre_contains : (F : ℕ) (c : ℤ) (r : ℕ) → nat_abs (c *ℤ pos (Q F) -ℤ c *ℤ pos (Q F)) ≤ r * Q F
centre_contains F c r = size_by (ring (c ∷ pos (Q F) ∷ []) (x₀ ⊗ x₁ ⊖ x₀ ⊗ x₁) (lit (pos 0)) refl) zero-le

negation_contains : (F : ℕ) {a : Ball} {x : Fraction} → Contains F a x
    → nat_abs (neg_ℤ x.numerator *ℤ pos (Q F) -ℤ neg_ℤ a.centre *ℤ pos x.denominator) ≤ a.margin * x.denominator
negation_contains F {a} {x} p =
    size_by
    (ring (x.numerator ∷ pos (Q F) ∷ a.centre ∷ pos x.denominator ∷ []) (neg x₀ ⊗ x₁ ⊖ neg x₂ ⊗ x₃) (neg (x₀ ⊗ x₁ ⊖ x₂ ⊗ x₃)) refl)
    (le_trans (le_of_eq (size_neg (miss F a.centre x))) p.near)

-- two misses, each scaled by the other's denominator, together
misses : (F : ℕ) {a b : Ball} {x y : Fraction} → Contains F a x → Contains F b y
    → nat_abs (miss F a.centre x *ℤ pos y.denominator) + nat_abs (miss F b.centre y *ℤ pos x.denominator)
    ≤ (a.margin + b.margin) * (x.denominator * y.denominator)
misses F {a} {b} {x} {y} p q =
    omega (
      arith,
      size_mul (miss F a.centre x) (pos y.denominator),
      size_mul (miss F b.centre y) (pos x.denominator),
      mul-le-mul_right y.denominator p.near,
      mul-le-mul_right x.denominator q.near,
      spread,
    )
  where
    spread : a.margin * x.denominator * y.denominator + b.margin * y.denominator * x.denominator ≡ (a.margin + b.margin) * (x.denominator * y.denominator)
    spread =
        ap nat_abs (ring (pos a.margin ∷ pos b.margin ∷ pos x.denominator ∷ pos y.denominator ∷ [])
        (x₀ ⊗ x₂ ⊗ x₃ ⊕ x₁ ⊗ x₃ ⊗ x₂) ((x₀ ⊕ x₁) ⊗ (x₂ ⊗ x₃)) refl)

sum_contains : (F : ℕ) {a b : Ball} {x y : Fraction} → Contains F a x → Contains F b y
    → nat_abs (miss F (a.centre +ℤ b.centre) (over_both (across x y +ℤ across y x) x y)) ≤ (a.margin + b.margin) * (x.denominator * y.denominator)
sum_contains F {a} {b} {x} {y} p q =
    size_by
    (ring (x.numerator ∷ y.numerator ∷ pos (Q F) ∷ a.centre ∷ b.centre ∷ pos x.denominator ∷ pos y.denominator ∷ [])
    ((x₀ ⊗ x₆ ⊕ x₁ ⊗ x₅) ⊗ x₂ ⊖ (x₃ ⊕ x₄) ⊗ (x₅ ⊗ x₆)) ((x₀ ⊗ x₂ ⊖ x₃ ⊗ x₅) ⊗ x₆ ⊕ (x₁ ⊗ x₂ ⊖ x₄ ⊗ x₆) ⊗ x₅) refl)
    (le_trans (size_add (miss F a.centre x *ℤ pos y.denominator) (miss F b.centre y *ℤ pos x.denominator)) (misses F p q))

difference_contains : (F : ℕ) {a b : Ball} {x y : Fraction} → Contains F a x → Contains F b y
    → nat_abs (miss F (a.centre -ℤ b.centre) (over_both (across x y -ℤ across y x) x y)) ≤ (a.margin + b.margin) * (x.denominator * y.denominator)
difference_contains F {a} {b} {x} {y} p q =
    size_by
    (ring (x.numerator ∷ y.numerator ∷ pos (Q F) ∷ a.centre ∷ b.centre ∷ pos x.denominator ∷ pos y.denominator ∷ [])
    ((x₀ ⊗ x₆ ⊖ x₁ ⊗ x₅) ⊗ x₂ ⊖ (x₃ ⊖ x₄) ⊗ (x₅ ⊗ x₆)) ((x₀ ⊗ x₂ ⊖ x₃ ⊗ x₅) ⊗ x₆ ⊖ (x₁ ⊗ x₂ ⊖ x₄ ⊗ x₆) ⊗ x₅) refl)
    (le_trans (size_sub (miss F a.centre x *ℤ pos y.denominator) (miss F b.centre y *ℤ pos x.denominator)) (misses F p q))

module _ (F : ℕ) {a b : Ball} {x y : Fraction} (p : Contains F a x) (q : Contains F b y) (c : ℤ) where
  abbrev lost : ℤ
  lost = a.centre *ℤ b.centre -ℤ c *ℤ pos (Q F)

  abbrev doubt : ℕ
  doubt = (nat_abs a.centre + a.margin) * b.margin + nat_abs b.centre * a.margin + nat_abs lost

  -- Q times the product's miss, from the operands' misses u and v: (a·b − c·Q)·d·d' + a·d·v + u·b·d' + u·v
  pieces : Expr
  pieces = x₀ ⊗ (x₁ ⊗ x₂) ⊕ (x₃ ⊗ x₁) ⊗ x₄ ⊕ x₅ ⊗ (x₆ ⊗ x₂) ⊕ x₅ ⊗ x₄

  values : List ℤ
  values =
      lost ∷ pos x.denominator ∷ pos y.denominator ∷ a.centre ∷ miss F b.centre y ∷ miss F a.centre x ∷ b.centre ∷ []

  bounds : List ℕ
  bounds =
      nat_abs lost ∷ x.denominator ∷ y.denominator ∷ nat_abs a.centre ∷ b.margin * y.denominator ∷ a.margin * x.denominator ∷ nat_abs b.centre ∷ []

  in_bounds : Within values bounds
  unfolding values bounds
  in_bounds = more (le_refl _) (more (le_refl _) (more (le_refl _) (more (le_refl _) (more q.near (more p.near (more (le_refl _) none))))))

  product_miss : miss F c (over_both (x.numerator *ℤ y.numerator) x y) *ℤ pos (Q F) ≡ worth values pieces
  unfolding values pieces
  product_miss =
      ring (x.numerator ∷ y.numerator ∷ pos (Q F) ∷ a.centre ∷ b.centre ∷ pos x.denominator ∷ pos y.denominator ∷ c ∷ [])
      ((x₀ ⊗ x₁ ⊗ x₂ ⊖ x₇ ⊗ (x₅ ⊗ x₆)) ⊗ x₂)
      ((x₃ ⊗ x₄ ⊖ x₇ ⊗ x₂) ⊗ (x₅ ⊗ x₆) ⊕ (x₃ ⊗ x₅) ⊗ (x₁ ⊗ x₂ ⊖ x₄ ⊗ x₆) ⊕ (x₀ ⊗ x₂ ⊖ x₃ ⊗ x₅) ⊗ (x₄ ⊗ x₆) ⊕ (x₀ ⊗ x₂ ⊖ x₃ ⊗ x₅) ⊗ (x₁ ⊗ x₂ ⊖ x₄ ⊗ x₆))
      refl

  doubt_bound : bound bounds pieces ≡ doubt * (x.denominator * y.denominator)
  unfolding bounds pieces
  doubt_bound =
      ap nat_abs (ring (pos (nat_abs lost) ∷ pos x.denominator ∷ pos y.denominator ∷ pos (nat_abs a.centre) ∷ pos b.margin ∷ pos a.margin ∷ pos (nat_abs b.centre) ∷ [])
      (x₀ ⊗ (x₁ ⊗ x₂) ⊕ (x₃ ⊗ x₁) ⊗ (x₄ ⊗ x₂) ⊕ (x₅ ⊗ x₁) ⊗ (x₆ ⊗ x₂) ⊕ (x₅ ⊗ x₁) ⊗ (x₄ ⊗ x₂))
      (((x₃ ⊕ x₅) ⊗ x₄ ⊕ x₆ ⊗ x₅ ⊕ x₀) ⊗ (x₁ ⊗ x₂)) refl)

  product_contains : nat_abs (miss F c (over_both (x.numerator *ℤ y.numerator) x y)) ≤ Up F doubt * (x.denominator * y.denominator)
  product_contains =
      le_of_mul-le-mul_right {k = Q F}
      (omega (
        arith,
        size_mul (miss F c (over_both (x.numerator *ℤ y.numerator) x y)) (pos (Q F)),
        ap nat_abs product_miss,
        bounded in_bounds pieces,
        doubt_bound,
        mul-le-mul_right (x.denominator * y.denominator) (up_covers F doubt),
        regroup (Up F doubt) (Q F) (x.denominator * y.denominator),
      ))
      (pow_pos F)
    where
      regroup : (m n k : ℕ) → m * n * k ≡ m * k * n
      regroup m n k = ap nat_abs (ring (pos m ∷ pos n ∷ pos k ∷ []) (x₀ ⊗ x₁ ⊗ x₂) (x₀ ⊗ x₂ ⊗ x₁) refl)

pub result_contains : (F : ℕ) {o : Operation Ball} {e : Operation Fraction} {x : Fraction} → Alike (Contains F) o e
    → divides_by_zero ball_may_be_zero o ≡ false → Exact F e x → Contains F (ball_result F o) x
result_contains F (constants c) z e = rw e (record { near = centre_contains F c 0 })
result_contains F (negations p) z e = rw e (record { near = negation_contains F p })
result_contains F (sums p q) z e = rw e (record { near = sum_contains F p q })
result_contains F (differences p q) z e = rw e (record { near = difference_contains F p q })
result_contains F (products {a} {b} p q) z e = rw e (record { near = product_contains F p q (Round F (a.centre *ℤ b.centre)) })
result_contains F (coefficients c r) z e = e
result_contains F (reciprocals {a} {x} p) z e =
    rw e.1
    (record {
      near = inverse_encloses F a.centre x.numerator a.margin x.denominator p.near (ball_away a z);
    })

-- each ball rule: if the operands contain the fractions, the accepted result contains the exact result
pub ball_contains : (F : ℕ) {o : Operation Ball} {e : Operation Fraction} {b : Ball} {x : Fraction} → Alike (Contains F) o e → ball_rule F o ≡ value b → Exact F e x → Contains F b x
ball_contains F {o} {x} p v e =
    let r = step_accepted ball_may_be_zero ball_reach o (ball_result F o) v in
    subst (λ (c : Ball). Contains F c x) r.same (result_contains F p r.divisible e)

-- exact arithmetic has a result for every instruction whose operands lie in balls that are not refused with 17
result_exists : (F : ℕ) {o : Operation Ball} {e : Operation Fraction} → Alike (Contains F) o e → divides_by_zero ball_may_be_zero o ≡ false
    → (x : Fraction) × Exact F e x
result_exists F (constants c) z = (_, refl)
result_exists F (negations p) z = (_, refl)
result_exists F (sums p q) z = (_, refl)
result_exists F (differences p q) z = (_, refl)
result_exists F (products p q) z = (_, refl)
result_exists F (coefficients c r) z =
    (record { numerator = c; denominator = Q F; at_least_one = pow_pos F }, record { near = centre_contains F c r })
result_exists F (reciprocals {a} {x} p) z =
    let away = ball_away a z in
    (_, (not_zero F a.centre x.numerator a.margin x.denominator p.near away x.at_least_one, refl))

-- so it has one wherever the ball rule is accepted, and the claims above speak of something
pub exact_exists : (F : ℕ) {o : Operation Ball} {e : Operation Fraction} {b : Ball} → Alike (Contains F) o e → ball_rule F o ≡ value b
    → (x : Fraction) × Exact F e x
exact_exists F {o} p v = result_exists F p (step_accepted ball_may_be_zero ball_reach o (ball_result F o) v).divisible
