-- Each matryoshka rule covers: if the operands cover balls, the result covers the ball rule's result; where it is accepted the ball rule is
-- accepted too, and so is the plain rule on the centres, whose result is the ball's centre. Assumes nothing.
use mathlib.Core.Path.{◌≡◌, refl, ◌∙◌, ap, subst}
use mathlib.Core.Bool.{false}
use mathlib.Core.List.{[], ◌∷◌}
use Prim.Native.Nat.{ℕ, ◌+◌, ◌-◌, ◌*◌, ◌≤◌, ◌<◌, zero-le}
use native.Mathlib.Nat.{le_refl, le_trans, le_of_eq, add-le-add, mul-pos, mul-le-mul, mul-le-mul_left}
use native.Mathlib.Omega.{arith}
use lib.IntN.{ℤ, pos, nat_abs, ◌+ℤ◌, ◌-ℤ◌, ◌*ℤ◌}
use Rattle.rules.specs.declared.Ball.{Ball}
use Rattle.rules.specs.declared.Matryoshka.{Matryoshka}
use Rattle.rules.specs.Numbers.{Q, Round, Up}
use Rattle.rules.specs.Values.{Covers, plain_reach, ball_reach, matryoshka_reach}
use Rattle.rules.specs.Reciprocals.{T, Inverse, plain_may_be_zero, ball_may_be_zero, matryoshka_may_be_zero}
use Rattle.rules.specs.Operation.{Operation, each, divides_by_zero, Alike, constants, negations, sums, differences, products, coefficients, reciprocals}
use Rattle.refusals.specs.Answer.{value}
use Rattle.rules.specs.Steps.{step_answer}
use Rattle.rules.specs.Plain.{plain_result, plain_rule}
use Rattle.rules.specs.Balls.{ball_reciprocal, ball_result, ball_rule}
use Rattle.rules.specs.Matryoshki.{rounding_doubt, matryoshka_reciprocal, matryoshka_result, matryoshka_rule}
use Rattle.rules.proofs.Reach.{Accepted, step_accepts, step_accepted}
use Rattle.rules.proofs.Rounding.{round_near, ceiling_mono, up_mono}
use Rattle.rules.proofs.Whole.{product_loss}
use Rattle.rules.proofs.Zeros.{away_plain, ball_away, away_ball, matryoshka_away}
use Rattle.rules.proofs.Reciprocal.{inverses_within, inexact_most}
use Rattle.whole.proofs.Ring.{ring, lit, neg, ◌⊕◌, ◌⊖◌, ◌⊗◌, x₀, x₁, x₂, x₃}
use Rattle.whole.proofs.Size.{none, more, size_by, bounded, size_neg, size_add, size_sub, size_near, size_sub_comm}

-- by how much a centre strays from a middle
abbrev off : Ball → Matryoshka → ℤ
off b m = b.centre -ℤ m.middle

-- a covered centre's size
pub covered_size : {m : Matryoshka} {b : Ball} → Covers m b → nat_abs b.centre ≤ nat_abs m.middle + m.stray
covered_size {m} {b} p = size_near b.centre m.middle p.strays

pub covered_reach : {m : Matryoshka} {b : Ball} → Covers m b → ball_reach b ≤ matryoshka_reach m
covered_reach p = add-le-add (covered_size p) p.doubts

module _ (F : ℕ) {x y : Matryoshka} {a b : Ball} (p : Covers x a) (q : Covers y b) where
  sum_strays : nat_abs ((a.centre +ℤ b.centre) -ℤ (x.middle +ℤ y.middle)) ≤ x.stray + y.stray
  sum_strays =
      size_by
      (ring (a.centre ∷ b.centre ∷ x.middle ∷ y.middle ∷ []) ((x₀ ⊕ x₁) ⊖ (x₂ ⊕ x₃)) ((x₀ ⊖ x₂) ⊕ (x₁ ⊖ x₃)) refl)
      (le_trans (size_add (off a x) (off b y)) (add-le-add p.strays q.strays))

  difference_strays : nat_abs ((a.centre -ℤ b.centre) -ℤ (x.middle -ℤ y.middle)) ≤ x.stray + y.stray
  difference_strays =
      size_by
      (ring (a.centre ∷ b.centre ∷ x.middle ∷ y.middle ∷ []) ((x₀ ⊖ x₁) ⊖ (x₂ ⊖ x₃)) ((x₀ ⊖ x₂) ⊖ (x₁ ⊖ x₃)) refl)
      (le_trans (size_sub (off a x) (off b y)) (add-le-add p.strays q.strays))

  -- a·b − A·B is a·(b − B) + B·(a − A)
  product_moves : nat_abs (a.centre *ℤ b.centre -ℤ x.middle *ℤ y.middle) ≤ (nat_abs x.middle + x.stray) * y.stray + nat_abs y.middle * x.stray
  product_moves =
      size_by
      (ring (a.centre ∷ b.centre ∷ x.middle ∷ y.middle ∷ []) (x₀ ⊗ x₁ ⊖ x₂ ⊗ x₃) (x₀ ⊗ (x₁ ⊖ x₃) ⊕ x₃ ⊗ (x₀ ⊖ x₂)) refl)
      (bounded
      (more {z = a.centre} (covered_size p) (more {z = off b y} q.strays (more {z = y.middle} (le_refl (nat_abs y.middle)) (more {z = off a x} p.strays none))))
      (x₀ ⊗ x₁ ⊕ x₂ ⊗ x₃))

  product_strays : nat_abs (Round F (a.centre *ℤ b.centre) -ℤ Round F (x.middle *ℤ y.middle)) ≤ Up F ((nat_abs x.middle + x.stray) * y.stray + nat_abs y.middle * x.stray)
  product_strays = le_trans (round_near F (a.centre *ℤ b.centre) (x.middle *ℤ y.middle)) (up_mono F product_moves)

  product_doubts : let c = Round F (a.centre *ℤ b.centre) in
      Up F ((nat_abs a.centre + a.margin) * b.margin + nat_abs b.centre * a.margin + nat_abs (a.centre *ℤ b.centre -ℤ c *ℤ pos (Q F)))
      ≤ Up F ((nat_abs x.middle + x.stray + x.margin) * y.margin + (nat_abs y.middle + y.stray) * x.margin + rounding_doubt F x y)
  product_doubts =
      up_mono F
      (add-le-add
      (add-le-add (mul-le-mul (add-le-add (covered_size p) p.doubts) q.doubts) (mul-le-mul (covered_size q) p.doubts))
      (product_loss F p q))

module _ {x : Matryoshka} {a : Ball} (p : Covers x a) (away : x.stray + x.margin < nat_abs x.middle) where
  -- a covered centre is at least t = |A| − R from 0
  covered_least : nat_abs x.middle - x.stray ≤ nat_abs a.centre
  covered_least = omega (arith, size_near x.middle a.centre (le_trans (le_of_eq (size_sub_comm x.middle a.centre)) p.strays))

  covered_away : a.margin < nat_abs a.centre
  covered_away = omega (arith, covered_least, p.doubts)

  reciprocal_strays : (F : ℕ) → nat_abs (Inverse F a.centre -ℤ Inverse F x.middle) ≤ (matryoshka_reciprocal F x).stray
  reciprocal_strays F = inverses_within F a.centre x.middle x.stray p.strays (omega arith)

  reciprocal_doubts : (F : ℕ) → (ball_reciprocal F a).margin ≤ (matryoshka_reciprocal F x).margin
  reciprocal_doubts F =
      add-le-add
      (ceiling_mono (mul-pos (omega arith) (omega arith)) (mul-le-mul_left (T F) p.doubts) (mul-le-mul (omega (arith, covered_least, p.doubts)) covered_least))
      (inexact_most F a.centre)

-- a matryoshka that is not refused with 17 covers no ball that is
pub divisible_follows : {o : Operation Matryoshka} {e : Operation Ball} → Alike Covers o e → divides_by_zero matryoshka_may_be_zero o ≡ false
    → divides_by_zero ball_may_be_zero e ≡ false
divisible_follows (constants c) z = refl
divisible_follows (negations p) z = refl
divisible_follows (sums p q) z = refl
divisible_follows (differences p q) z = refl
divisible_follows (products p q) z = refl
divisible_follows (coefficients c r) z = refl
divisible_follows (reciprocals {a = x} {x = a} p) z =
    away_ball a (covered_away p (matryoshka_away x z))

-- a centre does not stray from itself
stays : (c : ℤ) → nat_abs (c -ℤ c) ≤ 0
stays c = size_by (ring (c ∷ []) (x₀ ⊖ x₀) (lit (pos 0)) refl) zero-le

pub result_covers : (F : ℕ) {o : Operation Matryoshka} {e : Operation Ball} → Alike Covers o e
    → divides_by_zero matryoshka_may_be_zero o ≡ false → Covers (matryoshka_result F o) (ball_result F e)
result_covers F (constants c) z = record { strays = stays c; doubts = zero-le }
result_covers F (negations {a = x} {x = a} p) z =
    record {
      strays =
          size_by (ring (a.centre ∷ x.middle ∷ []) (neg x₀ ⊖ neg x₁) (neg (x₀ ⊖ x₁)) refl) (le_trans (le_of_eq (size_neg (off a x))) p.strays);
      doubts = p.doubts;
    }
result_covers F (sums p q) z = record { strays = sum_strays F p q; doubts = add-le-add p.doubts q.doubts }
result_covers F (differences p q) z = record { strays = difference_strays F p q; doubts = add-le-add p.doubts q.doubts }
result_covers F (products p q) z = record { strays = product_strays F p q; doubts = product_doubts F p q }
result_covers F (coefficients c r) z = record { strays = stays c; doubts = le_refl r }
result_covers F (reciprocals {a = x} p) z =
    let away = matryoshka_away x z in
    record { strays = reciprocal_strays p away F; doubts = reciprocal_doubts p away F }

-- "Plain takes the ball's centre rule."
pub plain_is_centre : (F : ℕ) (e : Operation Ball) → plain_result F (each (λ (b : Ball). b.centre) e) ≡ (ball_result F e).centre
plain_is_centre F (Operation.constant c) = refl
plain_is_centre F (Operation.negate a) = refl
plain_is_centre F (Operation.add a b) = refl
plain_is_centre F (Operation.subtract a b) = refl
plain_is_centre F (Operation.multiply a b) = refl
plain_is_centre F (Operation.coefficient c r) = refl
plain_is_centre F (Operation.reciprocal a) = refl

-- a ball that is not refused with 17 has a centre that is not
plain_divisible : (e : Operation Ball) → divides_by_zero ball_may_be_zero e ≡ false
    → divides_by_zero plain_may_be_zero (each (λ (b : Ball). b.centre) e) ≡ false
plain_divisible (Operation.constant c) z = refl
plain_divisible (Operation.negate a) z = refl
plain_divisible (Operation.add a b) z = refl
plain_divisible (Operation.subtract a b) z = refl
plain_divisible (Operation.multiply a b) z = refl
plain_divisible (Operation.coefficient c r) z = refl
plain_divisible (Operation.reciprocal a) z =
    let away = ball_away a z in
    away_plain a.centre (omega arith)

-- where the ball rule is accepted, so is the plain rule on the centres, and gives the ball's centre
pub plain_follows : (F : ℕ) (e : Operation Ball) {b : Ball} → ball_rule F e ≡ value b → plain_rule F (each (λ (c : Ball). c.centre) e) ≡ value b.centre
plain_follows F e {b} v =
    let r = step_accepted ball_may_be_zero ball_reach e (ball_result F e) v in
    let o = each (λ (c : Ball). c.centre) e in
    ap (λ (z : ℤ). step_answer plain_may_be_zero plain_reach o z) (plain_is_centre F e ∙ ap (λ (c : Ball). c.centre) r.same)
    ∙ step_accepts plain_may_be_zero plain_reach o b.centre (plain_divisible e r.divisible) (omega (arith, r.in_reach))

-- what an accepted matryoshka step promises of the ball step on balls that the operands cover
pub record Covered (F : ℕ) (m : Matryoshka) (e : Operation Ball) : Type 0 where
  pub made : Ball
  pub accepted : ball_rule F e ≡ value made
  pub covers : Covers m made
  pub bare : plain_rule F (each (λ (b : Ball). b.centre) e) ≡ value made.centre

pub matryoshka_covers : (F : ℕ) {o : Operation Matryoshka} {e : Operation Ball} {m : Matryoshka} → Alike Covers o e → matryoshka_rule F o ≡ value m → Covered F m e
matryoshka_covers F {o} {e} {m} p v =
    record { made = ball_result F e; accepted = ok; covers = c; bare = plain_follows F e ok }
  where
    r : Accepted matryoshka_may_be_zero matryoshka_reach o (matryoshka_result F o) m
    r = step_accepted matryoshka_may_be_zero matryoshka_reach o (matryoshka_result F o) v

    c : Covers m (ball_result F e)
    c = subst (λ (n : Matryoshka). Covers n (ball_result F e)) r.same (result_covers F p r.divisible)

    ok : ball_rule F e ≡ value (ball_result F e)
    ok =
        step_accepts ball_may_be_zero ball_reach e (ball_result F e) (divisible_follows p r.divisible) (le_trans (covered_reach c) r.in_reach)
