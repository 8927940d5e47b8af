-- The ball run over (middle, stray) beside the admission: at every value it has the middle for its centre, and its margin is at least the stray
-- and at most stray plus margin. So where the admission is accepted the ball run is never refused. Assumes nothing.
use mathlib.Core.Path.{◌≡◌, refl, sym, ap, ap₂, subst}
use mathlib.Core.Bool.{false}
use mathlib.Core.List.{List, [], ◌∷◌, map}
use Prim.Native.Nat.{ℕ, ◌+◌, ◌-◌, ◌*◌, ◌≤◌, ◌<◌, zero-le}
use native.Mathlib.Nat.{le_refl, le_trans, le_of_eq, le-add_right, add-le-add, mul-pos, mul-le-mul, mul-le-mul_left, mul-le-mul_right, le_of_mul-le-mul_right}
use native.Mathlib.Omega.{arith}
use lib.IntN.{ℤ, pos, neg_ℤ, nat_abs, ◌+ℤ◌, ◌-ℤ◌, ◌*ℤ◌}
use lib.ListN.{length, length-map}
use Rattle.lists.specs.Each.{Each}
use Rattle.lists.specs.Joined.{Rel}
use Rattle.refusals.specs.Answer.{value}
use Rattle.rules.specs.declared.Ball.{Ball}
use Rattle.rules.specs.declared.Matryoshka.{Matryoshka}
use Rattle.rules.specs.Numbers.{Q, Round, ceiling, Up}
use Rattle.rules.specs.Reciprocals.{T, Inverse, ball_may_be_zero, matryoshka_may_be_zero}
use Rattle.rules.specs.Values.{Covers, ball_reach, matryoshka_reach}
use Rattle.rules.specs.Operation.{Operation, divides_by_zero, Alike, constants, negations, sums, differences, products, coefficients, reciprocals}
use Rattle.rules.specs.Balls.{ball, ball_reciprocal, ball_result, ball_rule}
use Rattle.rules.specs.Matryoshki.{rounding_doubt, matryoshka_reciprocal, matryoshka_result, matryoshka_rule}
use Rattle.rules.specs.Lists.{no_ball, no_matryoshka}
use Rattle.rules.proofs.Reach.{step_accepts, step_accepted}
use Rattle.rules.proofs.Rounding.{ceiling_covers, ceiling_at_most, ceiling_mono, up_mono, up_add}
use Rattle.rules.proofs.Reciprocal.{inexact_most}
use Rattle.rules.proofs.Whole.{product_loss}
use Rattle.rules.proofs.Zeros.{away_ball, matryoshka_away}
use Rattle.whole.proofs.Ring.{ring, lit, ◌⊕◌, ◌⊖◌, ◌⊗◌, x₀, x₁, x₂, x₃, x₄, x₅, x₆}
use Rattle.whole.proofs.Size.{size_by}
use Rattle.formulas.specs.declared.Instruction.{Instruction}
use Rattle.formulas.specs.Formula.{Smaller}
use Rattle.formulas.specs.Run.{finished, run}
use Rattle.formulas.proofs.Following.{Followed, FollowedRun, run_follows}
use Rattle.cards.specs.Card.{still}

pub record Between (m : Matryoshka) (b : Ball) : Type 0 where
  pub same : b.centre ≡ m.middle
  pub least : m.stray ≤ b.margin
  pub most : b.margin ≤ m.stray + m.margin

pub between_reach : {m : Matryoshka} {b : Ball} → Between m b → ball_reach b ≤ matryoshka_reach m
between_reach p = omega (arith, ap nat_abs p.same)

-- the middle alone is covered
middle_covered : {m : Matryoshka} {b : Ball} → Between m b → Covers m (ball b.centre 0)
middle_covered {m} {b} p =
    record {
      strays = size_by (ap (λ (z : ℤ). z -ℤ m.middle) p.same) (size_by (ring (m.middle ∷ []) (x₀ ⊖ x₀) (lit (pos 0)) refl) zero-le);
      doubts = zero-le;
    }

module _ (F : ℕ) {x y : Matryoshka} {a b : Ball} (p : Between x a) (q : Between y b) where
  abbrev lost : ℕ
  lost = nat_abs (a.centre *ℤ b.centre -ℤ Round F (a.centre *ℤ b.centre) *ℤ pos (Q F))

  abbrev doubt : ℕ
  doubt = (nat_abs a.centre + a.margin) * b.margin + nat_abs b.centre * a.margin + lost

  abbrev moves : ℕ
  moves = (nat_abs x.middle + x.stray) * y.stray + nat_abs y.middle * x.stray

  abbrev doubts : ℕ
  doubts = (nat_abs x.middle + x.stray + x.margin) * y.margin + (nat_abs y.middle + y.stray) * x.margin + rounding_doubt F x y

  product_least : Up F moves ≤ Up F doubt
  product_least =
      up_mono F
      (le_trans
      (add-le-add
      (mul-le-mul (add-le-add (le_of_eq (ap nat_abs (sym p.same))) p.least) q.least)
      (mul-le-mul (le_of_eq (ap nat_abs (sym q.same))) p.least))
      (le-add_right _ lost))

  -- with R + r and S + s for the margins, what a product doubts is what it moves and what it doubts in the admission
  product_most : Up F doubt ≤ Up F moves + Up F doubts
  product_most =
      le_trans
      (up_mono F
      (le_trans
      (add-le-add
      (add-le-add (mul-le-mul (add-le-add (le_of_eq (ap nat_abs p.same)) p.most) q.most) (mul-le-mul (le_of_eq (ap nat_abs q.same)) p.most))
      (product_loss F (middle_covered p) (middle_covered q)))
      (le_of_eq parts)))
      (up_add F moves doubts)
    where
      parts : (nat_abs x.middle + (x.stray + x.margin)) * (y.stray + y.margin) + nat_abs y.middle * (x.stray + x.margin) + rounding_doubt F x y
          ≡ moves + doubts
      parts =
          ap nat_abs
          (ring
          (pos (nat_abs x.middle) ∷ pos x.stray ∷ pos x.margin ∷ pos (nat_abs y.middle) ∷ pos y.stray ∷ pos y.margin
          ∷ pos (rounding_doubt F x y) ∷ [])
          ((x₀ ⊕ (x₁ ⊕ x₂)) ⊗ (x₄ ⊕ x₅) ⊕ x₃ ⊗ (x₁ ⊕ x₂) ⊕ x₆)
          ((x₀ ⊕ x₁) ⊗ x₄ ⊕ x₃ ⊗ x₁ ⊕ ((x₀ ⊕ x₁ ⊕ x₂) ⊗ x₅ ⊕ (x₃ ⊕ x₄) ⊗ x₂ ⊕ x₆)) refl)

-- (R + r)/(v·a) is R/(t·a) + r/(v·t) where t = v + r and a = t + R, so it is no more rounded up
split_up : (t R r v : ℕ) → 0 < v → ceiling (t * (R + r)) (v * (v + r + R)) ≤ ceiling (t * R) ((v + r) * (v + r + R)) + ceiling (t * r) (v * (v + r))
split_up t R r v h =
    ceiling_at_most (k + l) (mul-pos h (omega arith))
    (le_of_mul-le-mul_right {k = v + r}
    (le_trans (le_of_eq apart) (le_trans (add-le-add (mul-le-mul_right v covers_stray) (mul-le-mul_right (v + r + R) covers_margin)) (le_of_eq together)))
    (omega arith))
  where
    k : ℕ
    k = ceiling (t * R) ((v + r) * (v + r + R))

    l : ℕ
    l = ceiling (t * r) (v * (v + r))

    covers_stray : t * R ≤ k * ((v + r) * (v + r + R))
    covers_stray = ceiling_covers (t * R) (mul-pos {m = v + r} {n = v + r + R} (omega arith) (omega arith))

    covers_margin : t * r ≤ l * (v * (v + r))
    covers_margin = ceiling_covers (t * r) (mul-pos h (omega arith))

    apart : t * (R + r) * (v + r) ≡ t * R * v + t * r * (v + r + R)
    apart = ap nat_abs (ring (pos t ∷ pos R ∷ pos r ∷ pos v ∷ []) (x₀ ⊗ (x₁ ⊕ x₂) ⊗ (x₃ ⊕ x₂)) (x₀ ⊗ x₁ ⊗ x₃ ⊕ x₀ ⊗ x₂ ⊗ (x₃ ⊕ x₂ ⊕ x₁)) refl)

    together : k * ((v + r) * (v + r + R)) * v + l * (v * (v + r)) * (v + r + R) ≡ (k + l) * (v * (v + r + R)) * (v + r)
    together =
        ap nat_abs (ring (pos k ∷ pos l ∷ pos v ∷ pos r ∷ pos R ∷ [])
        (x₀ ⊗ ((x₂ ⊕ x₃) ⊗ (x₂ ⊕ x₃ ⊕ x₄)) ⊗ x₂ ⊕ x₁ ⊗ (x₂ ⊗ (x₂ ⊕ x₃)) ⊗ (x₂ ⊕ x₃ ⊕ x₄)) ((x₀ ⊕ x₁) ⊗ (x₂ ⊗ (x₂ ⊕ x₃ ⊕ x₄)) ⊗ (x₂ ⊕ x₃)) refl)

module _ (F : ℕ) {x : Matryoshka} {a : Ball} (p : Between x a) (away : x.stray + x.margin < nat_abs x.middle) where
  size_same : nat_abs a.centre ≡ nat_abs x.middle
  size_same = ap nat_abs p.same

  pub between_away : a.margin < nat_abs a.centre
  between_away = omega (arith, size_same, p.most)

  reciprocal_least : (matryoshka_reciprocal F x).stray ≤ (ball_reciprocal F a).margin
  reciprocal_least =
      le_trans
      (ceiling_mono {p = (nat_abs x.middle - x.stray) * nat_abs x.middle} {q = (nat_abs a.centre - a.margin) * nat_abs a.centre}
      (mul-pos (omega (arith, between_away)) (omega (arith, between_away)))
      (mul-le-mul_left (T F) p.least) (mul-le-mul (omega (arith, size_same, p.least)) (le_of_eq size_same)))
      (le-add_right _ _)

  -- t − r, which is at least 1
  abbrev v : ℕ
  v = nat_abs x.middle - x.stray - x.margin

  reciprocal_most : (ball_reciprocal F a).margin ≤ (matryoshka_reciprocal F x).stray + (matryoshka_reciprocal F x).margin
  reciprocal_most =
      omega (
        arith,
        le_trans
            (ceiling_mono {m = T F * a.margin} {n = T F * (x.stray + x.margin)}
            {p = (nat_abs a.centre - a.margin) * nat_abs a.centre} {q = v * (v + x.margin + x.stray)}
            (mul-pos (omega arith) (omega arith)) (mul-le-mul_left (T F) p.most) (mul-le-mul (omega (arith, size_same, p.most)) (omega (arith, size_same))))
            (split_up (T F) x.stray x.margin v (omega arith)),
        inexact_most F a.centre,
        ap₂ (λ (t A : ℕ). ceiling (T F * x.stray) (t * A) + ceiling (T F * x.margin) (v * t)) parts wholes,
      )
    where
      parts : v + x.margin ≡ nat_abs x.middle - x.stray
      parts = omega arith

      wholes : v + x.margin + x.stray ≡ nat_abs x.middle
      wholes = omega arith

-- a matryoshka that is not refused with 17 has no ball that is
divisible_between : {o : Operation Matryoshka} {e : Operation Ball} → Alike Between o e → divides_by_zero matryoshka_may_be_zero o ≡ false
    → divides_by_zero ball_may_be_zero e ≡ false
divisible_between (constants c) z = refl
divisible_between (negations p) z = refl
divisible_between (sums p q) z = refl
divisible_between (differences p q) z = refl
divisible_between (products p q) z = refl
divisible_between (coefficients c r) z = refl
divisible_between (reciprocals {a = x} {x = a} p) z = away_ball a (between_away 0 p (matryoshka_away x z))

pub result_between : (F : ℕ) {o : Operation Matryoshka} {e : Operation Ball} → Alike Between o e → divides_by_zero matryoshka_may_be_zero o ≡ false
    → Between (matryoshka_result F o) (ball_result F e)
result_between F (constants c) z = record { same = refl; least = zero-le; most = zero-le }
result_between F (negations p) z = record { same = ap neg_ℤ p.same; least = p.least; most = p.most }
result_between F (sums p q) z =
    record { same = ap₂ ◌+ℤ◌ p.same q.same; least = add-le-add p.least q.least; most = omega (arith, p.most, q.most) }
result_between F (differences p q) z =
    record { same = ap₂ ◌-ℤ◌ p.same q.same; least = add-le-add p.least q.least; most = omega (arith, p.most, q.most) }
result_between F (products p q) z =
    record { same = ap₂ (λ (u w : ℤ). Round F (u *ℤ w)) p.same q.same; least = product_least F p q; most = product_most F p q }
result_between F (coefficients c r) z = record { same = refl; least = zero-le; most = omega arith }
result_between F (reciprocals {a = x} p) z =
    let away = matryoshka_away x z in
    record { same = ap (Inverse F) p.same; least = reciprocal_least F p away; most = reciprocal_most F p away }

-- what an accepted step of the admission promises of the ball step over (middle, stray)
pub rule_between : (F : ℕ) (o : Operation Matryoshka) (e : Operation Ball) (m : Matryoshka) → Alike Between o e → matryoshka_rule F o ≡ value m
    → Followed Between (ball_rule F) m e
rule_between F o e m p v =
    let r = step_accepted matryoshka_may_be_zero matryoshka_reach o (matryoshka_result F o) v in
    let b = subst (λ (n : Matryoshka). Between n (ball_result F e)) r.same (result_between F p r.divisible) in
    record {
      made = ball_result F e;
      accepted =
          step_accepts ball_may_be_zero ball_reach e (ball_result F e) (divisible_between p r.divisible) (le_trans (between_reach b) r.in_reach);
      related = b;
    }

-- a domain with all margins 0
still_between : (ds : List Ball) → Rel Between (map still ds) ds
still_between [] = Rel.none
still_between (d ∷ ds) =
    Rel.one {a = still d} (record { same = refl; least = le_refl d.margin; most = le-add_right d.margin 0 }) (still_between ds)

-- the same of the whole run: after an admission that is accepted the ball run over (middle, stray) finishes
pub ranges_finish : (F : ℕ) (is : List Instruction) (ds : List Ball) → Each (Smaller F) (length ds) is → {ns : List Matryoshka}
    → run (matryoshka_rule F) no_matryoshka is (map still ds) ≡ finished ns → FollowedRun Between (ball_rule F) no_ball is ds ns
ranges_finish F is ds small e =
    run_follows F (matryoshka_rule F) (ball_rule F) no_matryoshka no_ball (λ o p m. rule_between F o p m) is (still_between ds)
    (subst (λ (n : ℕ). Each (Smaller F) n is) (sym (length-map ds still)) small) e
