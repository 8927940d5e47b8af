-- Each matryoshka rule keeps: operands that are narrower, with the same middles, give a result that is narrower, with the same middle; where the wider
-- step is accepted, so is the narrower. Assumes nothing.
use mathlib.Core.Path.{◌≡◌, refl, sym, ap, ap₂, subst}
use mathlib.Core.Bool.{false}
use mathlib.Core.Logic.{◌⊎◌, inl, inr}
use Prim.Native.Nat.{ℕ, ◌+◌, ◌-◌, ◌*◌, ◌%◌, ◌≤◌, ◌<◌, zero-le}
use native.Mathlib.Nat.{le_refl, le_trans, le_of_eq, add-le-add, mul-pos, mul-le-mul, mul-le-mul_left}
use native.Mathlib.Omega.{arith}
use lib.IntN.{ℤ, nat_abs, neg_ℤ, ◌+ℤ◌, ◌-ℤ◌, ◌*ℤ◌}
use Rattle.refusals.specs.Answer.{value}
use Rattle.rules.specs.declared.Matryoshka.{Matryoshka}
use Rattle.rules.specs.Numbers.{Q, h, Round, Up}
use Rattle.rules.specs.Values.{IsMatryoshka, matryoshka_reach}
use Rattle.rules.specs.Reciprocals.{T, Inverse, matryoshka_may_be_zero}
use Rattle.rules.specs.Operation.{Operation, divides_by_zero, Alike, constants, negations, sums, differences, products, coefficients, reciprocals}
use Rattle.rules.specs.Matryoshki.{rounding_doubt, matryoshka_reciprocal, matryoshka_result, matryoshka_rule}
use Rattle.rules.proofs.Reach.{Accepted, step_accepts, step_accepted}
use Rattle.rules.proofs.Rounding.{ceiling_mono, up_mono}
use Rattle.rules.proofs.Whole.{Whole, doubt_cases, doubt_left_out}
use Rattle.rules.proofs.Zeros.{matryoshka_away, away_matryoshka}
use Rattle.formulas.proofs.Following.{Followed}
use Rattle.shrinking.specs.Narrow.{Narrows}

-- the size of a kept middle
kept_size : {m n : Matryoshka} → Narrows m n → nat_abs n.middle ≡ nat_abs m.middle
kept_size p = ap nat_abs p.middle_kept

kept_no_larger : {m n : Matryoshka} → Narrows m n → nat_abs n.middle ≤ nat_abs m.middle
kept_no_larger p = le_of_eq (kept_size p)

narrows_reach : {m n : Matryoshka} → Narrows m n → matryoshka_reach n ≤ matryoshka_reach m
narrows_reach p = add-le-add (add-le-add (kept_no_larger p) p.stray_no_larger) p.margin_no_larger

-- a narrower matryoshka is one too
pub narrows_legal : {m n : Matryoshka} → Narrows m n → IsMatryoshka m → IsMatryoshka n
narrows_legal p l = le_trans (narrows_reach p) l

-- a whole factor stays whole: its stray stays 0 and its middle is kept
whole_narrows : {F : ℕ} {m n : Matryoshka} → Narrows m n → Whole F m → Whole F n
whole_narrows {F} p w =
    record {
      no_stray = omega (arith, p.stray_no_larger, w.no_stray);
      multiple = subst (λ (z : ℤ). nat_abs z % Q F ≡ 0) (sym p.middle_kept) w.multiple;
    }

doubt_at_most : (F : ℕ) (x y : Matryoshka) → rounding_doubt F x y ≤ h F
doubt_at_most F x y = by_cases (doubt_cases F x y)
  where
    by_cases : (Whole F x ⊎ Whole F y) ⊎ (rounding_doubt F x y ≡ h F) → rounding_doubt F x y ≤ h F
    by_cases (inl w) = le_trans (le_of_eq (doubt_left_out F x y w)) zero-le
    by_cases (inr e) = le_of_eq e

module _ (F : ℕ) {x y a b : Matryoshka} (p : Narrows x a) (q : Narrows y b) where
  product_strays : Up F ((nat_abs a.middle + a.stray) * b.stray + nat_abs b.middle * a.stray)
      ≤ Up F ((nat_abs x.middle + x.stray) * y.stray + nat_abs y.middle * x.stray)
  product_strays =
      up_mono F
      (add-le-add
      (mul-le-mul (add-le-add (kept_no_larger p) p.stray_no_larger) q.stray_no_larger)
      (mul-le-mul (kept_no_larger q) p.stray_no_larger))

  -- so shrinking can only leave h out
  doubts_narrow : rounding_doubt F a b ≤ rounding_doubt F x y
  doubts_narrow = by_cases (doubt_cases F x y)
    where
      by_cases : (Whole F x ⊎ Whole F y) ⊎ (rounding_doubt F x y ≡ h F) → rounding_doubt F a b ≤ rounding_doubt F x y
      by_cases (inl (inl w)) = le_trans (le_of_eq (doubt_left_out F a b (inl (whole_narrows p w)))) zero-le
      by_cases (inl (inr w)) = le_trans (le_of_eq (doubt_left_out F a b (inr (whole_narrows q w)))) zero-le
      by_cases (inr e) = le_trans (doubt_at_most F a b) (le_of_eq (sym e))

  product_margins : Up F ((nat_abs a.middle + a.stray + a.margin) * b.margin + (nat_abs b.middle + b.stray) * a.margin + rounding_doubt F a b)
      ≤ Up F ((nat_abs x.middle + x.stray + x.margin) * y.margin + (nat_abs y.middle + y.stray) * x.margin + rounding_doubt F x y)
  product_margins =
      up_mono F
      (add-le-add
      (add-le-add
      (mul-le-mul (narrows_reach p) q.margin_no_larger)
      (mul-le-mul (add-le-add (kept_no_larger q) q.stray_no_larger) p.margin_no_larger))
      doubts_narrow)

-- t = |A| − R can only grow, and t − r with it
module _ {x a : Matryoshka} (p : Narrows x a) (away : x.stray + x.margin < nat_abs x.middle) where
  narrows_away : a.stray + a.margin < nat_abs a.middle
  narrows_away = omega (arith, kept_size p, p.stray_no_larger, p.margin_no_larger)

  least_grows : nat_abs x.middle - x.stray ≤ nat_abs a.middle - a.stray
  least_grows = omega (arith, kept_size p, p.stray_no_larger)

  reciprocal_strays : (F : ℕ) → (matryoshka_reciprocal F a).stray ≤ (matryoshka_reciprocal F x).stray
  reciprocal_strays F =
      ceiling_mono (mul-pos (omega arith) (omega arith)) (mul-le-mul_left (T F) p.stray_no_larger)
      (mul-le-mul least_grows (le_of_eq (sym (kept_size p))))

  reciprocal_margins : (F : ℕ) → (matryoshka_reciprocal F a).margin ≤ (matryoshka_reciprocal F x).margin
  reciprocal_margins F =
      add-le-add
      (ceiling_mono (mul-pos (omega arith) (omega arith)) (mul-le-mul_left (T F) p.margin_no_larger)
      (mul-le-mul (omega (arith, least_grows, p.margin_no_larger)) least_grows))
      (le_refl 1)

-- a narrower operand is not refused with 17 where the wider is not
divisible_narrows : {o e : Operation Matryoshka} → Alike Narrows o e → divides_by_zero matryoshka_may_be_zero o ≡ false
    → divides_by_zero matryoshka_may_be_zero e ≡ false
divisible_narrows (constants c) z = refl
divisible_narrows (negations p) z = refl
divisible_narrows (sums p q) z = refl
divisible_narrows (differences p q) z = refl
divisible_narrows (products p q) z = refl
divisible_narrows (coefficients c r) z = refl
divisible_narrows (reciprocals {a = x} {x = a} p) z = away_matryoshka a (narrows_away p (matryoshka_away x z))

pub result_narrows : (F : ℕ) {o e : Operation Matryoshka} → Alike Narrows o e → divides_by_zero matryoshka_may_be_zero o ≡ false
    → Narrows (matryoshka_result F o) (matryoshka_result F e)
result_narrows F (constants c) z = record { middle_kept = refl; stray_no_larger = zero-le; margin_no_larger = zero-le }
result_narrows F (negations p) z =
    record { middle_kept = ap neg_ℤ p.middle_kept; stray_no_larger = p.stray_no_larger; margin_no_larger = p.margin_no_larger }
result_narrows F (sums p q) z =
    record {
      middle_kept = ap₂ ◌+ℤ◌ p.middle_kept q.middle_kept;
      stray_no_larger = add-le-add p.stray_no_larger q.stray_no_larger;
      margin_no_larger = add-le-add p.margin_no_larger q.margin_no_larger;
    }
result_narrows F (differences p q) z =
    record {
      middle_kept = ap₂ ◌-ℤ◌ p.middle_kept q.middle_kept;
      stray_no_larger = add-le-add p.stray_no_larger q.stray_no_larger;
      margin_no_larger = add-le-add p.margin_no_larger q.margin_no_larger;
    }
result_narrows F (products p q) z =
    record {
      middle_kept = ap₂ (λ (A B : ℤ). Round F (A *ℤ B)) p.middle_kept q.middle_kept;
      stray_no_larger = product_strays F p q;
      margin_no_larger = product_margins F p q;
    }
result_narrows F (coefficients c r) z = record { middle_kept = refl; stray_no_larger = zero-le; margin_no_larger = le_refl r }
result_narrows F (reciprocals {a = x} p) z =
    let away = matryoshka_away x z in
    record {
      middle_kept = ap (Inverse F) p.middle_kept;
      stray_no_larger = reciprocal_strays p away F;
      margin_no_larger = reciprocal_margins p away F;
    }

pub rule_narrows : (F : ℕ) (o e : Operation Matryoshka) (m : Matryoshka) → Alike Narrows o e → matryoshka_rule F o ≡ value m
    → Followed Narrows (matryoshka_rule F) m e
rule_narrows F o e m p v =
    record {
      made = matryoshka_result F e;
      accepted =
          step_accepts matryoshka_may_be_zero matryoshka_reach e (matryoshka_result F e) (divisible_narrows p r.divisible)
          (narrows_legal c r.in_reach);
      related = c;
    }
  where
    r : Accepted matryoshka_may_be_zero matryoshka_reach o (matryoshka_result F o) m
    r = step_accepted matryoshka_may_be_zero matryoshka_reach o (matryoshka_result F o) v

    c : Narrows m (matryoshka_result F e)
    c = subst (λ (n : Matryoshka). Narrows n (matryoshka_result F e)) r.same (result_narrows F p r.divisible)
