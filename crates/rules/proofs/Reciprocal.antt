-- Reciprocals: the floor of T/a + 1/2 misses T/a by at most a half and hits it where a divides T; and reciprocals of numbers that are near each
-- other are near each other, exact ones and rounded ones. Assumes nothing.
use mathlib.Core.Path.{◌≡◌, refl, sym, ◌∙◌, ap, ap₂, subst, subst₂}
use mathlib.Core.Bool.{Bool, true, false}
use mathlib.Core.List.{[], ◌∷◌}
use Prim.Native.Nat.{ℕ, zero, suc, ◌+◌, ◌-◌, ◌*◌, ◌/◌, ◌%◌, ◌^◌, ◌≤◌, ◌<◌, zero-le}
use native.Mathlib.Nat.{le_refl, le_trans, add-le-add, le_of_eq, mul-pos, mul-le-mul, mul-le-mul_left, mul-le-mul_right, le_of_mul-le-mul_right, div-add-mod', one-mul}
use native.Mathlib.Omega.{arith}
use lib.Dec.{eqb}
use borrow.Author.Tests.{eqb-true}
use lib.IntN.{ℤ, pos, negsuc, neg_ℤ, nat_abs, ◌+ℤ◌, ◌-ℤ◌, ◌*ℤ◌}
use lib.Pow.{pow_pos, pow-add}
use lib.Signed.{shr_z}
use Rattle.rules.specs.Numbers.{Q, ceiling}
use Rattle.rules.specs.Reciprocals.{T, sign, Inverse, inexact}
use Rattle.rules.specs.Values.{Fraction}
use Rattle.rules.specs.Balls.{ball, ball_reciprocal}
use Rattle.rules.specs.Exact.{across, upside_down}
use Rattle.rules.proofs.Rounding.{ceiling_covers, ceiling_least, ceiling_mono}
use Rattle.whole.proofs.Floor.{rest, rest_lt, floor_split, floor_unique}
use Rattle.whole.proofs.Laws.{one_mulℤ}
use Rattle.whole.proofs.Ring.{ring, neg, lit, ◌⊕◌, ◌⊖◌, ◌⊗◌, x₀, x₁, x₂, x₃, x₄, x₅, x₆, x₇}
use Rattle.whole.proofs.Size.{size_by, size_neg, size_add, size_mul, size_gap, size_near, size_sub_comm}

-- T is Q·Q
pub T_square : (F : ℕ) → T F ≡ Q F * Q F
T_square F = ap (λ (n : ℕ). 2 ^ n) twice ∙ pow-add 2 F F
  where
    twice : 2 * F ≡ F + F
    twice = omega arith

-- ---- signs

pub sign_one : (a : ℤ) → nat_abs (sign a) ≡ 1
sign_one (pos n) = refl
sign_one (negsuc n) = refl

sign_square : (a : ℤ) → sign a *ℤ sign a ≡ pos 1
sign_square (pos n) = refl
sign_square (negsuc n) = refl

pub sign_split : (a : ℤ) → a ≡ sign a *ℤ pos (nat_abs a)
sign_split (pos n) = ap pos (sym (one-mul n))
sign_split (negsuc n) = ap (λ (m : ℕ). neg_ℤ (pos m)) (sym (one-mul (suc n)))

pub sign_size : (a : ℤ) → pos (nat_abs a) ≡ sign a *ℤ a
sign_size (pos n) = ap pos (sym (one-mul n))
sign_size (negsuc n) = ap pos (sym (one-mul (suc n)))

pub sign_times : (a z : ℤ) → nat_abs (sign a *ℤ z) ≡ nat_abs z
sign_times a z = size_mul (sign a) z ∙ ap (λ (n : ℕ). n * nat_abs z) (sign_one a) ∙ one-mul (nat_abs z)

-- ---- the floor of T/a + 1/2

-- what it leaves, of 2·|a|
abbrev left : ℕ → ℤ → ℕ
left F a = rest (sign a *ℤ pos (2 * T F) +ℤ pos (nat_abs a)) (2 * nat_abs a)

-- what it loses: T − c·a
abbrev pub shortfall : ℕ → ℤ → ℤ
shortfall F a = pos (T F) -ℤ Inverse F a *ℤ a

module _ (F : ℕ) (a : ℤ) (away : 0 < nat_abs a) where
  left_lt : left F a < 2 * nat_abs a
  left_lt = rest_lt (sign a *ℤ pos (2 * T F) +ℤ pos (nat_abs a)) (omega arith)

  -- 2·T + a is c·2·a and what is left, with a's sign
  inverse_split : pos (2 * T F) +ℤ a ≡ Inverse F a *ℤ (pos 2 *ℤ a) +ℤ sign a *ℤ pos (left F a)
  unfolding Inverse
  inverse_split =
      ap₂ (λ (x y : ℤ). x +ℤ y) (sym (ap (λ (s : ℤ). s *ℤ pos (2 * T F)) (sign_square a) ∙ one_mulℤ (pos (2 * T F)))) (sign_split a)
      ∙ ring (sign a ∷ pos (2 * T F) ∷ pos (nat_abs a) ∷ []) (x₀ ⊗ x₀ ⊗ x₁ ⊕ x₀ ⊗ x₂) (x₀ ⊗ (x₀ ⊗ x₁ ⊕ x₂)) refl
      ∙ ap (λ (z : ℤ). sign a *ℤ z) (floor_split (sign a *ℤ pos (2 * T F) +ℤ pos (nat_abs a)) (omega arith))
      ∙ ring (sign a ∷ Inverse F a ∷ pos (nat_abs a) ∷ pos (left F a) ∷ [])
      (x₀ ⊗ (x₁ ⊗ (lit (pos 2) ⊗ x₂) ⊕ x₃)) (x₁ ⊗ (lit (pos 2) ⊗ (x₀ ⊗ x₂)) ⊕ x₀ ⊗ x₃) refl
      ∙ ap (λ (z : ℤ). Inverse F a *ℤ (pos 2 *ℤ z) +ℤ sign a *ℤ pos (left F a)) (sym (sign_split a))

  lost_twice : shortfall F a *ℤ pos 2 ≡ sign a *ℤ (pos (left F a) -ℤ pos (nat_abs a))
  lost_twice =
      ring (pos (T F) ∷ Inverse F a ∷ a ∷ []) ((x₀ ⊖ x₁ ⊗ x₂) ⊗ lit (pos 2)) (lit (pos 2) ⊗ x₀ ⊕ x₂ ⊖ x₁ ⊗ (lit (pos 2) ⊗ x₂) ⊖ x₂) refl
      ∙ ap (λ (z : ℤ). z -ℤ Inverse F a *ℤ (pos 2 *ℤ a) -ℤ a) inverse_split
      ∙ ring (Inverse F a ∷ a ∷ sign a ∷ pos (left F a) ∷ []) (x₀ ⊗ (lit (pos 2) ⊗ x₁) ⊕ x₂ ⊗ x₃ ⊖ x₀ ⊗ (lit (pos 2) ⊗ x₁) ⊖ x₁) (x₂ ⊗ x₃ ⊖ x₁) refl
      ∙ ap (λ (z : ℤ). sign a *ℤ pos (left F a) -ℤ z) (sign_split a)
      ∙ ring (sign a ∷ pos (left F a) ∷ pos (nat_abs a) ∷ []) (x₀ ⊗ x₁ ⊖ x₀ ⊗ x₂) (x₀ ⊗ (x₁ ⊖ x₂)) refl

  -- |T/a − c| is at most a half
  pub inverse_loss : nat_abs (shortfall F a) * 2 ≤ nat_abs a
  inverse_loss =
      subst (λ (n : ℕ). n ≤ nat_abs a)
      (sym (sign_times a (pos (left F a) -ℤ pos (nat_abs a))) ∙ sym (ap nat_abs lost_twice) ∙ size_mul (shortfall F a) (pos 2))
      (size_gap (left F a) (nat_abs a) (omega (arith, left_lt)) (omega arith))

  -- it is T/a itself where a divides T
  pub inverse_exact : T F % nat_abs a ≡ 0 → Inverse F a *ℤ a ≡ pos (T F)
  unfolding Inverse
  inverse_exact e =
      ap₂ (λ (x y : ℤ). x *ℤ y)
      (ap (λ (z : ℤ). shr_z z (2 * nat_abs a)) (ap (λ (n : ℕ). sign a *ℤ pos (2 * n) +ℤ pos (nat_abs a)) times ∙ ring (sign a ∷ pos (T F / nat_abs a) ∷ pos (nat_abs a) ∷ []) (x₀ ⊗ (lit (pos 2) ⊗ (x₁ ⊗ x₂)) ⊕ x₂) (x₀ ⊗ x₁ ⊗ (lit (pos 2) ⊗ x₂) ⊕ x₂) refl)
      ∙ floor_unique (sign a *ℤ pos (T F / nat_abs a)) (nat_abs a) (omega arith))
      (sign_split a)
      ∙ ring (sign a ∷ pos (T F / nat_abs a) ∷ pos (nat_abs a) ∷ []) (x₀ ⊗ x₁ ⊗ (x₀ ⊗ x₂)) (x₀ ⊗ x₀ ⊗ (x₁ ⊗ x₂)) refl
      ∙ ap₂ (λ (s : ℤ) (n : ℕ). s *ℤ pos n) (sign_square a) (sym times) ∙ one_mulℤ (pos (T F))
    where
      times : T F ≡ T F / nat_abs a * nat_abs a
      times = omega (arith, div-add-mod' (T F) (nat_abs a))

  -- so what it loses is at most |a|, and 0 where a divides T
  pub inverse_lost : nat_abs (shortfall F a) ≤ inexact F a * nat_abs a
  unfolding inexact
  inverse_lost = by_test (eqb (T F % nat_abs a) 0) refl
    where
      by_test : (t : Bool) → eqb (T F % nat_abs a) 0 ≡ t → nat_abs (shortfall F a) ≤ inexact F a * nat_abs a
      by_test true e =
          size_by (ap (λ (z : ℤ). pos (T F) -ℤ z) (inverse_exact (eqb-true (T F % nat_abs a) 0 e)) ∙ ring (pos (T F) ∷ []) (x₀ ⊖ x₀) (lit (pos 0)) refl) zero-le
      by_test false e = rw (inexact, e) (omega (arith, inverse_loss))

pub inexact_most : (F : ℕ) (a : ℤ) → inexact F a ≤ 1
unfolding inexact
inexact_most F a = by_test (eqb (T F % nat_abs a) 0) refl
  where
    by_test : (t : Bool) → eqb (T F % nat_abs a) 0 ≡ t → inexact F a ≤ 1
    by_test true e = rw (inexact, e) zero-le
    by_test false e = rw (inexact, e) (le_refl 1)

-- ---- reciprocals of numbers that are near each other

-- Exact ones: two numbers x/d and y/e with |x| = m, |y| = n and |x·e − y·d| = u. They are within g of each other and at least v and w from 0.
-- Then T/(x/d) and T/(y/e) are within k of each other, for k at least T·g/(v·w): their difference is T·(d·y − e·x)/(x·y).
pub reciprocals_near : (t d e g v w k : ℕ) {u m n : ℕ} → u ≤ g * (d * e) → v * d ≤ m → w * e ≤ n → t * g ≤ k * (v * w) → t * u ≤ k * (m * n)
reciprocals_near t d e g v w k near p q l = omega (arith, mul-le-mul_left t near, mul-le-mul_right (d * e) l, mul-le-mul_left k (mul-le-mul p q))

-- the same of fractions, in units: 1/x and 1/y are within k/Q, where x and y are within g/Q of each other and at least v/Q and w/Q from 0
module _ (F : ℕ) (x y : Fraction) (p : 1 ≤ nat_abs x.numerator) (q : 1 ≤ nat_abs y.numerator) where
  apart : nat_abs (across (upside_down x p) (upside_down y q) -ℤ across (upside_down y q) (upside_down x p)) ≡ nat_abs (across x y -ℤ across y x)
  apart =
      ap nat_abs
      (ap₂ (λ (m n : ℤ). sign x.numerator *ℤ pos x.denominator *ℤ n -ℤ sign y.numerator *ℤ pos y.denominator *ℤ m) (sign_size x.numerator) (sign_size y.numerator)
      ∙ ring (sign x.numerator ∷ sign y.numerator ∷ x.numerator ∷ y.numerator ∷ pos x.denominator ∷ pos y.denominator ∷ [])
      (x₀ ⊗ x₄ ⊗ (x₁ ⊗ x₃) ⊖ x₁ ⊗ x₅ ⊗ (x₀ ⊗ x₂)) (x₀ ⊗ (x₁ ⊗ neg (x₂ ⊗ x₅ ⊖ x₃ ⊗ x₄))) refl)
      ∙ sign_times x.numerator (sign y.numerator *ℤ neg_ℤ (across x y -ℤ across y x))
      ∙ sign_times y.numerator (neg_ℤ (across x y -ℤ across y x)) ∙ size_neg (across x y -ℤ across y x)

  pub fractions_near : (g v w k : ℕ) → nat_abs (across x y -ℤ across y x) * Q F ≤ g * (x.denominator * y.denominator)
      → v * x.denominator ≤ nat_abs x.numerator * Q F → w * y.denominator ≤ nat_abs y.numerator * Q F → T F * g ≤ k * (v * w)
      → nat_abs (across (upside_down x p) (upside_down y q) -ℤ across (upside_down y q) (upside_down x p)) * Q F ≤ k * (nat_abs x.numerator * nat_abs y.numerator)
  fractions_near g v w k near far further l =
      rw apart
      (le_of_mul-le-mul_right {k = T F}
      (omega (
        arith,
        reciprocals_near (T F) x.denominator y.denominator g v w k near far further l,
        ap (λ (t : ℕ). k * (nat_abs x.numerator * nat_abs y.numerator) * t) (T_square F),
      ))
      (pow_pos (2 * F)))

-- Rounded ones.

-- between what two floors leave, each times the other's divisor
abbrev gap : ℕ → ℤ → ℤ → ℤ
gap F a b = pos (nat_abs a * left F b) -ℤ pos (nat_abs b * left F a)

module _ (F : ℕ) (a b : ℤ) (away : 0 < nat_abs a) (aside : 0 < nat_abs b) where
  -- (c − c')·2·a·b, from what the two floors leave
  moved : (Inverse F a -ℤ Inverse F b) *ℤ (pos 2 *ℤ (a *ℤ b))
      ≡ pos 2 *ℤ (pos (T F) *ℤ (b -ℤ a)) +ℤ sign a *ℤ (sign b *ℤ gap F a b)
  moved =
      ring (Inverse F a ∷ Inverse F b ∷ a ∷ b ∷ (sign a *ℤ pos (left F a)) ∷ (sign b *ℤ pos (left F b)) ∷ [])
      ((x₀ ⊖ x₁) ⊗ (lit (pos 2) ⊗ (x₂ ⊗ x₃)))
      (x₃ ⊗ (x₀ ⊗ (lit (pos 2) ⊗ x₂) ⊕ x₄ ⊖ x₄) ⊖ x₂ ⊗ (x₁ ⊗ (lit (pos 2) ⊗ x₃) ⊕ x₅ ⊖ x₅)) refl
      ∙ ap₂ (λ (x y : ℤ). b *ℤ (x -ℤ sign a *ℤ pos (left F a)) -ℤ a *ℤ (y -ℤ sign b *ℤ pos (left F b))) (sym (inverse_split F a away)) (sym (inverse_split F b aside))
      ∙ ring (pos (T F) ∷ a ∷ b ∷ (sign a *ℤ pos (left F a)) ∷ (sign b *ℤ pos (left F b)) ∷ [])
      (x₂ ⊗ (lit (pos 2) ⊗ x₀ ⊕ x₁ ⊖ x₃) ⊖ x₁ ⊗ (lit (pos 2) ⊗ x₀ ⊕ x₂ ⊖ x₄))
      (lit (pos 2) ⊗ (x₀ ⊗ (x₂ ⊖ x₁)) ⊕ (x₁ ⊗ x₄ ⊖ x₂ ⊗ x₃)) refl
      ∙ ap₂ (λ (x y : ℤ). pos 2 *ℤ (pos (T F) *ℤ (b -ℤ a)) +ℤ (x *ℤ (sign b *ℤ pos (left F b)) -ℤ y *ℤ (sign a *ℤ pos (left F a)))) (sign_split a) (sign_split b)
      ∙ ring ((pos 2 *ℤ (pos (T F) *ℤ (b -ℤ a))) ∷ sign a ∷ sign b ∷ pos (nat_abs a) ∷ pos (nat_abs b) ∷ pos (left F a) ∷ pos (left F b) ∷ [])
      (x₀ ⊕ (x₁ ⊗ x₃ ⊗ (x₂ ⊗ x₆) ⊖ x₂ ⊗ x₄ ⊗ (x₁ ⊗ x₅)))
      (x₀ ⊕ x₁ ⊗ (x₂ ⊗ (x₃ ⊗ x₆ ⊖ x₄ ⊗ x₅))) refl

  -- the two leave less than 2·|a|·|b| between them
  gap_small : nat_abs (gap F a b) ≤ 2 * (nat_abs a * nat_abs b) - 1
  gap_small =
      size_gap (nat_abs a * left F b) (nat_abs b * left F a)
      (omega (arith, mul-le-mul_left (nat_abs a) (left_lt F b aside)))
      (omega (arith, mul-le-mul_left (nat_abs b) (left_lt F a away)))

  moved_twice : nat_abs (Inverse F a -ℤ Inverse F b) * (2 * (nat_abs a * nat_abs b)) ≤ 2 * (T F * nat_abs (a -ℤ b)) + (2 * (nat_abs a * nat_abs b) - 1)
  moved_twice =
      subst (λ (n : ℕ). n ≤ 2 * (T F * nat_abs (a -ℤ b)) + (2 * (nat_abs a * nat_abs b) - 1))
      (sym (ap nat_abs moved) ∙ size_mul (Inverse F a -ℤ Inverse F b) (pos 2 *ℤ (a *ℤ b))
      ∙ ap (λ (n : ℕ). nat_abs (Inverse F a -ℤ Inverse F b) * n) (size_mul (pos 2) (a *ℤ b) ∙ ap (λ (n : ℕ). 2 * n) (size_mul a b)))
      (le_trans (size_add (pos 2 *ℤ (pos (T F) *ℤ (b -ℤ a))) (sign a *ℤ (sign b *ℤ gap F a b)))
      (add-le-add
      (le_of_eq (size_mul (pos 2) (pos (T F) *ℤ (b -ℤ a)) ∙ ap (λ (n : ℕ). 2 * n) (size_mul (pos (T F)) (b -ℤ a) ∙ ap (λ (n : ℕ). T F * n) (size_sub_comm b a))))
      (le_trans (le_of_eq (sign_times a (sign b *ℤ gap F a b) ∙ sign_times b (gap F a b))) gap_small)))

  -- |floor(T/a + 1/2) − floor(T/b + 1/2)| is at most T·|a − b|/(|a|·|b|) rounded up
  pub inverses_near : nat_abs (Inverse F a -ℤ Inverse F b) ≤ ceiling (T F * nat_abs (a -ℤ b)) (nat_abs a * nat_abs b)
  inverses_near =
      ceiling_least (nat_abs (Inverse F a -ℤ Inverse F b)) (T F * nat_abs (a -ℤ b)) (mul-pos away aside) (omega (arith, moved_twice, mul-pos away aside))

-- the same from bounds: a is within R of b, and b is further than R from 0
pub inverses_within : (F : ℕ) (a b : ℤ) (R : ℕ) → nat_abs (a -ℤ b) ≤ R → R < nat_abs b → nat_abs (Inverse F a -ℤ Inverse F b) ≤ ceiling (T F * R) ((nat_abs b - R) * nat_abs b)
inverses_within F a b R near away =
    le_trans (inverses_near F a b (omega (arith, least)) (omega arith))
    (ceiling_mono (mul-pos room (omega arith)) (mul-le-mul_left (T F) near) (mul-le-mul_right (nat_abs b) (omega (arith, least))))
  where
    least : nat_abs b ≤ nat_abs a + R
    least = size_near b a (le_trans (le_of_eq (size_sub_comm b a)) near)

    room : 0 < nat_abs b - R
    room = omega arith

-- a number a, and a fraction n/d that misses it
module _ (F : ℕ) (a n : ℤ) (d : ℕ) where
  abbrev miss : ℤ
  miss = n *ℤ pos (Q F) -ℤ a *ℤ pos d

  -- a·Q times what d/n misses c by, from n/d's miss and what rounding lost
  reciprocal_miss : (sign n *ℤ pos d *ℤ pos (Q F) -ℤ Inverse F a *ℤ pos (nat_abs n)) *ℤ (a *ℤ pos (Q F))
      ≡ pos (T F) *ℤ (sign n *ℤ neg_ℤ miss) +ℤ shortfall F a *ℤ (pos (nat_abs n) *ℤ pos (Q F))
  reciprocal_miss =
      ring (sign n ∷ pos d ∷ pos (Q F) ∷ Inverse F a ∷ pos (nat_abs n) ∷ a ∷ [])
      ((x₀ ⊗ x₁ ⊗ x₂ ⊖ x₃ ⊗ x₄) ⊗ (x₅ ⊗ x₂))
      (x₂ ⊗ x₂ ⊗ (x₀ ⊗ (x₅ ⊗ x₁) ⊖ x₄ ⊗ x₂) ⊕ (x₂ ⊗ x₂ ⊖ x₃ ⊗ x₅) ⊗ (x₄ ⊗ x₂)) refl
      ∙ ap₂ (λ (t : ℕ) (z : ℤ). pos t *ℤ (sign n *ℤ (a *ℤ pos d) -ℤ z *ℤ pos (Q F)) +ℤ (pos t -ℤ Inverse F a *ℤ a) *ℤ (pos (nat_abs n) *ℤ pos (Q F)))
      (sym (T_square F)) (sign_size n)
      ∙ ring (pos (T F) ∷ sign n ∷ a ∷ pos d ∷ n ∷ pos (Q F) ∷ shortfall F a ∷ (pos (nat_abs n) *ℤ pos (Q F)) ∷ [])
      (x₀ ⊗ (x₁ ⊗ (x₂ ⊗ x₃) ⊖ x₁ ⊗ x₄ ⊗ x₅) ⊕ x₆ ⊗ x₇)
      (x₀ ⊗ (x₁ ⊗ neg (x₄ ⊗ x₅ ⊖ x₂ ⊗ x₃)) ⊕ x₆ ⊗ x₇) refl

  -- so d/n misses c by at most this
  pub inverse_misses : nat_abs (sign n *ℤ pos d *ℤ pos (Q F) -ℤ Inverse F a *ℤ pos (nat_abs n)) * (nat_abs a * Q F) ≤ T F * nat_abs miss + nat_abs (shortfall F a) * (nat_abs n * Q F)
  inverse_misses =
      subst₂ (λ (m k : ℕ). m ≤ k)
      (sym (ap nat_abs reciprocal_miss)
      ∙ size_mul (sign n *ℤ pos d *ℤ pos (Q F) -ℤ Inverse F a *ℤ pos (nat_abs n)) (a *ℤ pos (Q F))
      ∙ ap (λ (k : ℕ). nat_abs (sign n *ℤ pos d *ℤ pos (Q F) -ℤ Inverse F a *ℤ pos (nat_abs n)) * k) (size_mul a (pos (Q F))))
      (ap₂ (λ (m k : ℕ). m + k)
      (size_mul (pos (T F)) (sign n *ℤ neg_ℤ miss) ∙ ap (λ (k : ℕ). T F * k) (sign_times n (neg_ℤ miss) ∙ size_neg miss))
      (size_mul (shortfall F a) (pos (nat_abs n) *ℤ pos (Q F))))
      (size_add (pos (T F) *ℤ (sign n *ℤ neg_ℤ miss)) (shortfall F a *ℤ (pos (nat_abs n) *ℤ pos (Q F))))

-- a ball (a, r) away from 0, and a fraction n/d that it contains
module _ (F : ℕ) (a n : ℤ) (r d : ℕ) (near : nat_abs (n *ℤ pos (Q F) -ℤ a *ℤ pos d) ≤ r * d) (away : r < nat_abs a) where
  -- what the ball contains is at least |a| − r from 0
  pub far : (nat_abs a - r) * d ≤ nat_abs n * Q F
  far = by_parts (nat_abs a - r) (nat_abs a) (nat_abs n * Q F) (omega arith) (omega (arith, inside, size_mul a (pos d), size_mul n (pos (Q F))))
    where
      inside : nat_abs (a *ℤ pos d) ≤ nat_abs (n *ℤ pos (Q F)) + r * d
      inside = size_near (a *ℤ pos d) (n *ℤ pos (Q F)) (le_trans (le_of_eq (size_sub_comm (a *ℤ pos d) (n *ℤ pos (Q F)))) near)

      by_parts : (w m k : ℕ) → w + r ≡ m → m * d ≤ k + r * d → w * d ≤ k
      by_parts w m k e l = omega (arith, ap (λ (i : ℕ). i * d) e)

  room : 0 < nat_abs a - r
  room = omega arith

  pub not_zero : 1 ≤ d → 1 ≤ nat_abs n
  not_zero l = factor (nat_abs n) (le_trans (mul-pos room l) far)
    where
      factor : (m : ℕ) → 0 < m * Q F → 1 ≤ m
      factor zero l = omega arith
      factor (suc m) l = omega arith

  -- "margin T·r/((|a|−r)·|a|) rounded up" covers what n/d's miss comes to
  covered : T F * nat_abs (miss F a n d) ≤ ceiling (T F * r) ((nat_abs a - r) * nat_abs a) * (nat_abs n * Q F * nat_abs a)
  covered =
      reciprocals_near (T F) d 1 r (nat_abs a - r) (nat_abs a) (ceiling (T F * r) ((nat_abs a - r) * nat_abs a)) (omega arith) far (omega arith) (ceiling_covers (T F * r) (mul-pos room (omega arith)))

  -- "plus 1 unless a divides T" covers what rounding lost: |d/n·Q − c| is at most the margin
  pub inverse_encloses : nat_abs (sign n *ℤ pos d *ℤ pos (Q F) -ℤ Inverse F a *ℤ pos (nat_abs n)) ≤ (ball_reciprocal F (ball a r)).margin * nat_abs n
  inverse_encloses =
      le_of_mul-le-mul_right {k = nat_abs a * Q F}
      (together (nat_abs a) (Q F) (nat_abs n) (ceiling (T F * r) ((nat_abs a - r) * nat_abs a)) (inexact F a) (nat_abs (sign n *ℤ pos d *ℤ pos (Q F) -ℤ Inverse F a *ℤ pos (nat_abs n)))
      (inverse_misses F a n d) covered (mul-le-mul_right (nat_abs n * Q F) (inverse_lost F a (omega arith))))
      (mul-pos (omega arith) (pow_pos F))
    where
      together : (m q k c i w : ℕ) {u s : ℕ} → w * (m * q) ≤ u + s → u ≤ c * (k * q * m) → s ≤ i * m * (k * q) → w * (m * q) ≤ (c + i) * k * (m * q)
      together m q k c i w e l h = omega arith
