-- The nearest whole number to a quotient, by the size of what is divided, on 64 bits; and that it is the quotient exactly where nothing is left.
-- Assumes nothing.
use mathlib.Core.Path.{◌≡◌, refl, sym, ◌∙◌, ap}
use mathlib.Core.Bool.{Bool, true, false, cond, not}
use mathlib.Core.List.{[], ◌∷◌}
use Prim.Native.Nat.{ℕ, ◌+◌, ◌-◌, ◌*◌, ◌/◌, ◌%◌, ◌^◌, ◌≤◌, ◌<◌}
use native.Mathlib.Nat.{div-le_self, div-mul-le_self, lt-div-mul-add, div-add-mod', mul-mod_left, le-div_iff_mul-le, div-lt_iff_lt-mul}
use native.Mathlib.Omega.{arith}
use borrow.Author.Tests.{ltb-true, eq-eqb, ne_eqb, eqb-true, eqb-false}
use lib.Dec.{eqb}
use lib.IntN.{ℤ, pos, negsuc, neg_ℤ, nat_abs, ◌+ℤ◌, ◌-ℤ◌, ◌*ℤ◌}
use lib.Signed.{lt_z, shr_z}
use mir.Syntax.{w64}
use mir.Val.{to_z, bool_byte}
use mir.ValLaws.{to_z_pos}
use Rattle.whole.proofs.Cases.{never}
use Rattle.whole.proofs.Floor.{floor_unique}
use Rattle.whole.proofs.Machine.{back}
use Rattle.whole.proofs.Minus.{size_minus, minus_back}
use Rattle.whole.proofs.Ring.{ring, neg, lit, ◌⊕◌, ◌⊖◌, ◌⊗◌, x₀, x₁, x₂, x₃}
use Rattle.reciprocals.specs.Nearest.{nearest, unless_divides, signed, Dividing}

pub size_signed : (below : Bool) (n : ℕ) → nat_abs (signed below n) ≡ n
size_signed true n = size_minus n
size_signed false n = refl

pub signed_is : (z : ℤ) → signed (lt_z z (pos 0)) (nat_abs z) ≡ z
signed_is z = by_sign z (lt_z z (pos 0)) refl
  where
    by_sign : (z : ℤ) (below : Bool) → lt_z z (pos 0) ≡ below → signed below (nat_abs z) ≡ z
    by_sign (pos m) true e = let l : m < 0 = ltb-true m 0 e in absurd (omega arith)
    by_sign (pos m) false e = refl
    by_sign (negsuc m) true e = refl
    by_sign (negsuc m) false e = never e

-- p/t rounded down, once a half was added, or a little less than that
abbrev pub rounded : ℕ → ℕ → ℕ → ℕ
rounded p t less = (2 * p + t - less) / (2 * t)

-- ---- by the size alone

-- from zero on: (2·p + t)/(2·t) rounded down
nearest_above : (p t : ℕ) → nearest (pos p) t ≡ pos (rounded p t 0)
unfolding nearest
nearest_above p t = ap (λ (n : ℕ). pos (n / (2 * t))) (let e : 2 * p + t ≡ 2 * p + t - 0 = omega arith in e)

-- below zero: −((2·p + t − 1)/(2·t)), the quotient rounded down
nearest_below : (p t : ℕ) → 0 < t → nearest (neg_ℤ (pos p)) t ≡ neg_ℤ (pos (rounded p t 1))
unfolding nearest
nearest_below p t some = ap (λ (z : ℤ). shr_z z (2 * t)) same ∙ floor_unique (neg_ℤ (pos k)) left small
  where
    k : ℕ
    k = rounded p t 1

    left : ℕ
    left = k * (2 * t) + t - 2 * p

    below : k * (2 * t) ≤ 2 * p + t - 1
    below = div-mul-le_self (2 * p + t - 1) (2 * t)

    above : 2 * p + t - 1 < k * (2 * t) + 2 * t
    above = lt-div-mul-add (omega arith)

    small : left < 2 * t
    small = omega (arith, below)

    back_up : left + 2 * p ≡ k * (2 * t) + t
    back_up = omega (arith, above)

    same : pos 2 *ℤ neg_ℤ (pos p) +ℤ pos t ≡ neg_ℤ (pos k) *ℤ pos (2 * t) +ℤ pos left
    same =
        ring (pos p ∷ pos t ∷ pos (k * (2 * t)) ∷ []) (lit (pos 2) ⊗ neg x₀ ⊕ x₁) (neg x₂ ⊕ (x₂ ⊕ x₁) ⊖ lit (pos 2) ⊗ x₀) refl
        ∙ ap (λ (m : ℕ). neg_ℤ (pos (k * (2 * t))) +ℤ pos m -ℤ pos (2 * p)) (sym back_up)
        ∙ ring (pos k ∷ pos (2 * t) ∷ pos left ∷ pos (2 * p) ∷ []) (neg (x₀ ⊗ x₁) ⊕ (x₂ ⊕ x₃) ⊖ x₃) (neg x₀ ⊗ x₁ ⊕ x₂) refl

-- the size of the nearest, whatever the sign
pub size_rounded : (below : Bool) (p : ℕ) {t : ℕ} → 0 < t → nat_abs (nearest (signed below p) t) ≡ rounded p t (bool_byte below)
size_rounded true p {t} some = ap nat_abs (nearest_below p t some) ∙ size_minus (rounded p t 1)
size_rounded false p {t} some = ap nat_abs (nearest_above p t)

-- ---- whether nothing is left

-- the size times t is p if t divides p, and only then: no second division
module _ (p t less : ℕ) (some : 0 < t) (little : less ≤ t) where
  whole_divides : rounded p t less * t ≡ p → p % t ≡ 0
  whole_divides e = ap (λ (n : ℕ). n % t) (sym e) ∙ mul-mod_left (rounded p t less) t

  divides_whole : p % t ≡ 0 → rounded p t less * t ≡ p
  divides_whole e = ap (λ (n : ℕ). n * t) is ∙ whole
    where
      twice : 0 < 2 * t
      twice = omega arith

      whole : p / t * t ≡ p
      whole = omega (arith, div-add-mod' p t)

      low : p / t ≤ rounded p t less
      low = (le-div_iff_mul-le {y = 2 * p + t - less} twice).1 (omega (arith, whole))

      high : rounded p t less < p / t + 1
      high = (div-lt_iff_lt-mul {x = 2 * p + t - less} {y = p / t + 1} twice).1 (omega (arith, whole))

      is : rounded p t less ≡ p / t
      is = omega (arith, low, high)

  pub exact_is : eqb (rounded p t less * t) p ≡ eqb (p % t) 0
  exact_is = by_test (eqb (p % t) 0) refl
    where
      by_test : (b : Bool) → eqb (p % t) 0 ≡ b → eqb (rounded p t less * t) p ≡ b
      by_test true e = eq-eqb _ p (divides_whole (eqb-true (p % t) 0 e))
      by_test false e = ne_eqb _ p (λ w. eqb-false (p % t) 0 e (whole_divides w))

-- ---- on 64 bits

pub bit_most : (b : Bool) → bool_byte b ≤ 1
bit_most true = omega arith
bit_most false = omega arith

unless : (b : Bool) → bool_byte (not b) ≡ cond b 0 1
unless true = refl
unless false = refl

module _ {p t : ℕ} (d : Dividing p t) where
  size_small : (less : ℕ) → rounded p t less < 2 ^ 62
  size_small less = omega (arith, d.dividend, d.most, div-le_self (2 * p + t - less) (2 * t))

  module _ (negative : Bool) {less : ℕ} (bit : less ≡ bool_byte negative) where
    pub centre_below : {z : ℤ} → negative ≡ true → z ≡ back (pos 0 -ℤ to_z w64 (rounded p t less)) → z ≡ nearest (signed negative p) t
    centre_below n e =
        e ∙ minus_back {n = rounded p t less} (omega (arith, size_small less))
        ∙ ap (λ (k : ℕ). neg_ℤ (pos (rounded p t k))) (bit ∙ ap bool_byte n)
        ∙ sym (ap (λ (b : Bool). nearest (signed b p) t) n ∙ nearest_below p t d.some)

    pub centre_above : {z : ℤ} → negative ≡ false → z ≡ to_z w64 (rounded p t less) → z ≡ nearest (signed negative p) t
    centre_above n e =
        e ∙ to_z_pos w64 (rounded p t less) (omega (arith, size_small less))
        ∙ ap (λ (k : ℕ). pos (rounded p t k)) (bit ∙ ap bool_byte n)
        ∙ sym (ap (λ (b : Bool). nearest (signed b p) t) n ∙ nearest_above p t)

    -- nothing is missed exactly where t divides
    pub missed_is : {m : ℕ} → m ≡ bool_byte (not (eqb (rounded p t less * t) p)) → m ≡ unless_divides (signed negative p) t
    unfolding unless_divides
    missed_is e =
        e ∙ ap (λ (b : Bool). bool_byte (not b)) (exact_is p t less d.some (omega (arith, bit, bit_most negative, d.some)))
        ∙ unless (eqb (p % t) 0) ∙ sym (ap (λ (n : ℕ). cond {A = ℕ} (eqb (n % t) 0) 0 1) (size_signed negative p))
