-- The double of c units is exactly c/2^F: what its bits mean, at every scale and for every number within reach; and a zero is plus zero. Assumes
-- nothing.
use mathlib.Core.Path.{◌≡◌, refl, sym, ◌∙◌, ap, ap₂, subst}
use mathlib.Core.Bool.{Bool, true, false, cond}
use mathlib.Core.List.{[], ◌∷◌}
use Prim.Native.Nat.{ℕ, zero, suc, ◌+◌, ◌-◌, ◌*◌, ◌^◌, ◌≤◌, ◌<◌}
use native.Mathlib.Nat.{lt_of_lt_of_le, mul_assoc, mul-one, zero-mul, mod-lt, mul-pos, eq_of_mul-eq-mul_right}
use native.Mathlib.Omega.{arith}
use lib.Dec.{T, eqb, lit≤, lit<, le→leb, lt→ltb}
use lib.IntN.{ℤ, pos, negsuc, nat_abs}
use lib.Pow.{pow_pos, pow-add, pow_mono, shl_lt, shr_lt}
use lib.Ieee.{Float, nan, inf, fin, binary64, prec, emax, low, up, down, unlike, round, of_int, div, fits, to_bits, of_bits, of_fields, odd, in_float}
use lib.Ieee.Exact.{HasValue, odd_sign, round_exact}
use lib.Ieee.Back.{round_whole}
use lib.Ieee.Scale.{round_same}
use lib.Ieee.Fits.{up_pos, down_pos, div-fits}
use lib.Ieee.Bits.{of_bits-to_bits}
use borrow.Author.Tests.{eqb-false, ne_eqb, eq-eqb}
use Rattle.whole.proofs.Machine.{back, back_is}
use Rattle.whole.proofs.Ring.{ring, ◌⊗◌, x₀, x₁, x₂, x₃}
use Rattle.rules.specs.Numbers.{M, Q, top_scale}
use Rattle.doubles.specs.Doubles.{sign_of, exponent_of, trailing_of, significand_of, power_of, Means, is_negative, double, double_bits}

-- ---- the quotient is exact

-- a whole number of at most 53 bits is a double
whole_value : (z : ℤ) → nat_abs z ≤ 2 ^ 53 → HasValue (of_int binary64 z) (is_negative z) (nat_abs z) 1
unfolding of_int
whole_value (pos n) l = round_whole binary64 false n l
whole_value (negsuc n) l = round_whole binary64 true (suc n) l

-- n/2^F is a double
round_value : (s : Bool) (F n : ℕ) → F ≤ top_scale → n ≤ M → HasValue (round binary64 s n (Q F)) s n (Q F)
round_value s F n f l = round_exact binary64 s n (Q F) n (1074 - F) (pow_pos F) (omega arith) small same
  where
    below : n < 2 ^ 31
    below = omega arith

    few : 31 + (1074 - F) ≤ low binary64 + suc (emax binary64)
    few = omega arith

    small : n * 2 ^ (1074 - F) < 2 ^ (low binary64 + suc (emax binary64))
    small = lt_of_lt_of_le (shl_lt 31 (1074 - F) below) (pow_mono few)

    whole : 1074 ≡ 1074 - F + F
    whole = omega arith

    same : n * 2 ^ low binary64 ≡ n * 2 ^ (1074 - F) * Q F
    same =
        ap (λ (k : ℕ). n * 2 ^ k) whole ∙ ap (λ (m : ℕ). n * m) (pow-add 2 (1074 - F) F)
        ∙ sym (mul_assoc n (2 ^ (1074 - F)) (2 ^ F))

-- a quotient of two doubles that are n and q is the double nearest to n/q
divided : (x y : Float) (s : Bool) (n q : ℕ) → 0 < q → HasValue x s n 1 → HasValue y false q 1 → div binary64 x y ≡ round binary64 s n q
unfolding div
divided nan y s n q l v w = absurd v
divided (inf t) y s n q l v w = absurd v
divided (fin t m e) nan s n q l v w = absurd w
divided (fin t m e) (inf u) s n q l v w = absurd w
divided (fin t m e) (fin u k d) s n q l v w =
    ap (λ (b : Bool). cond b (cond (eqb m 0) nan (inf (unlike t u))) quotient) (ne_eqb k 0 some)
    ∙ ap₂ (λ (a b : Bool). round binary64 (unlike a b) (m * up e * down d) (k * up d * down e)) v.0 w.0
    ∙ ap (λ (a : Bool). round binary64 a (m * up e * down d) (k * up d * down e)) (plus s)
    ∙ round_same binary64 s (m * up e * down d) (k * up d * down e) n q (mul-pos (mul-pos at_least (up_pos d)) (down_pos e)) l across
  where
    quotient : Float
    quotient = round binary64 (unlike t u) (m * up e * down d) (k * up d * down e)

    plus : (s : Bool) → unlike s false ≡ s
    plus true = refl
    plus false = refl

    one_of : m * up e ≡ n * down e
    one_of = sym (mul-one (m * up e)) ∙ v.1

    other_of : k * up d ≡ q * down d
    other_of = sym (mul-one (k * up d)) ∙ w.1

    some : k ≡ 0 → ⊥
    some z = none (q * down d) (mul-pos l (down_pos d)) (sym other_of ∙ ap (λ (i : ℕ). i * up d) z ∙ zero-mul (up d))
      where
        none : (i : ℕ) → 0 < i → i ≡ 0 → ⊥
        none i l e = omega arith

    at_least : 0 < k
    at_least = positive k some
      where
        positive : (i : ℕ) → (i ≡ 0 → ⊥) → 0 < i
        positive i d = omega arith

    across : m * up e * down d * q ≡ n * (k * up d * down e)
    across =
        ap (λ (i : ℕ). i * down d * q) one_of ∙ shuffle n (down e) (down d) q
        ∙ ap (λ (i : ℕ). n * (i * down e)) (sym other_of)
      where
        shuffle : (a b c d : ℕ) → a * b * c * d ≡ a * (d * c * b)
        shuffle a b c d = ap nat_abs (ring (pos a ∷ pos b ∷ pos c ∷ pos d ∷ []) (x₀ ⊗ x₁ ⊗ x₂ ⊗ x₃) (x₀ ⊗ (x₃ ⊗ x₂ ⊗ x₁)) refl)

module _ (F : ℕ) (z : ℤ) (f : F ≤ top_scale) (l : nat_abs z ≤ M) where
  unit_most : Q F ≤ 2 ^ 53
  unit_most = pow_mono {i = F} {j = 53} (omega arith)

  pub double_is : double F z ≡ round binary64 (is_negative z) (nat_abs z) (Q F)
  unfolding double
  double_is =
      divided (of_int binary64 z) (of_int binary64 (pos (Q F))) (is_negative z) (nat_abs z) (Q F) (pow_pos F)
      (whole_value z (omega arith)) (whole_value (pos (Q F)) unit_most)

  pub double_value : HasValue (double F z) (is_negative z) (nat_abs z) (Q F)
  double_value = subst (λ (x : Float). HasValue x (is_negative z) (nat_abs z) (Q F)) (sym double_is) (round_value (is_negative z) F (nat_abs z) f l)

  double_fits : T (fits binary64 (double F z))
  unfolding double
  double_fits = div-fits binary64 (of_int binary64 z) (of_int binary64 (pos (Q F)))

-- ---- and its bits mean that number

-- two ways to say what a double is worth
same_worth : (x : Float) (s t : Bool) (n d m c : ℕ) → HasValue x s n d → HasValue x t m c → (s ≡ t) × (m * d ≡ n * c)
same_worth nan s t n d m c v w = absurd v
same_worth (inf u) s t n d m c v w = absurd v
same_worth (fin u k e) s t n d m c v w = (
  sym v.0 ∙ w.0,
  eq_of_mul-eq-mul_right (down e) (down_pos e) (m * d) (n * c)
      (swap m d (down e) ∙ ap (λ (i : ℕ). i * d) (sym w.1) ∙ swap (k * up e) c d ∙ ap (λ (i : ℕ). i * c) v.1 ∙ swap n (down e) c),
)
  where
    swap : (a b c : ℕ) → a * b * c ≡ a * c * b
    swap a b c = ap nat_abs (ring (pos a ∷ pos b ∷ pos c ∷ []) (x₀ ⊗ x₁ ⊗ x₂) (x₀ ⊗ x₂ ⊗ x₁) refl)

-- what fields mean, where they are a number's
fields_mean : (b : ℕ) (x : Float) (s : Bool) (n d : ℕ) → of_fields binary64 (sign_of b) (exponent_of b) (trailing_of b) ≡ x → HasValue x s n d
    → Means b s n d
unfolding of_fields
fields_mean b x s n d e v = by_field (exponent_of b) refl e
  where
    field_small : exponent_of b < 2 ^ 11
    field_small = shr_lt 11 52 (mod-lt b (pow_pos 63))

    -- the significand and the power, once the exponent's field is known
    made : (q k : ℕ) → exponent_of b < 2047 → significand_of b ≡ q → power_of b ≡ k
        → odd (prec binary64) (sign_of b) q k (low binary64) ≡ x → Means b s n d
    made q k small sig pow e =
        let w = subst (λ (y : Float). HasValue y (sign_of b) (q * 2 ^ k) (2 ^ low binary64)) e (odd_sign (prec binary64) (sign_of b) q k (low binary64)) in
        let both = same_worth x s (sign_of b) n d (q * 2 ^ k) (2 ^ low binary64) v w in
        record {
          finite = small;
          sign = sym both.0;
          size = ap₂ (λ (i j : ℕ). i * 2 ^ j * d) sig pow ∙ both.1;
        }

    by_field : (k : ℕ) → exponent_of b ≡ k → of_fields binary64 (sign_of b) k (trailing_of b) ≡ x → Means b s n d
    by_field zero u e = made (trailing_of b) 0 (omega arith) (ap (λ (t : Bool). cond t (trailing_of b) (2 ^ 52 + trailing_of b)) (eq-eqb (exponent_of b) 0 u)) (omega arith) e
    by_field (suc k) u e = by_ones (eqb (suc k) 2047) refl e
      where
        by_digits : (t : Bool) → cond t (inf (sign_of b)) nan ≡ x → Means b s n d
        by_digits true e = absurd (subst (λ (y : Float). HasValue y s n d) (sym e) v)
        by_digits false e = absurd (subst (λ (y : Float). HasValue y s n d) (sym e) v)

        by_ones : (t : Bool) → eqb (suc k) 2047 ≡ t
            → cond t (cond (eqb (trailing_of b) 0) (inf (sign_of b)) nan) (odd (prec binary64) (sign_of b) (2 ^ 52 + trailing_of b) k (low binary64)) ≡ x
            → Means b s n d
        by_ones true w e = by_digits (eqb (trailing_of b) 0) e
        by_ones false w e =
            made (2 ^ 52 + trailing_of b) k (omega (arith, u, eqb-false (suc k) 2047 w, field_small)) (ap (λ (t : Bool). cond t (trailing_of b) (2 ^ 52 + trailing_of b)) (ne_eqb (exponent_of b) 0 (λ z. omega arith)))
            (omega arith) e

-- "the bits, read as sign, significand and power of two, mean that very number": c/2^F, once over all scales
pub double_means : (F : ℕ) (c : ℤ) → F ≤ top_scale → nat_abs c ≤ M → Means (double_bits F c) (is_negative c) (nat_abs c) (Q F)
unfolding of_bits
double_means F c f l =
    fields_mean (double_bits F c) (double F c) (is_negative c) (nat_abs c) (Q F) (of_bits-to_bits binary64 (double F c) (double_fits F c f l)) (double_value F c f l)

-- "A zero is plus zero.": no bit is set
nought : to_bits binary64 (round binary64 false 0 1) ≡ 0
unfolding to_bits round
nought = refl

pub zero_is_plus_zero : (F : ℕ) → F ≤ top_scale → double_bits F (pos 0) ≡ 0
zero_is_plus_zero F f =
    ap (to_bits binary64) (double_is F (pos 0) f (lit≤ tt) ∙ round_same binary64 false 0 (Q F) 0 1 (pow_pos F) (lit< tt) (zero-mul 1 ∙ sym (zero-mul (Q F))))
    ∙ nought

-- ---- as the code makes them

pub centre_casts : (z : ℤ) → nat_abs z ≤ M → T (in_float binary64 (back z))
unfolding in_float
centre_casts z l = subst (λ (x : ℤ). T (in_float binary64 x)) (sym (back_is z (omega arith))) (by_sign z l)
  where
    by_sign : (z : ℤ) → nat_abs z ≤ M → T (in_float binary64 z)
    by_sign (pos n) l = le→leb n (2 ^ 53) (omega arith)
    by_sign (negsuc n) l = lt→ltb n (2 ^ 53) (omega arith)

pub margin_casts : (n : ℕ) → n ≤ M → T (in_float binary64 (pos n))
unfolding in_float
margin_casts n l = le→leb n (2 ^ 53) (omega arith)

pub unit_casts : (F : ℕ) {n : ℕ} → F ≤ top_scale → n ≡ Q F → T (in_float binary64 (pos n))
unfolding in_float
unit_casts F {n} f e = le→leb n (2 ^ 53) (omega (arith, e, pow_mono {i = F} {j = 53} (omega arith)))

pub centre_double : (F : ℕ) (z : ℤ) {u : ℕ} → nat_abs z ≤ M → u ≡ Q F → div binary64 (of_int binary64 (back z)) (of_int binary64 (pos u)) ≡ double F z
unfolding double
centre_double F z l e =
    ap₂ (λ (x : ℤ) (n : ℕ). div binary64 (of_int binary64 x) (of_int binary64 (pos n))) (back_is z (omega arith)) e

pub margin_double : (F n : ℕ) {u : ℕ} → u ≡ Q F → div binary64 (of_int binary64 (pos n)) (of_int binary64 (pos u)) ≡ double F (pos n)
unfolding double
margin_double F n e = ap (λ (u : ℕ). div binary64 (of_int binary64 (pos n)) (of_int binary64 (pos u))) e
