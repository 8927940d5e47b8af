-- The digits of a number: more fuel changes nothing, the last one follows those of a tenth, there are at most twenty;
-- and how they are written. Assumes nothing.
use mathlib.Core.Path.{◌≡◌, refl, sym, ◌∙◌, ap}
use mathlib.Core.Bool.{Bool, true, false, cond}
use mathlib.Core.List.{List, [], ◌∷◌, ◌++◌}
use Prim.Native.Nat.{ℕ, zero, suc, ◌+◌, ◌/◌, ◌%◌, ◌^◌, ◌≤◌, ◌<◌}
use native.Mathlib.Nat.{mod-eq_of_lt, div-lt_iff_lt-mul, pow-suc}
use native.Mathlib.Omega.{arith}
use borrow.Author.Tests.{lt-ltb, le-ltb, ltb-true, ltb-false}
use lib.Dec.{ltb}
use lib.IntN.{ℤ, pos, negsuc, nat_abs}
use lib.ListN.{length, length-append}
use lib.Signed.{lt_z}
use mir.Syntax.{w64}
use mir.Val.{SFits}
use mir.ValLaws.{to_z-of_z}
use Rattle.whole.proofs.Machine.{back}
use Rattle.whole.proofs.Cases.{never}
use Rattle.printing.specs.Decimal.{digits_of, decimal, signed_decimal}
use Rattle.lists.specs.Written.{Wrote}
use Rattle.lists.proofs.Again.{wrote_long, wrote_then, wrote_same}

abbrev last : ℕ → List ℕ
last n = (48 + n % 10) ∷ []

-- one digit, or those of a tenth and the last one
pub digits_small : (f n : ℕ) → n < 10 → digits_of f n ≡ (48 + n) ∷ []
unfolding digits_of
digits_small zero n l = ap (λ (d : ℕ). (48 + d) ∷ []) (mod-eq_of_lt l)
digits_small (suc f) n l = ap (λ (t : Bool). cond t ((48 + n) ∷ []) (digits_of f (n / 10) ++ last n)) (lt-ltb n 10 l)

pub digits_large : (f n : ℕ) → 10 ≤ n → digits_of (suc f) n ≡ digits_of f (n / 10) ++ last n
unfolding digits_of
digits_large f n l = ap (λ (t : Bool). cond t ((48 + n) ∷ []) (digits_of f (n / 10) ++ last n)) (le-ltb n 10 l)

pub tenth : (f n : ℕ) → n < 10 ^ suc (suc f) → n / 10 < 10 ^ suc f
tenth f n l = (div-lt_iff_lt-mul {k = 10} {x = n} {y = 10 ^ suc f} (omega arith)).1 (rw pow-suc at l)

-- a number of at most f + 1 digits
fuel_more : (f n : ℕ) → n < 10 ^ suc f → digits_of f n ≡ digits_of (suc f) n
fuel_more zero n l = digits_small zero n l ∙ sym (digits_small 1 n l)
fuel_more (suc f) n l = by_test (ltb n 10) refl (fuel_more f (n / 10) (tenth f n l))
  where
    by_test : (t : Bool) → ltb n 10 ≡ t → digits_of f (n / 10) ≡ digits_of (suc f) (n / 10)
        → digits_of (suc f) n ≡ digits_of (suc (suc f)) n
    by_test true e h = digits_small (suc f) n (ltb-true n 10 e) ∙ sym (digits_small (suc (suc f)) n (ltb-true n 10 e))
    by_test false e h =
        digits_large f n (ltb-false n 10 e) ∙ ap (λ (ds : List ℕ). ds ++ last n) h
        ∙ sym (digits_large (suc f) n (ltb-false n 10 e))

digits_short : (f n : ℕ) → length (digits_of f n) ≤ suc f
unfolding digits_of
digits_short zero n = omega arith
digits_short (suc f) n = by_test (ltb n 10) (digits_short f (n / 10))
  where
    by_test : (t : Bool) → length (digits_of f (n / 10)) ≤ suc f
        → length (cond t ((48 + n) ∷ []) (digits_of f (n / 10) ++ last n)) ≤ suc (suc f)
    by_test true h = omega arith
    by_test false h = omega (arith, length-append (digits_of f (n / 10)) (last n))

pub decimal_short : (n : ℕ) → length (decimal n) ≤ 20
unfolding decimal
decimal_short n = digits_short 19 n

pub decimal_small : (n : ℕ) → n < 10 → decimal n ≡ (48 + n) ∷ []
unfolding decimal
decimal_small n l = digits_small 19 n l

pub decimal_large : (n : ℕ) → 10 ≤ n → n < 2 ^ 64 → decimal n ≡ decimal (n / 10) ++ ((48 + n % 10) ∷ [])
unfolding decimal
decimal_large n l fits = digits_large 18 n l ∙ ap (λ (ds : List ℕ). ds ++ last n) (fuel_more 18 (n / 10) small)
  where
    small : n / 10 < 10 ^ 19
    small = omega arith

pub signed_short : (z : ℤ) → length (signed_decimal z) ≤ 21
unfolding signed_decimal
signed_short (pos n) = omega (arith, decimal_short n)
signed_short (negsuc n) = omega (arith, decimal_short (suc n))

signed_below : (z : ℤ) → lt_z z (pos 0) ≡ true → signed_decimal z ≡ 45 ∷ decimal (nat_abs z)
unfolding signed_decimal
signed_below (pos n) t = let l : n < 0 = ltb-true n 0 t in absurd (omega arith)
signed_below (negsuc n) t = refl

signed_from_zero : (z : ℤ) → lt_z z (pos 0) ≡ false → signed_decimal z ≡ decimal (nat_abs z)
unfolding signed_decimal
signed_from_zero (pos n) t = refl
signed_from_zero (negsuc n) t = never t

module _ {old now : List ℕ} {at q : ℕ} where
  pub wrote_small : {n : ℕ} → n < 10 → Wrote ((48 + n) ∷ []) at old now q → Wrote (decimal n) at old now q
  wrote_small {n} l w = wrote_same (sym (decimal_small n l)) w

  -- the last digit behind those of a tenth, and that there is room for it
  pub wrote_large : {mid : List ℕ} {p : ℕ} (n : ℕ) → 10 ≤ n → n < 2 ^ 64 → Wrote (decimal (n / 10)) at old mid p
      → Wrote ((48 + n % 10) ∷ []) p mid now q → Wrote (decimal n) at old now q
  wrote_large n l fits w v = wrote_same (sym (decimal_large n l fits)) (wrote_then w v)

  pub tenth_room : (n : ℕ) → 10 ≤ n → n < 2 ^ 64 → at + 20 ≤ length old → Wrote (decimal (n / 10)) at old now q
      → q < length now
  tenth_room n l fits r w =
      let both = ap length (decimal_large n l fits) ∙ length-append (decimal (n / 10)) (last n) in
      omega (arith, both, decimal_short n, wrote_long w, w.after)

  -- a number as the machine holds it, by the test of its sign, and its size m
  module _ (z : ℤ) {m : ℕ} (f : SFits w64 z) (size : m ≡ nat_abs (back z)) where
    pub wrote_minus : lt_z (back z) (pos 0) ≡ true → Wrote (45 ∷ decimal m) at old now q → Wrote (signed_decimal z) at old now q
    wrote_minus t w =
        let e = to_z-of_z w64 z f in
        wrote_same (ap (λ (k : ℕ). 45 ∷ decimal k) (size ∙ ap nat_abs e) ∙ sym (signed_below z (rw e at t))) w

    pub wrote_bare : lt_z (back z) (pos 0) ≡ false → Wrote (decimal m) at old now q
        → Wrote (signed_decimal z) at old now q
    wrote_bare t w =
        let e = to_z-of_z w64 z f in
        wrote_same (ap decimal (size ∙ ap nat_abs e) ∙ sym (signed_from_zero z (rw e at t))) w

-- a number read back from the machine behind one byte
pub wrote_marked : {old mid now : List ℕ} {at p q x : ℕ} (z : ℤ) → SFits w64 z → Wrote (x ∷ []) at old mid p
    → Wrote (signed_decimal (back z)) p mid now q → Wrote (x ∷ signed_decimal z) at old now q
wrote_marked {x = x} z f w v = wrote_same (ap (λ (y : ℤ). x ∷ signed_decimal y) (to_z-of_z w64 z f)) (wrote_then w v)
