-- Digits one behind the other: what they make, and how many there are. Assumes nothing.
use mathlib.Core.Path.{◌≡◌, refl, sym, ◌∙◌, ap}
use mathlib.Core.Bool.{Bool, true, false, cond}
use mathlib.Core.List.{List, [], ◌∷◌, ◌++◌}
use mathlib.Core.Option.{none, some, bind}
use Prim.Native.Nat.{ℕ, zero, suc, ◌+◌, ◌-◌, ◌*◌, ◌/◌, ◌%◌, ◌^◌, ◌≤◌, ◌<◌}
use native.Mathlib.Nat.{mod-lt, mod-eq_of_lt, div-add-mod', div-one, div-le_self, div-div-eq-div-mul, pow-succ'}
use native.Mathlib.Omega.{arith}
use borrow.Author.Tests.{ltb-true, ltb-false, leb-true, le-leb, lt-ltb, ne_eqb}
use lib.Dec.{leb, ltb, eqb}
use lib.ListN.{length, length-append}
use Rattle.whole.proofs.Cases.{both}
use Rattle.numerals.specs.Digits.{is_digit}
use Rattle.printing.specs.Decimal.{digits_of}
use Rattle.printing.specs.Decimal as whole
use Rattle.printing.proofs.Digits.{tenth}
use Rattle.printing.proofs.OneNumber.{digits_some}
use Rattle.decimal_texts.specs.Texts.{digits_on, figures, last_digits}

pub never_some : {A : Type 0} {a : A} → none ≡ some a → ⊥
never_some e = let z : ◌≡◌ {A = ℕ} 0 1 = cc in omega arith

-- ---- what digits make

pub digits_append : (n : ℕ) (s t : List ℕ) → digits_on n (s ++ t) ≡ bind (digits_on n s) (λ m. digits_on m t)
unfolding bind
digits_append n [] t = refl
digits_append n (b ∷ s) t = by_test (is_digit b) (digits_append (10 * n + (b - 48)) s t)
  where
    by_test : (d : Bool) → digits_on (10 * n + (b - 48)) (s ++ t) ≡ bind (digits_on (10 * n + (b - 48)) s) (λ m. digits_on m t)
        → cond d (digits_on (10 * n + (b - 48)) (s ++ t)) none
        ≡ bind (cond d (digits_on (10 * n + (b - 48)) s) none) (λ m. digits_on m t)
    by_test true e = e
    by_test false e = refl

one_digit : (m k : ℕ) → k < 10 → digits_on m ((48 + k) ∷ []) ≡ some (10 * m + k)
one_digit m k l =
    let same : 48 + k - 48 ≡ k = omega arith in
    rw (le-leb 48 (48 + k) (omega arith), lt-ltb (48 + k) 58 (omega arith), same)

-- the digits of a tenth and the last one
last_one : (m n : ℕ) (s : List ℕ) → digits_on m s ≡ some (n / 10) → digits_on m (s ++ (48 + n % 10) ∷ []) ≡ some n
unfolding bind
last_one m n s e =
    let again : 10 * (n / 10) + n % 10 ≡ n = omega (arith, div-add-mod' n 10) in
    digits_append m s ((48 + n % 10) ∷ []) ∙ ap (λ o. bind o (λ k. digits_on k ((48 + n % 10) ∷ []))) e
    ∙ one_digit (n / 10) (n % 10) (mod-lt n (omega arith)) ∙ ap some again

digits_read : (f n : ℕ) → n < 10 ^ suc f → digits_on 0 (digits_of f n) ≡ some n
unfolding digits_of
digits_read zero n l =
    let small : n < 10 = omega arith in
    one_digit 0 (n % 10) (mod-lt n (omega arith)) ∙ ap some (omega (arith, mod-eq_of_lt small))
digits_read (suc f) n l = by_test (ltb n 10) refl (digits_read f (n / 10) (tenth f n l))
  where
    by_test : (t : Bool) → ltb n 10 ≡ t → digits_on 0 (digits_of f (n / 10)) ≡ some (n / 10)
        → digits_on 0 (cond t ((48 + n) ∷ []) (digits_of f (n / 10) ++ (48 + n % 10) ∷ [])) ≡ some n
    by_test true e h = one_digit 0 n (ltb-true n 10 e) ∙ ap some (omega arith)
    by_test false e h = last_one 0 n (digits_of f (n / 10)) h

pub decimal_read : (n : ℕ) → n < 10 ^ 20 → digits_on 0 (whole.decimal n) ≡ some n
unfolding whole.decimal
decimal_read n l = digits_read 19 n l

pub last_read : (d n : ℕ) → digits_on (n / 10 ^ d) (last_digits d n) ≡ some n
unfolding last_digits
last_read zero n = ap some (div-one n)
last_read (suc d) n =
    last_one (n / 10 ^ suc d) n (last_digits d (n / 10)) (ap (λ m. digits_on m (last_digits d (n / 10))) same ∙ last_read d (n / 10))
  where
    same : n / 10 ^ suc d ≡ n / 10 / 10 ^ d
    same = ap (λ (m : ℕ). n / m) (pow-succ' 10 d) ∙ sym (div-div-eq-div-mul n 10 (10 ^ d))

-- those before and behind the point make the count
pub all_read : (d n : ℕ) → n < 10 ^ 20 → digits_on 0 (whole.decimal (n / 10 ^ d) ++ last_digits d n) ≡ some n
unfolding bind
all_read d n l =
    digits_append 0 (whole.decimal (n / 10 ^ d)) (last_digits d n)
    ∙ ap (λ o. bind o (λ m. digits_on m (last_digits d n))) (decimal_read (n / 10 ^ d) (omega (arith, div-le_self n (10 ^ d))))
    ∙ last_read d n

-- ---- how many there are

pub decimal_some : (n : ℕ) → 1 ≤ length (whole.decimal n)
unfolding whole.decimal
decimal_some n = digits_some 19 n

digits_few : (f k n : ℕ) → n < 10 ^ suc k → length (digits_of f n) ≤ suc k
unfolding digits_of
digits_few zero k n l = omega arith
digits_few (suc f) k n l = by_test (ltb n 10) refl (λ j m. digits_few f j (n / 10) m)
  where
    more : (k : ℕ) → n < 10 ^ suc k → 10 ≤ n → ((j : ℕ) → n / 10 < 10 ^ suc j → length (digits_of f (n / 10)) ≤ suc j)
        → length (digits_of f (n / 10) ++ (48 + n % 10) ∷ []) ≤ suc k
    more zero l m few = absurd (omega arith)
    more (suc k) l m few = omega (arith, length-append (digits_of f (n / 10)) ((48 + n % 10) ∷ []), few k (tenth k n l))

    by_test : (t : Bool) → ltb n 10 ≡ t → ((j : ℕ) → n / 10 < 10 ^ suc j → length (digits_of f (n / 10)) ≤ suc j)
        → length (cond t ((48 + n) ∷ []) (digits_of f (n / 10) ++ (48 + n % 10) ∷ [])) ≤ suc k
    by_test true e few = omega arith
    by_test false e few = more k l (ltb-false n 10 e) few

pub decimal_few : (k n : ℕ) → n < 10 ^ suc k → length (whole.decimal n) ≤ suc k
unfolding whole.decimal
decimal_few k n l = digits_few 19 k n l

pub last_long : (d n : ℕ) → length (last_digits d n) ≡ d
unfolding last_digits
last_long zero n = refl
last_long (suc d) n =
    omega (arith, length-append (last_digits d (n / 10)) ((48 + n % 10) ∷ []), last_long d (n / 10))

-- ---- bytes that are digits

-- a byte before which digits are read on is one
pub digit_first : (a b n : ℕ) (s : List ℕ) → digits_on a (b ∷ s) ≡ some n
    → (is_digit b ≡ true) × (digits_on (10 * a + (b - 48)) s ≡ some n)
digit_first a b n s e = by_test (is_digit b) refl e
  where
    by_test : (t : Bool) → is_digit b ≡ t → cond t (digits_on (10 * a + (b - 48)) s) none ≡ some n
        → (is_digit b ≡ true) × (digits_on (10 * a + (b - 48)) s ≡ some n)
    by_test true k e = (k, e)
    by_test false k e = absurd (never_some e)

-- what is below 0 in the table of bytes is none
pub no_sign : (b k : ℕ) → k < 48 → is_digit b ≡ true → eqb b k ≡ false
no_sign b k l e = ne_eqb b k (λ same. let low = leb-true 48 b (both (leb 48 b) (ltb b 58) e).0 in omega arith)

pub figures_append : (s t : List ℕ) → figures (s ++ t) ≡ figures s + figures t
figures_append [] t = sym (omega arith)
figures_append (b ∷ s) t = by_test (is_digit b) (figures_append s t)
  where
    by_test : (d : Bool) → figures (s ++ t) ≡ figures s + figures t
        → cond d (suc (figures (s ++ t))) (figures (s ++ t)) ≡ cond d (suc (figures s)) (figures s) + figures t
    by_test true e = omega arith
    by_test false e = e

pub figures_all : (a n : ℕ) (w : List ℕ) → digits_on a w ≡ some n → figures w ≡ length w
figures_all a n [] e = refl
figures_all a n (b ∷ w) e =
    let d = digit_first a b n w e in
    rw d.0 (ap suc (figures_all (10 * a + (b - 48)) n w d.1))
