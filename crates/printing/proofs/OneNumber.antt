-- What is printed can be read back in one way: equal digits are of equal numbers, and text has one first line end, one first space. Assumes
-- nothing.
use mathlib.Core.Path.{◌≡◌, refl, sym, ◌∙◌, ap}
use mathlib.Core.Bool.{Bool, true, false, cond}
use mathlib.Core.List.{List, [], ◌∷◌, ◌++◌}
use Prim.Native.Nat.{ℕ, zero, suc, ◌+◌, ◌/◌, ◌%◌, ◌^◌, ◌≤◌, ◌<◌}
use native.Mathlib.Omega.{arith}
use borrow.Author.Tests.{ltb-true, ltb-false}
use lib.Dec.{ltb}
use lib.IntN.{ℤ, pos, negsuc, nat_abs}
use lib.ListN.{length, length-append}
use Rattle.whole.proofs.Cases.{down}
use Rattle.lists.specs.All.{All}
use Rattle.lists.proofs.Each.{all_both, all_so}
use Rattle.printing.specs.Decimal.{digits_of, decimal, signed_decimal}
use Rattle.printing.proofs.Digits.{digits_small, digits_large, tenth}

-- every byte is above b
abbrev pub Above : ℕ → List ℕ → Type 0
Above b s = All (λ c. b < c) s

-- text that is cut at its first byte b is cut in one way
pub cut_one : (b : ℕ) {x y : List ℕ} (r t : List ℕ) → Above b x → Above b y → x ++ b ∷ r ≡ y ++ b ∷ t → (x ≡ y) × (r ≡ t)
cut_one b r t All.none All.none e = (refl, cc)
cut_one b r t All.none (All.one {a = c} p q) e = absurd (let same : b ≡ c = cc in omega arith)
cut_one b r t (All.one {a = c} p q) All.none e = absurd (let same : c ≡ b = cc in omega arith)
cut_one b r t (All.one {a = c} {l = x} p ps) (All.one {a = d} {l = y} q qs) e =
    let h = cut_one b r t ps qs (cc) in
    let first : c ≡ d = cc in
    let rest : x ≡ y = h.0 in
    (cc, h.1)

last_one : (xs ys : List ℕ) (a b : ℕ) → xs ++ a ∷ [] ≡ ys ++ b ∷ [] → (xs ≡ ys) × (a ≡ b)
last_one [] [] a b e = (refl, cc)
last_one [] (y ∷ ys) a b e = absurd (omega (arith, ap length e, length-append ys (b ∷ [])))
last_one (x ∷ xs) [] a b e = absurd (omega (arith, ap length e, length-append xs (a ∷ [])))
last_one (x ∷ xs) (y ∷ ys) a b e =
    let h = last_one xs ys a b (cc) in
    let first : x ≡ y = cc in
    let rest : xs ≡ ys = h.0 in
    (cc, h.1)

pub digits_some : (f n : ℕ) → 1 ≤ length (digits_of f n)
unfolding digits_of
digits_some zero n = omega arith
digits_some (suc f) n = by_test (ltb n 10)
  where
    by_test : (t : Bool) → 1 ≤ length (cond t ((48 + n) ∷ []) (digits_of f (n / 10) ++ (48 + n % 10) ∷ []))
    by_test true = omega arith
    by_test false = omega (arith, length-append (digits_of f (n / 10)) ((48 + n % 10) ∷ []))

-- one digit more than a tenth has
digits_step : (f m n : ℕ) → (10 ≤ n → digits_of f (m / 10) ≡ digits_of f (n / 10) → m / 10 ≡ n / 10) → digits_of (suc f) m ≡ digits_of (suc f) n → m ≡ n
digits_step f m n tenths e = by_tests (ltb m 10) refl (ltb n 10) refl
  where
    differ : {i j : ℕ} → i < 10 → 10 ≤ j → digits_of (suc f) i ≡ digits_of (suc f) j → ⊥
    differ {i} {j} l g e =
        omega (
          arith,
          ap length (sym (digits_small (suc f) i l) ∙ e ∙ digits_large f j g),
          length-append (digits_of f (j / 10)) ((48 + j % 10) ∷ []),
          digits_some f (j / 10),
        )

    by_tests : (t : Bool) → ltb m 10 ≡ t → (u : Bool) → ltb n 10 ≡ u → m ≡ n
    by_tests true p true q =
        let same : ◌≡◌ {A = List ℕ} ((48 + m) ∷ []) ((48 + n) ∷ []) = sym (digits_small (suc f) m (ltb-true m 10 p)) ∙ e ∙ digits_small (suc f) n (ltb-true n 10 q) in
        let digit : 48 + m ≡ 48 + n = cc in
        omega arith
    by_tests true p false q = absurd (differ (ltb-true m 10 p) (ltb-false n 10 q) e)
    by_tests false p true q = absurd (differ (ltb-true n 10 q) (ltb-false m 10 p) (sym e))
    by_tests false p false q =
        let g = ltb-false n 10 q in
        let h = last_one (digits_of f (m / 10)) (digits_of f (n / 10)) (48 + m % 10) (48 + n % 10) (sym (digits_large f m (ltb-false m 10 p)) ∙ e ∙ digits_large f n g) in
        omega (arith, tenths g h.0, h.1)

digits_one : (f m n : ℕ) → n < 10 ^ suc f → digits_of (suc f) m ≡ digits_of (suc f) n → m ≡ n
digits_one zero m n l e = digits_step zero m n (λ g u. absurd (omega arith)) e
digits_one (suc f) m n l e = digits_step (suc f) m n (λ g u. digits_one f (m / 10) (n / 10) (tenth f n l) u) e

-- of two numbers that are printed alike the one is bounded where the other is: 19 digits hold every number that is printed
pub decimal_one : (m n : ℕ) → n < 10 ^ 19 → decimal m ≡ decimal n → m ≡ n
unfolding decimal
decimal_one m n l e = digits_one 18 m n l e

digit_above : (d : ℕ) → Above 45 ((48 + d) ∷ [])
digit_above d = All.one {a = 48 + d} (omega arith) All.none

digits_above : (f n : ℕ) → Above 45 (digits_of f n)
unfolding digits_of
digits_above zero n = digit_above (n % 10)
digits_above (suc f) n = by_test (ltb n 10) (digits_above f (n / 10))
  where
    by_test : (t : Bool) → Above 45 (digits_of f (n / 10)) → Above 45 (cond t ((48 + n) ∷ []) (digits_of f (n / 10) ++ (48 + n % 10) ∷ []))
    by_test true a = digit_above n
    by_test false a = all_both a (digit_above (n % 10))

pub decimal_above : (n : ℕ) → Above 45 (decimal n)
unfolding decimal
decimal_above n = digits_above 19 n

pub above_less : {a b : ℕ} {s : List ℕ} → b ≤ a → Above a s → Above b s
above_less l h = all_so (λ c p. omega arith) h

pub signed_above : (z : ℤ) → Above 44 (signed_decimal z)
unfolding signed_decimal
signed_above (pos n) = above_less (omega arith) (decimal_above n)
signed_above (negsuc n) = All.one {a = 45} (omega arith) (above_less (omega arith) (decimal_above (suc n)))

-- no digit is a minus
no_minus : {s t : List ℕ} → Above 45 s → s ≡ 45 ∷ t → ⊥
no_minus All.none e = let z : ◌≡◌ {A = ℕ} 0 1 = cc in omega arith
no_minus (All.one {a = c} p q) e = let same : c ≡ 45 = cc in omega arith

pub signed_one : (y z : ℤ) → nat_abs z < 10 ^ 19 → signed_decimal y ≡ signed_decimal z → y ≡ z
unfolding signed_decimal
signed_one (pos m) (pos n) l e = ap pos (decimal_one m n l e)
signed_one (pos m) (negsuc n) l e = absurd (no_minus (decimal_above m) e)
signed_one (negsuc m) (pos n) l e = absurd (no_minus (decimal_above n) (sym e))
signed_one (negsuc m) (negsuc n) l e = ap negsuc (down (decimal_one (suc m) (suc n) l (cc)))
