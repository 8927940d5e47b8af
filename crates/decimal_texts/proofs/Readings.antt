-- Reading as long a number as stands in front finds all of a text and nothing behind it exactly where the text is read.
-- Assumes nothing.
use mathlib.Core.Path.{◌≡◌, refl, sym, ◌∙◌, ap}
use mathlib.Core.Bool.{Bool, true, false, ◌&&◌, cond}
use mathlib.Core.List.{List, [], ◌∷◌, ◌++◌}
use mathlib.Core.Option.{Option, none, some, map}
use Prim.Native.Nat.{ℕ, zero, suc, ◌+◌, ◌-◌, ◌*◌}
use native.Mathlib.Nat.{add-zero}
use native.Mathlib.Omega.{arith}
use lib.Dec.{leb, eqb, leb-zero, leb-suc-zero, leb-suc-suc}
use lib.ListN.{length}
use borrow.Author.Tests.{eqb-true}
use Rattle.whole.proofs.Cases.{never}
use Rattle.numerals.specs.Digits.{is_digit, point, Reading, number, no_digit, fraction_on, point_on, whole_on, reading}
use Rattle.numerals.specs.declared.Decimal.{Decimal}
use Rattle.numerals.specs.Decimals.{decimal}
use Rattle.decimal_texts.specs.Texts.{digits_on, Parts, bare, pointed, longer, parted, worth, unsigned_means, figures, read_unsigned}
use Rattle.decimal_texts.proofs.Digits.{never_some}

-- a number with nothing behind it
abbrev pub told : Reading → Option (Decimal ℕ)
told (number v e []) = some (decimal v e)
told (number v e (b ∷ s)) = none
told (no_digit s) = none

-- where at most l digits stand
abbrev few : ℕ → List ℕ → Option (Decimal ℕ) → Option (Decimal ℕ)
few l s o = cond (leb (figures s) l) o none

none_either : (t : Bool) → ◌≡◌ {A = Option (Decimal ℕ)} none (cond t none none)
none_either true = refl
none_either false = refl

-- ---- behind the point

abbrev with_places : ℕ → Option ℕ → Option (Decimal ℕ)
with_places k o = map (λ n. decimal n k) o

fraction_told : (l e v : ℕ) (s : List ℕ) → told (fraction_on l e v s) ≡ few l s (with_places (e + length s) (digits_on v s))
fraction_told l e v [] = rw (leb-zero l, add-zero e)
fraction_told zero e v (b ∷ s) = by_test (is_digit b)
  where
    by_test : (t : Bool) → none
        ≡ cond (leb (cond t (suc (figures s)) (figures s)) 0)
        (with_places (e + suc (length s)) (cond t (digits_on (10 * v + (b - 48)) s) none)) none
    by_test true = rw (leb-suc-zero (figures s))
    by_test false = none_either (leb (figures s) 0)
fraction_told (suc l) e v (b ∷ s) = by_test (is_digit b) (fraction_told l (suc e) (10 * v + (b - 48)) s)
  where
    next : ℕ
    next = 10 * v + (b - 48)

    by_test : (t : Bool) → told (fraction_on l (suc e) next s) ≡ few l s (with_places (suc e + length s) (digits_on next s))
        → told (cond t (fraction_on l (suc e) next s) (number v e (b ∷ s)))
        ≡ cond (leb (cond t (suc (figures s)) (figures s)) (suc l))
        (with_places (e + suc (length s)) (cond t (digits_on next s) none)) none
    by_test true h =
        let places : suc e + length s ≡ e + suc (length s) = omega arith in
        rw (leb-suc-suc (figures s) l, ← places) h
    by_test false h = none_either (leb (figures s) (suc l))

-- ---- right behind the point

-- digits behind the point, at least one
abbrev some_places : ℕ → List ℕ → Option (Decimal ℕ)
some_places v s = cond (leb 1 (length s)) (with_places (length s) (digits_on v s)) none

no_room : (v : ℕ) (s : List ℕ) → none ≡ few 0 s (some_places v s)
no_room v [] = refl
no_room v (b ∷ s) = by_test (is_digit b)
  where
    by_test : (t : Bool) → none
        ≡ cond (leb (cond t (suc (figures s)) (figures s)) 0)
        (cond (leb 1 (suc (length s))) (with_places (suc (length s)) (cond t (digits_on (10 * v + (b - 48)) s) none)) none) none
    by_test true = rw (leb-suc-zero (figures s))
    by_test false = rw (← none_either (leb 1 (suc (length s)))) (none_either (leb (figures s) 0))

point_told : (l v : ℕ) (s : List ℕ) → told (point_on l v s) ≡ few (suc l) s (some_places v s)
point_told l v [] = none_either (leb 0 (suc l))
point_told l v (b ∷ s) = by_test (is_digit b) (fraction_told l 1 (10 * v + (b - 48)) s)
  where
    next : ℕ
    next = 10 * v + (b - 48)

    by_test : (t : Bool) → told (fraction_on l 1 next s) ≡ few l s (with_places (1 + length s) (digits_on next s))
        → told (cond t (fraction_on l 1 next s) (no_digit (b ∷ s)))
        ≡ cond (leb (cond t (suc (figures s)) (figures s)) (suc l))
        (cond (leb 1 (suc (length s))) (with_places (suc (length s)) (cond t (digits_on next s) none)) none) none
    by_test true h =
        let places : 1 + length s ≡ suc (length s) = omega arith in
        rw (leb-suc-suc (figures s) l, leb-suc-suc 0 (length s), leb-zero (length s), ← places) h
    by_test false h = rw (← none_either (leb 1 (suc (length s)))) (none_either (leb (figures s) (suc l)))

-- ---- before the point

-- what parts come to behind digits that made v
abbrev means_on : ℕ → Parts → Option (Decimal ℕ)
means_on v (bare w) = with_places 0 (digits_on v w)
means_on v (pointed w p) = cond (leb 1 (length p)) (with_places (length p) (digits_on v (w ++ p))) none

digit_part : (v b : ℕ) (q : Parts) → is_digit b ≡ true → means_on v (longer b q) ≡ means_on (10 * v + (b - 48)) q
digit_part v b (bare w) e = rw e
digit_part v b (pointed w p) e = rw e

other_part : (v b : ℕ) (q : Parts) → is_digit b ≡ false → none ≡ means_on v (longer b q)
other_part v b (bare w) e = rw e
other_part v b (pointed w p) e = rw e (none_either (leb 1 (length p)))

point_no_digit : (b : ℕ) → eqb b point ≡ true → is_digit b ≡ false
point_no_digit b e = ap is_digit (eqb-true b point e)

-- a byte by what it is
by_byte : (P : Bool → Bool → Type 0) (b : ℕ) → (is_digit b ≡ false → P true false) → (is_digit b ≡ true → P false true)
    → (is_digit b ≡ false → P false false) → P (eqb b point) (is_digit b)
by_byte P b p d o = by_tests (eqb b point) refl (is_digit b) refl
  where
    by_tests : (t : Bool) → eqb b point ≡ t → (u : Bool) → is_digit b ≡ u → P t u
    by_tests true e true k = never (sym k ∙ point_no_digit b e)
    by_tests true e false k = p k
    by_tests false e true k = d k
    by_tests false e false k = o k

whole_told : (l v : ℕ) (s : List ℕ) → told (whole_on l v s) ≡ few l s (means_on v (parted s))
whole_told l v [] = rw (leb-zero l)
whole_told zero v (b ∷ s) =
    by_byte
    (λ t u. none ≡ cond (leb (cond u (suc (figures s)) (figures s)) 0) (means_on v (cond t (pointed [] s) (longer b (parted s)))) none)
    b
    (λ k. no_room v s)
    (λ k. rw (leb-suc-zero (figures s)))
    (λ k. rw (← other_part v b (parted s) k) (none_either (leb (figures s) 0)))
whole_told (suc l) v (b ∷ s) =
    by_byte
    (λ t u. told (cond t (point_on l v s) (cond u (whole_on l (10 * v + (b - 48)) s) (number v 0 (b ∷ s))))
    ≡ cond (leb (cond u (suc (figures s)) (figures s)) (suc l)) (means_on v (cond t (pointed [] s) (longer b (parted s)))) none)
    b
    (λ k. point_told l v s)
    (λ k. rw (leb-suc-suc (figures s) l, digit_part v b (parted s) k) (whole_told l (10 * v + (b - 48)) s))
    (λ k. rw (← other_part v b (parted s) k) (none_either (leb (figures s) (suc l))))

-- ---- the first digit

first_digit : (b : ℕ) (q : Parts) → is_digit b ≡ true → worth (longer b q) ≡ means_on (b - 48) q
first_digit b (bare w) e =
    let zeros : 10 * 0 + (b - 48) ≡ b - 48 = omega arith in
    rw (leb-suc-suc 0 (length w), leb-zero (length w), e, zeros)
first_digit b (pointed w p) e =
    let zeros : 10 * 0 + (b - 48) ≡ b - 48 = omega arith in
    rw (leb-suc-suc 0 (length w), leb-zero (length w), e, zeros)

first_other : (b : ℕ) (q : Parts) → is_digit b ≡ false → none ≡ worth (longer b q)
first_other b (bare w) e = rw e (none_either (leb 1 (suc (length w))))
first_other b (pointed w p) e = rw e (none_either (leb 1 (suc (length w)) && leb 1 (length p)))

pub reading_told : (s : List ℕ) → told (reading s) ≡ read_unsigned s
unfolding read_unsigned unsigned_means
reading_told [] = refl
reading_told (b ∷ s) =
    by_byte
    (λ t u. told (cond u (whole_on 8 (b - 48) s) (no_digit (b ∷ s)))
    ≡ cond (leb (cond u (suc (figures s)) (figures s)) 9) (worth (cond t (pointed [] s) (longer b (parted s)))) none)
    b
    (λ k. none_either (leb (figures s) 9))
    (λ k. rw (leb-suc-suc (figures s) 8, first_digit b (parted s) k) (whole_told 8 (b - 48) s))
    (λ k. rw (← first_other b (parted s) k) (none_either (leb (figures s) 9)))

-- ---- both ways

pub reading_sound : (s : List ℕ) {v e : ℕ} → reading s ≡ number v e [] → read_unsigned s ≡ some (decimal v e)
reading_sound s k = sym (reading_told s) ∙ ap told k

told_number : (r : Reading) {y : Decimal ℕ} → told r ≡ some y → r ≡ number y.count y.places []
told_number (number v e []) {y} k =
    let same : decimal v e ≡ y = cc in
    ap (λ (d : Decimal ℕ). number d.count d.places []) same
told_number (number v e (b ∷ s)) k = absurd (never_some k)
told_number (no_digit s) k = absurd (never_some k)

pub reading_complete : (s : List ℕ) {y : Decimal ℕ} → read_unsigned s ≡ some y → reading s ≡ number y.count y.places []
reading_complete s k = told_number (reading s) (reading_told s ∙ k)
