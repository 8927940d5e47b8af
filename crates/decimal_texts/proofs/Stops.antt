-- Where reading a number stops short of the end, or misses a digit, the text goes wrong, and there only. Assumes nothing.
use mathlib.Core.Path.{◌≡◌, refl, sym, ◌∙◌, ap, subst}
use mathlib.Core.Bool.{Bool, true, false}
use mathlib.Core.List.{List, [], ◌∷◌, ◌++◌}
use mathlib.Core.Option.{some}
use Prim.Native.Nat.{ℕ, zero, suc, ◌+◌, ◌-◌, ◌*◌, ◌≤◌, ◌<◌}
use native.Mathlib.Omega.{arith}
use lib.Dec.{eqb}
use lib.ListN.{length, take, drop, length-append, length-drop, drop_of_length-le}
use lib.Seq.{take_at, drop_at, drop-length, append_snoc}
use Rattle.numerals.specs.Digits.{is_digit, point, Reading, number, no_digit, fraction_on, point_on, whole_on, reading}
use Rattle.numerals.proofs.OneReading.{same_place}
use Rattle.numerals.specs.Decimals.{decimal}
use Rattle.decimal_texts.specs.Texts.{read_unsigned}
use Rattle.decimal_texts.specs.Places.{Legal, Begins, Misplaced, wrong_byte, wrong_end}
use Rattle.decimal_texts.proofs.Digits.{never_some}
use Rattle.decimal_texts.proofs.Readings.{told, reading_told, reading_sound, reading_complete}
use Rattle.decimal_texts.proofs.Places.{one_misplaced, never_both, misplaced_inside}

-- the bytes from which on nothing was read
abbrev pub left : Reading → List ℕ
left (number v e s) = s
left (no_digit s) = s

-- all is a number; or a digit is missing at the end, with which it would be one; or a byte stands where none such can,
-- whatever follows it, and other bytes there would make a number
data Stops (on : List ℕ → Reading) : List ℕ → Type 0 where
  all : {s : List ℕ} {v e : ℕ} → on s ≡ number v e [] → Stops on s
  short : {s : List ℕ} {v e : ℕ} (rest : List ℕ) → on (s ++ rest) ≡ number v e [] → on s ≡ no_digit [] → Stops on s
  at_byte : {v e : ℕ} (b : ℕ) (p r rest : List ℕ) → on (p ++ rest) ≡ number v e [] → ((t : List ℕ) → left (on (p ++ b ∷ t)) ≡ b ∷ t)
      → Stops on (p ++ b ∷ r)

-- one byte was read on
further : {on next : List ℕ → Reading} (c : ℕ) {s : List ℕ} → ((t : List ℕ) → on (c ∷ t) ≡ next t) → Stops next s → Stops on (c ∷ s)
further c h (all {s} k) = all (h s ∙ k)
further c h (short {s} rest k j) = short rest (h (s ++ rest) ∙ k) (h s ∙ j)
further c h (at_byte b p r rest k j) = at_byte b (c ∷ p) r rest (h (p ++ rest) ∙ k) (λ t. ap left (h (p ++ b ∷ t)) ∙ j t)

fraction_stops : (l e v : ℕ) (s : List ℕ) → Stops (fraction_on l e v) s
fraction_stops l e v [] = all refl
fraction_stops zero e v (b ∷ s) = at_byte b [] s [] refl (λ t. refl)
fraction_stops (suc l) e v (b ∷ s) = by_test (is_digit b) refl (fraction_stops l (suc e) (10 * v + (b - 48)) s)
  where
    by_test : (t : Bool) → is_digit b ≡ t → Stops (fraction_on l (suc e) (10 * v + (b - 48))) s
        → Stops (fraction_on (suc l) e v) (b ∷ s)
    by_test true k h = further b (λ t. rw k) h
    by_test false k h = at_byte b [] s [] refl (λ t. rw k)

point_stops : (l v : ℕ) (s : List ℕ) → Stops (point_on l v) s
point_stops l v [] = short (48 ∷ []) refl refl
point_stops l v (b ∷ s) = by_test (is_digit b) refl
  where
    by_test : (t : Bool) → is_digit b ≡ t → Stops (point_on l v) (b ∷ s)
    by_test true k = further b (λ t. rw k) (fraction_stops l 1 (10 * v + (b - 48)) s)
    by_test false k = at_byte b [] s (48 ∷ []) refl (λ t. rw k)

whole_stops : (l v : ℕ) (s : List ℕ) → Stops (whole_on l v) s
whole_stops l v [] = all refl
whole_stops zero v (b ∷ s) = at_byte b [] s [] refl (λ t. refl)
whole_stops (suc l) v (b ∷ s) = by_tests (eqb b point) refl (is_digit b) refl (whole_stops l (10 * v + (b - 48)) s)
  where
    by_tests : (t : Bool) → eqb b point ≡ t → (u : Bool) → is_digit b ≡ u → Stops (whole_on l (10 * v + (b - 48))) s
        → Stops (whole_on (suc l) v) (b ∷ s)
    by_tests true k u j h = further b (λ t. rw k) (point_stops l v s)
    by_tests false k true j h = further b (λ t. rw (k, j)) h
    by_tests false k false j h = at_byte b [] s [] refl (λ t. rw (k, j))

reading_stops : (s : List ℕ) → Stops reading s
reading_stops [] = short (48 ∷ []) refl refl
reading_stops (b ∷ s) = by_test (is_digit b) refl
  where
    by_test : (t : Bool) → is_digit b ≡ t → Stops reading (b ∷ s)
    by_test true k = further b (λ t. rw k) (whole_stops 8 (b - 48) s)
    by_test false k = at_byte b [] s (48 ∷ []) refl (λ t. rw k)

-- ---- the place

begins : (s rest : List ℕ) {v e : ℕ} → reading (s ++ rest) ≡ number v e [] → Begins read_unsigned s
begins s rest {v} {e} k =
    record { rest = rest; legal = record { worth = decimal v e; is = reading_sound (s ++ rest) k } }

-- what is read leaves nothing
legal_left : {s : List ℕ} → Legal read_unsigned s → left (reading s) ≡ []
legal_left {s} x = ap left (reading_complete s x.is)

-- a byte that cannot stand behind p
module _ (b : ℕ) (p r : List ℕ) where
  up_to : take (suc (length p)) (p ++ b ∷ r) ≡ p ++ b ∷ []
  up_to = rw (← append_snoc p b r) (take_at (p ++ b ∷ []) r (suc (length p)) (omega (arith, length-append p (b ∷ []))))

  cannot_stand : ((t : List ℕ) → left (reading (p ++ b ∷ t)) ≡ b ∷ t) → Begins read_unsigned (p ++ b ∷ []) → ⊥
  cannot_stand j x =
      let none : left (reading (p ++ b ∷ x.rest)) ≡ [] = legal_left (subst (Legal read_unsigned) (append_snoc p b x.rest) x.legal) in
      let z : ◌≡◌ {A = ℕ} 0 1 = cc (j x.rest) in
      omega arith

  misplaced_byte : (rest : List ℕ) {v e : ℕ} → reading (p ++ rest) ≡ number v e [] → ((t : List ℕ) → left (reading (p ++ b ∷ t)) ≡ b ∷ t)
      → Misplaced read_unsigned (p ++ b ∷ r) (length p)
  misplaced_byte rest k j =
      wrong_byte {p = length p} (omega (arith, length-append p (b ∷ r)))
      (rw (take_at p (b ∷ r) (length p) refl) (begins p rest k))
      (λ x. cannot_stand j (subst (Begins read_unsigned) up_to x))

-- a text that is not read goes wrong at the place from which on nothing was read
record Place (s : List ℕ) : Type 0 where
  place : ℕ
  is : left (reading s) ≡ drop place s
  wrong : Misplaced read_unsigned s place

place_of : {s : List ℕ} → Stops reading s → (Legal read_unsigned s → ⊥) → Place s
place_of {s} (all {v} {e} k) w = absurd (w (record { worth = decimal v e; is = reading_sound s k }))
place_of {s} (short rest k j) w =
    record { place = length s; is = ap left j ∙ sym (drop-length s); wrong = wrong_end (begins s rest k) w }
place_of (at_byte b p r rest k j) w =
    record { place = length p; is = j r ∙ sym (drop_at p (b ∷ r) (length p) refl); wrong = misplaced_byte b p r rest k j }

module _ {s : List ℕ} {n : ℕ} where
  pub right_misplaced : n ≤ length s → (Legal read_unsigned s → ⊥) → left (reading s) ≡ drop n s → Misplaced read_unsigned s n
  right_misplaced l w k =
      let q = place_of (reading_stops s) w in
      let same : q.place ≡ n = same_place s (misplaced_inside q.wrong) l (sym q.is ∙ k) in
      subst (Misplaced read_unsigned s) same q.wrong

  pub misplaced_right : Misplaced read_unsigned s n → left (reading s) ≡ drop n s
  misplaced_right x =
      let q = place_of (reading_stops s) (never_both x) in
      q.is ∙ ap (λ m. drop m s) (one_misplaced q.wrong x)

-- ---- the answers of the code that reads

module _ (s : List ℕ) {v e n : ℕ} (k : number v e (drop n s) ≡ reading s) where
  pub read_whole : length s ≤ n → read_unsigned s ≡ some (decimal v e)
  read_whole l = reading_sound s (sym k ∙ ap (number v e) (drop_of_length-le s l))

  pub read_short : n < length s → Misplaced read_unsigned s n
  read_short l =
      right_misplaced (omega arith)
      (λ x. omega (arith, ap length (ap left k ∙ legal_left x), length-drop n s))
      (sym (ap left k))

pub digit_missing : (s : List ℕ) {n : ℕ} → no_digit (drop n s) ≡ reading s → n ≤ length s → Misplaced read_unsigned s n
digit_missing s k l =
    right_misplaced l (λ x. never_some (ap told k ∙ reading_told s ∙ x.is)) (sym (ap left k))
