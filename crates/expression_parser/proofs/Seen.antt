-- A byte and what it is to the grammar: each decides the other. Assumes nothing.
use mathlib.Core.Path.{◌≡◌, refl, sym, ◌∙◌, ap, subst}
use mathlib.Core.Bool.{Bool, true, false, cond, ◌&&◌}
use mathlib.Core.List.{List, [], ◌∷◌, map}
use Prim.Native.Nat.{ℕ, zero, suc, ◌+◌, ◌-◌, ◌≤◌, ◌<◌}
use native.Mathlib.Numerals.{add-one}
use native.Mathlib.Omega.{arith}
use borrow.Author.Tests.{eqb-true, eqb-false, leb-true, leb-false, ltb-true, ltb-false}
use lib.Dec.{leb, ltb, eqb}
use lib.ListN.{length, get_or, drop}
use lib.Seq.{drop-cons}
use Rattle.numerals.specs.Digits.{is_digit}
use Rattle.expressions.specs.Kind.{Kind, opens, closes, star, plus, minus, point, digit, letter, other, kind}
use Rattle.expression_parser.specs.Parts.{rest, byte}

-- none of the six signs
pub record NoSign (b : ℕ) : Type 0 where
  pub no_opens : b ≡ 40 → ⊥
  pub no_closes : b ≡ 41 → ⊥
  pub no_star : b ≡ 42 → ⊥
  pub no_plus : b ≡ 43 → ⊥
  pub no_minus : b ≡ 45 → ⊥
  pub no_point : b ≡ 46 → ⊥

pub data Seen (m b : ℕ) : Kind → Type 0 where
  sees_opens : b ≡ 40 → Seen m b opens
  sees_closes : b ≡ 41 → Seen m b closes
  sees_star : b ≡ 42 → Seen m b star
  sees_plus : b ≡ 43 → Seen m b plus
  sees_minus : b ≡ 45 → Seen m b minus
  sees_point : b ≡ 46 → Seen m b point
  sees_digit : is_digit b ≡ true → 48 ≤ b → b < 58 → Seen m b (digit (b - 48))
  sees_letter : 97 ≤ b → b - 97 < m → Seen m b (letter (b - 97))
  sees_other : NoSign b → is_digit b ≡ false → (97 ≤ b → b - 97 < m → ⊥) → Seen m b other

pub kind_seen : (m b : ℕ) → Seen m b (kind m b)
unfolding kind
kind_seen m b = by_opens (eqb b 40) refl
  where
    as_letter : NoSign b → is_digit b ≡ false → (t u : Bool) → leb 97 b ≡ t → ltb b (97 + m) ≡ u
        → Seen m b (cond (t && u) (letter (b - 97)) other)
    as_letter s d true true p q = sees_letter (leb-true 97 b p) (omega (arith, leb-true 97 b p, ltb-true b (97 + m) q))
    as_letter s d true false p q = sees_other s d (λ l k. omega (arith, ltb-false b (97 + m) q))
    as_letter s d false u p q = sees_other s d (λ l k. omega (arith, leb-false 97 b p))

    as_digit : NoSign b → (t : Bool) → is_digit b ≡ t
        → Seen m b (cond t (digit (b - 48)) (cond (leb 97 b && ltb b (97 + m)) (letter (b - 97)) other))
    as_digit s true e = two (leb 48 b) (ltb b 58) refl refl
      where
        two : (t u : Bool) → leb 48 b ≡ t → ltb b 58 ≡ u → Seen m b (digit (b - 48))
        two true true p q = sees_digit e (leb-true 48 b p) (ltb-true b 58 q)
        two true false p q = absurd (clash (sym e ∙ ap (λ t. t && ltb b 58) p ∙ q))
          where
            clash : true ≡ false → ⊥
            clash z = let w : ◌≡◌ {A = ℕ} 0 1 = cc in omega arith
        two false u p q = absurd (clash (sym e ∙ ap (λ t. t && ltb b 58) p))
          where
            clash : true ≡ false → ⊥
            clash z = let w : ◌≡◌ {A = ℕ} 0 1 = cc in omega arith
    as_digit s false e = as_letter s e (leb 97 b) (ltb b (97 + m)) refl refl

    beyond : Kind
    beyond = cond (is_digit b) (digit (b - 48)) (cond (leb 97 b && ltb b (97 + m)) (letter (b - 97)) other)

    by_point : (b ≡ 40 → ⊥) → (b ≡ 41 → ⊥) → (b ≡ 42 → ⊥) → (b ≡ 43 → ⊥) → (b ≡ 45 → ⊥) → (t : Bool) → eqb b 46 ≡ t
        → Seen m b (cond t point beyond)
    by_point o c s p n true e = sees_point (eqb-true b 46 e)
    by_point o c s p n false e =
        as_digit
        (record { no_opens = o; no_closes = c; no_star = s; no_plus = p; no_minus = n; no_point = eqb-false b 46 e })
        (is_digit b) refl

    by_minus : (b ≡ 40 → ⊥) → (b ≡ 41 → ⊥) → (b ≡ 42 → ⊥) → (b ≡ 43 → ⊥) → (t : Bool) → eqb b 45 ≡ t
        → Seen m b (cond t minus (cond (eqb b 46) point beyond))
    by_minus o c s p true e = sees_minus (eqb-true b 45 e)
    by_minus o c s p false e = by_point o c s p (eqb-false b 45 e) (eqb b 46) refl

    by_plus : (b ≡ 40 → ⊥) → (b ≡ 41 → ⊥) → (b ≡ 42 → ⊥) → (t : Bool) → eqb b 43 ≡ t
        → Seen m b (cond t plus (cond (eqb b 45) minus (cond (eqb b 46) point beyond)))
    by_plus o c s true e = sees_plus (eqb-true b 43 e)
    by_plus o c s false e = by_minus o c s (eqb-false b 43 e) (eqb b 45) refl

    by_star : (b ≡ 40 → ⊥) → (b ≡ 41 → ⊥) → (t : Bool) → eqb b 42 ≡ t
        → Seen m b (cond t star (cond (eqb b 43) plus (cond (eqb b 45) minus (cond (eqb b 46) point beyond))))
    by_star o c true e = sees_star (eqb-true b 42 e)
    by_star o c false e = by_plus o c (eqb-false b 42 e) (eqb b 43) refl

    by_closes : (b ≡ 40 → ⊥) → (t : Bool) → eqb b 41 ≡ t
        → Seen m b (cond t closes (cond (eqb b 42) star (cond (eqb b 43) plus (cond (eqb b 45) minus (cond (eqb b 46) point beyond)))))
    by_closes o true e = sees_closes (eqb-true b 41 e)
    by_closes o false e = by_star o (eqb-false b 41 e) (eqb b 42) refl

    by_opens : (t : Bool) → eqb b 40 ≡ t
        → Seen m b
        (cond t opens
        (cond (eqb b 41) closes (cond (eqb b 42) star (cond (eqb b 43) plus (cond (eqb b 45) minus (cond (eqb b 46) point beyond))))))
    by_opens true e = sees_opens (eqb-true b 40 e)
    by_opens false e = by_closes (eqb-false b 40 e) (eqb b 41) refl

-- ---- the kind decides the byte

abbrev pub rank : Kind → ℕ
rank opens = 0
rank closes = 1
rank star = 2
rank plus = 3
rank minus = 4
rank point = 5
rank (digit d) = 6
rank (letter i) = 7
rank other = 8

sign_byte : {m b : ℕ} {k : Kind} (c : Kind) → Seen m b k → k ≡ c → rank c < 6 → b ≡ byte c
sign_byte c (sees_opens e) q l = e ∙ ap byte q
sign_byte c (sees_closes e) q l = e ∙ ap byte q
sign_byte c (sees_star e) q l = e ∙ ap byte q
sign_byte c (sees_plus e) q l = e ∙ ap byte q
sign_byte c (sees_minus e) q l = e ∙ ap byte q
sign_byte c (sees_point e) q l = e ∙ ap byte q
sign_byte c (sees_digit e f g) q l = absurd (omega (arith, ap rank q))
sign_byte c (sees_letter e f) q l = absurd (omega (arith, ap rank q))
sign_byte c (sees_other e f g) q l = absurd (omega (arith, ap rank q))

pub kind_byte : (m b : ℕ) (c : Kind) → rank c < 6 → kind m b ≡ c → b ≡ byte c
kind_byte m b c l q = sign_byte c (kind_seen m b) q l

-- the byte decides the kind
pub byte_kind : (m : ℕ) (c : Kind) {b : ℕ} → rank c < 6 → b ≡ byte c → kind m b ≡ c
unfolding kind
byte_kind m opens l e = ap (kind m) e
byte_kind m closes l e = ap (kind m) e
byte_kind m star l e = ap (kind m) e
byte_kind m plus l e = ap (kind m) e
byte_kind m minus l e = ap (kind m) e
byte_kind m point l e = ap (kind m) e
byte_kind m (digit d) l e = absurd (omega arith)
byte_kind m (letter i) l e = absurd (omega arith)
byte_kind m other l e = absurd (omega arith)

pub letter_kind : (m : ℕ) {b : ℕ} → 97 ≤ b → b - 97 < m → kind m b ≡ letter (b - 97)
letter_kind m {b} l k = by_seen (kind_seen m b)
  where
    by_seen : {c : Kind} → Seen m b c → c ≡ letter (b - 97)
    by_seen (sees_opens e) = absurd (omega arith)
    by_seen (sees_closes e) = absurd (omega arith)
    by_seen (sees_star e) = absurd (omega arith)
    by_seen (sees_plus e) = absurd (omega arith)
    by_seen (sees_minus e) = absurd (omega arith)
    by_seen (sees_point e) = absurd (omega arith)
    by_seen (sees_digit e f g) = absurd (omega arith)
    by_seen (sees_letter e f) = refl
    by_seen (sees_other e f g) = absurd (g l k)

-- ---- what is left of a text

pub rest_byte : (m : ℕ) (s : List ℕ) (at : ℕ) → at < length s → rest m s at ≡ kind m (get_or s at 0) ∷ rest m s (at + 1)
rest_byte m s at l = ap (map (kind m)) (drop-cons s at 0 l ∙ ap (λ (n : ℕ). get_or s at 0 ∷ drop n s) (sym (add-one at)))

drop_past : {A : Type 0} (s : List A) (n : ℕ) → length s ≤ n → drop n s ≡ []
drop_past [] zero l = refl
drop_past [] (suc n) l = refl
drop_past (x ∷ s) zero l = absurd (omega arith)
drop_past (x ∷ s) (suc n) l = drop_past s n (omega arith)

pub rest_none : (m : ℕ) (s : List ℕ) (at : ℕ) → length s ≤ at → rest m s at ≡ []
rest_none m s at l = ap (map (kind m)) (drop_past s at l)

-- what holds of the end, and of a byte with what follows it, holds of what is left
pub rest_cases : (m : ℕ) (s : List ℕ) (at : ℕ) (P : List Kind → Type 0) → P []
    → (at < length s → P (kind m (get_or s at 0) ∷ rest m s (at + 1))) → P (rest m s at)
rest_cases m s at P none some = by_test (ltb at (length s)) refl
  where
    by_test : (t : Bool) → ltb at (length s) ≡ t → P (rest m s at)
    by_test true e = let l = ltb-true at (length s) e in subst P (sym (rest_byte m s at l)) (some l)
    by_test false e = subst P (sym (rest_none m s at (ltb-false at (length s) e))) none

-- a byte that is not there is none
pub past_byte : {A : Type 0} (s : List A) (n : ℕ) (d : A) → length s ≤ n → get_or s n d ≡ d
past_byte [] n d l = refl
past_byte (x ∷ s) zero d l = absurd (omega arith)
past_byte (x ∷ s) (suc n) d l = past_byte s n d (omega arith)

pub there_byte : (s : List ℕ) (n b : ℕ) → get_or s n 0 ≡ suc b → n < length s
there_byte s n b e = by_test (ltb n (length s)) refl
  where
    by_test : (t : Bool) → ltb n (length s) ≡ t → n < length s
    by_test true t = ltb-true n (length s) t
    by_test false t = absurd (let z : 0 ≡ suc b = sym (past_byte s n 0 (ltb-false n (length s) t)) ∙ e in omega arith)

-- the first of what is left decides the byte
pub first_byte : (m : ℕ) (s : List ℕ) (at : ℕ) (c : Kind) {d : Kind} {cs : List Kind} → rank c < 6 → rest m s at ≡ d ∷ cs → d ≡ c
    → get_or s at 0 ≡ byte c
first_byte m s at c {d} {cs} r q e = rest_cases m s at (λ l. l ≡ d ∷ cs → get_or s at 0 ≡ byte c) (λ z. absurd (clash z)) (λ l z. kind_byte m (get_or s at 0) c r (head z ∙ e)) q
  where
    clash : {x : Kind} {xs : List Kind} → ◌≡◌ {A = List Kind} [] (x ∷ xs) → ⊥
    clash z = let w : ◌≡◌ {A = ℕ} 0 1 = cc in omega arith

    head : {x y : Kind} {xs ys : List Kind} → ◌≡◌ {A = List Kind} (x ∷ xs) (y ∷ ys) → x ≡ y
    head z = cc
