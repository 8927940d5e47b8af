-- A text over m letters has no other letter, and no number of more than nine digits. Assumes nothing.
use mathlib.Core.Path.{◌≡◌, refl}
use mathlib.Core.Bool.{Bool, true, false, cond, ◌&&◌}
use mathlib.Core.List.{List, [], ◌∷◌, ◌++◌, map}
use Prim.Native.Nat.{ℕ, suc, ◌+◌, ◌-◌, ◌*◌, ◌^◌, ◌≤◌, ◌<◌}
use native.Mathlib.Nat.{le_refl, le_trans, pow-suc, pow-le-pow_right, zero-lt-suc}
use native.Mathlib.Omega.{arith}
use lib.Dec.{leb, ltb, eqb}
use borrow.Author.Tests.{leb-true, ltb-true}
use Rattle.expressions.specs.Tree.{Tree}
use Rattle.expressions.specs.Kind.{Kind, opens, closes, star, plus, minus, point, digit, letter, other, kind}
use Rattle.expressions.specs.Grammar.{Number, first, next, pointed, further, Level, Gives, a_letter, a_number, a_minus, in_parentheses, one_factor, times, one_product, added, taken}
use Rattle.expressions.specs.Texts.{Text}
use Rattle.expressions.specs.Compiled.{Proper}

module _ (m : ℕ) where
  data Fine : Kind → Type 0 where
    an_opening : Fine opens
    a_closing : Fine closes
    a_star : Fine star
    a_plus : Fine plus
    a_minus_sign : Fine minus
    a_point : Fine point
    this_digit : {d : ℕ} → d < 10 → Fine (digit d)
    this_letter : {i : ℕ} → i < m → Fine (letter i)
    another : Fine other

  below : {i : ℕ} → Fine (letter i) → i < m
  below (this_letter h) = h

  small : {d : ℕ} → Fine (digit d) → d < 10
  small (this_digit h) = h

  abbrev AllFine : List Kind → Type 0
  AllFine [] = Unit {0}
  AllFine (c ∷ cs) = Fine c × AllFine cs

  either : (t : Bool) {a b : Kind} → Fine a → Fine b → Fine (cond t a b)
  either true x y = x
  either false x y = y

  kind_fine : (b : ℕ) → Fine (kind m b)
  unfolding kind
  kind_fine b =
      either (eqb b 40) an_opening (either (eqb b 41) a_closing (either (eqb b 42) a_star (either (eqb b 43) a_plus (either (eqb b 45) a_minus_sign (either (eqb b 46) a_point
      (as_digit (leb 48 b) (ltb b 58) refl refl))))))
    where
      as_letter : (t u : Bool) → leb 97 b ≡ t → ltb b (97 + m) ≡ u → Fine (cond (t && u) (letter (b - 97)) other)
      as_letter true true p q = this_letter {i = b - 97} (omega (arith, leb-true 97 b p, ltb-true b (97 + m) q))
      as_letter true false p q = another
      as_letter false u p q = another

      not_digit : Fine (cond (leb 97 b && ltb b (97 + m)) (letter (b - 97)) other)
      not_digit = as_letter (leb 97 b) (ltb b (97 + m)) refl refl

      as_digit : (t u : Bool) → leb 48 b ≡ t → ltb b 58 ≡ u → Fine (cond (t && u) (digit (b - 48)) (cond (leb 97 b && ltb b (97 + m)) (letter (b - 97)) other))
      as_digit true true p q = this_digit {d = b - 48} (omega (arith, leb-true 48 b p, ltb-true b 58 q))
      as_digit true false p q = not_digit
      as_digit false u p q = not_digit

  all_fine : (s : List ℕ) → AllFine (map (kind m) s)
  all_fine [] = tt
  all_fine (b ∷ s) = (kind_fine b, all_fine s)

  left : (s r : List Kind) → AllFine (s ++ r) → AllFine s
  left [] r a = tt
  left (c ∷ s) r a = (a.0, left s r a.1)

  right : (s r : List Kind) → AllFine (s ++ r) → AllFine r
  right [] r a = a
  right (c ∷ s) r a = right s r a.1

  -- how large a number is, k being how many digits it has
  record Sized (l e v : ℕ) : Type 0 where
    k : ℕ
    count : k + l ≡ 9
    fits : v < 10 ^ k
    places : e < k

  one_digit_more : {l e v : ℕ} (e' d : ℕ) → Sized (suc l) e v → d < 10 → e' ≤ suc e → Sized l e' (10 * v + d)
  one_digit_more {v} e' d z h i =
      record { k = suc z.k; count = omega (arith, z.count); fits = omega (arith, z.fits, pow-suc 10 z.k); places = omega (arith, z.places) }

  number_sized : {l e v : ℕ} {s : List Kind} → Number l e s v → AllFine s → Sized l e v
  number_sized (first {d}) a = record { k = 1; count = refl; fits = small a.0; places = le_refl 1 }
  number_sized (next {s} d x) a = one_digit_more 0 d (number_sized x (left s (digit d ∷ []) a)) (small (right s (digit d ∷ []) a).0) (omega arith)
  number_sized (pointed {s} d x) a = one_digit_more 1 d (number_sized x (left s (point ∷ digit d ∷ []) a)) (small (right s (point ∷ digit d ∷ []) a).1.0) (le_refl 1)
  number_sized (further {e} {s} d x) a =
      one_digit_more (suc (suc e)) d (number_sized x (left s (digit d ∷ []) a)) (small (right s (digit d ∷ []) a).0) (le_refl (suc (suc e)))

  number_proper : {l e v : ℕ} {s : List Kind} → Number l e s v → AllFine s → (v < 10 ^ 9) × (e < 9)
  number_proper x a =
      let z = number_sized x a in
      let short : z.k ≤ 9 = omega (arith, z.count) in
      (le_trans z.fits (pow-le-pow_right (zero-lt-suc 9) short), omega (arith, z.count, z.places))

  gives_proper : {l : Level} {n : ℕ} {s : List Kind} {t : Tree} → Gives l n s t → AllFine s → Proper m t
  gives_proper a_letter a = below a.0
  gives_proper (a_number x) a = number_proper x a
  gives_proper (a_minus x) a = gives_proper x a.1
  gives_proper (in_parentheses {s} x) a = gives_proper x (left s (closes ∷ []) a.1)
  gives_proper (one_factor x) a = gives_proper x a
  gives_proper (times {s} {r} x y) a = (gives_proper x (left s (star ∷ r) a), gives_proper y (right s (star ∷ r) a).1)
  gives_proper (one_product x) a = gives_proper x a
  gives_proper (added {s} {r} x y) a = (gives_proper x (left s (plus ∷ r) a), gives_proper y (right s (plus ∷ r) a).1)
  gives_proper (taken {s} {r} x y) a = (gives_proper x (left s (minus ∷ r) a), gives_proper y (right s (minus ∷ r) a).1)

  pub proper : {n : ℕ} {s : List ℕ} {t : Tree} → Text m n s t → Proper m t
  proper {s} x = gives_proper x.gives (all_fine s)
