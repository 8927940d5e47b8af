-- A number with or without its minus, by what reading its digits told. Assumes nothing.
use Rattle.std.proofs.Common.{◌≡◌, ℕ, ◌^◌, ◌<◌, sym, ◌∙◌, ap, Bool, true, false, ◌&&◌, cond, eqb, List, [], ◌∷◌, length, take, drop, ℤ, pos, neg_ℤ, ◌-ℤ◌, to_z, w64, arith, Option, Some, None}
use lib.Pointwise.{pointwise}
use mir.ValLaws.{to_z_pos}
use Rattle.whole.proofs.Machine.{back}
use Rattle.whole.proofs.Minus.{minus_back}
use Rattle.parsing.specs.Lines.{some_then}
use Rattle.parsing.specs.Number.{digits_meant, number_meant}
use Rattle.parsing.specs.ParsingAnswers.{ReadsDigits}

abbrev below_zero : Option ℕ → Option ℤ
below_zero o = some_then o (λ n. Some (neg_ℤ (pos n)))

abbrev from_zero : Option ℕ → Option ℤ
from_zero o = some_then o (λ n. Some (pos n))

-- by whether the first byte is a minus
number_is : (s : List ℕ) {t : Bool} → pointwise eqb (take 1 s) (45 ∷ []) ≡ t
    → cond t (below_zero (digits_meant (drop 1 s))) (from_zero (digits_meant s)) ≡ number_meant s
unfolding number_meant digits_meant
number_is [] e = ap (λ t. cond t (below_zero None) (from_zero None)) (sym e)
number_is (b ∷ s) e = by_test (eqb b 45) e
  where
    by_test : (u : Bool) {t : Bool} → u && true ≡ t → cond t (below_zero (digits_meant s)) (from_zero (digits_meant (b ∷ s)))
        ≡ cond u (below_zero (digits_meant s)) (from_zero (digits_meant (b ∷ s)))
    by_test true e = ap (λ t. cond t (below_zero (digits_meant s)) (from_zero (digits_meant (b ∷ s)))) (sym e)
    by_test false e = ap (λ t. cond t (below_zero (digits_meant s)) (from_zero (digits_meant (b ∷ s)))) (sym e)

-- in the code's shape: the minus p taken off
module _ (s : List ℕ) {p : List ℕ} (minus : p ≡ 45 ∷ []) where
  tested : {t : Bool} → pointwise eqb (take (length p) s) p ≡ t → pointwise eqb (take 1 s) (45 ∷ []) ≡ t
  tested e = ap (λ q. pointwise eqb (take (length q) s) q) (sym minus) ∙ e

  module _ {d : List ℕ} (m : pointwise eqb (take (length p) s) p ≡ true) (rest : d ≡ drop (length p) s) where
    minus_is : {r : Option ℕ} → ReadsDigits d r → below_zero r ≡ number_meant s
    minus_is g =
        ap below_zero (g.told ∙ ap digits_meant (rest ∙ ap (λ q. drop (length q) s) minus)) ∙ number_is s (tested m)

    pub minus_malformed : ReadsDigits d None → None ≡ number_meant s
    minus_malformed g = minus_is g

    pub minus_number : {n : ℕ} → ReadsDigits d (Some n) → Some (back (pos 0 -ℤ to_z w64 n)) ≡ number_meant s
    minus_number {n} g = let few : n < 10 ^ 10 = g.small in ap Some (minus_back (omega arith)) ∙ minus_is g

  module _ (m : pointwise eqb (take (length p) s) p ≡ false) where
    bare_is : {r : Option ℕ} → ReadsDigits s r → from_zero r ≡ number_meant s
    bare_is g = ap from_zero g.told ∙ number_is s (tested m)

    pub bare_malformed : ReadsDigits s None → None ≡ number_meant s
    bare_malformed g = bare_is g

    pub bare_number : {n : ℕ} → ReadsDigits s (Some n) → Some (to_z w64 n) ≡ number_meant s
    bare_number {n} g = let few : n < 10 ^ 10 = g.small in ap Some (to_z_pos w64 n (omega arith)) ∙ bare_is g
