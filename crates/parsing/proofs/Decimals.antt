-- Decimal digits read so far. Assumes nothing.
use Rattle.std.proofs.Common.{eqb, eqb-true, ◌⊎◌, inl, inr, ◌≡◌, ℕ, ◌+◌, ◌*◌, ◌-◌, ◌^◌, ◌<◌, ◌≤◌, sym, ◌∙◌, ap, Bool, true, false, ◌&&◌, cond, leb, List, ◌∷◌, length, get_or, drop, drop-cons, add-one, pow-suc, arith, None}
use borrow.Author.Tests.{eqb-false}
use native.Mathlib.Nat.{pow-le-pow_right, zero-lt-suc}
use Rattle.std.specs.Char.{is_ascii_digit}
use Rattle.parsing.specs.Number.{digits_after, digits_meant}
use Rattle.parsing.specs.ParsingAnswers.{ReadsDigits}
use Rattle.parsing.proofs.Ranges.{in_range, below_range, above_range, range_ends}

-- n is the number of the first i digits of s; `brief` is the bound that arithmetic on n goes by
pub record Counted (s : List ℕ) (n i : ℕ) : Type 0 where
  pub few : length s ≤ 10
  pub within : i ≤ length s
  pub small : n < 10 ^ i
  pub brief : n < 10 ^ 10
  pub so_far : digits_meant s ≡ digits_after n (drop i s)

brief_of : {n i : ℕ} → i ≤ 10 → n < 10 ^ i → n < 10 ^ 10
brief_of {n} {i} l k = let p : 10 ^ i ≤ 10 ^ 10 = pow-le-pow_right (zero-lt-suc 9) l in omega arith

module _ (s : List ℕ) where
  malformed : None ≡ digits_meant s → ReadsDigits s None
  malformed e = record { told = e; small = tt }

  by_length : (t : Bool) → leb 1 (length s) && leb (length s) 10 ≡ t → digits_meant s ≡ cond t (digits_after 0 s) None
  unfolding digits_meant
  by_length t e = ap (λ (t : Bool). cond t (digits_after 0 s) None) e

  pub wrong_length : {empty : Bool} → empty ≡ eqb (length s) 0 → (empty ≡ true) ⊎ ((empty ≡ false) × (10 < length s))
      → ReadsDigits s None
  wrong_length e (inl t) =
      let none : length s ≡ 0 = eqb-true (length s) 0 (sym e ∙ t) in
      malformed (sym (by_length false (below_range 1 10 (length s) (omega arith))))
  wrong_length e (inr l) = malformed (sym (by_length false (above_range 1 10 (length s) l.1)))

  pub counted_none : {empty : Bool} → empty ≡ eqb (length s) 0 → empty ≡ false → length s ≤ 10 → Counted s 0 0
  counted_none e f r =
      let some : length s ≡ 0 → ⊥ = eqb-false (length s) 0 (sym e ∙ f) in
      let so_far = by_length true (in_range 1 10 (length s) (omega arith) r) in
      record { few = r; within = omega arith; small = omega arith; brief = omega arith; so_far = so_far }

  module _ {n i : ℕ} (w : Counted s n i) (l : i < length s) where
    next : (t : Bool) → leb 48 (get_or s i 0) && leb (get_or s i 0) 57 ≡ t
        → digits_meant s ≡ cond t (digits_after (10 * n + (get_or s i 0 - 48)) (drop (i + 1) s)) None
    next t e =
        w.so_far ∙ ap (digits_after n) (drop-cons s i 0 l ∙ ap (λ k. get_or s i 0 ∷ drop k s) (sym (add-one i)))
        ∙ ap (λ (t : Bool). cond t (digits_after (10 * n + (get_or s i 0 - 48)) (drop (i + 1) s)) None) e

    pub counted_one : {digit : Bool} {d : ℕ} → digit ≡ is_ascii_digit (get_or s i 0) → digit ≡ true
        → d ≡ get_or s i 0 - 48 → Counted s (10 * n + d) (i + 1)
    counted_one f g e =
        let t : leb 48 (get_or s i 0) && leb (get_or s i 0) 57 ≡ true = sym f ∙ g in
        let p : 10 ^ (i + 1) ≡ 10 ^ i * 10 = ap (λ k. 10 ^ k) (add-one i) ∙ pow-suc 10 i in
        let ends = range_ends 48 57 (get_or s i 0) t in
        let small : 10 * n + (get_or s i 0 - 48) < 10 ^ (i + 1) = omega (arith, p, w.small) in
        rw e
        (record {
          few = w.few;
          within = omega arith;
          small = small;
          brief = brief_of (omega (arith, w.few)) small;
          so_far = next true t;
        })
