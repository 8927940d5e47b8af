-- A number read digit by digit, in the code's shape: what is still to be read from a place on is what was to be read.
-- Assumes nothing.
use mathlib.Core.Path.{◌≡◌, refl, sym, ◌∙◌, ap, subst}
use mathlib.Core.Bool.{Bool, true, false, cond}
use mathlib.Core.List.{List, [], ◌∷◌}
use Prim.Native.Nat.{ℕ, suc, ◌+◌, ◌-◌, ◌*◌, ◌^◌, ◌≤◌, ◌<◌, min}
use native.Mathlib.Nat.{pow-suc, one-le-pow, zero-lt-suc, mul-le-mul_left, mul-le-mul_right}
use native.Mathlib.Numerals.{add-one}
use native.Mathlib.Omega.{arith}
use borrow.Author.Tests.{leb-true, leb-false, ne_eqb}
use lib.Dec.{leb, eqb}
use lib.ListN.{length, drop, get_or, drop_of_length-le}
use lib.Seq.{drop-cons}
use mir.Syntax.{w64}
use mir.Val.{Fits}
use Rattle.std.specs.declared.option.Option.{Option}
use Rattle.std.specs.declared.option.Option.TheVariants.{None, Some}
use Rattle.std.specs.declared.result.Result.{Result}
use Rattle.std.specs.declared.result.Result.TheVariants.{Ok}
use Rattle.numerals.specs.declared.Numeral.{Numeral}
use Rattle.numerals.specs.declared.Wrong.{Wrong}
use Rattle.numerals.specs.Decimals.{decimal}
use Rattle.numerals.specs.Digits.{is_digit, point, Reading, number, fraction_on, point_on, whole_on}
use Rattle.numerals.specs.Digits.{TellsDigit, MustBeDigit, Reads, SoFar}

-- the byte at a place, and those behind it
at_byte : (s : List ℕ) (n : ℕ) → n < length s → drop n s ≡ get_or s n 0 ∷ drop (n + 1) s
at_byte s n l = rw add-one (drop-cons s n 0 l)

-- what the code was told of a byte
is_none : (b : ℕ) {r : Option ℕ} → r ≡ None → TellsDigit b r → is_digit b ≡ false
is_none b e t = subst (TellsDigit b) e t

is_one : (b : ℕ) {d : ℕ} {r : Option ℕ} → r ≡ Some d → TellsDigit b r → TellsDigit b (Some d)
is_one b e t = subst (TellsDigit b) e t

-- ---- the number so far

brief_of : (l v : ℕ) → (v + 1) * 10 ^ l ≤ 10 ^ 9 → v < 10 ^ 9
brief_of l v k = let m = mul-le-mul_left (v + 1) (one-le-pow l 10 (zero-lt-suc 9)) in omega (arith, m)

-- a digit more, and one fewer may follow: (10v + d + 1)·10^m ≤ (v + 1)·10^(m+1)
small_more : (m v d : ℕ) → d ≤ 9 → (v + 1) * 10 ^ suc m ≤ 10 ^ 9 → (10 * v + d + 1) * 10 ^ m ≤ 10 ^ 9
small_more m v d k h =
    let ten : 10 * v + d + 1 ≤ (v + 1) * 10 = omega arith in
    omega (arith, rw (pow-suc 10 m) at h, mul-le-mul_right (10 ^ m) ten)

module _ {s : List ℕ} {at l e v : ℕ} (f : SoFar s at l e v) where
  pub so_far_brief : v < 10 ^ 9
  so_far_brief = brief_of l v f.small

  so_far_more : {m n d : ℕ} → l ≡ suc m → n ≤ suc e → at < length s → d ≤ 9 → SoFar s (at + 1) m n (10 * v + d)
  so_far_more {m} {n} {d} k j more nine =
      let small = small_more m v d nine (rw k at f.small) in
      record { there = omega arith; digits = omega (arith, f.digits); small = small }

-- on 64 bits
pub digit_added : (s : List ℕ) (at : ℕ) {v d : ℕ} → MustBeDigit s at (Ok d) → v < 10 ^ 9 → Fits w64 (10 * v + d)
digit_added s at told l = record { fits = omega (arith, told) }

-- ---- in a loop over the places up to `until`, and no further than the text goes

-- the number so far, of e places
pub record Along (s : List ℕ) (from at until e v : ℕ) : Type 0 where
  pub so_far : SoFar s at (until - at) e v
  pub brief : v < 10 ^ 9
  pub behind : from ≤ at
  pub before : at ≤ until

along : {s : List ℕ} {at left e v : ℕ} → SoFar s at left e v → Along s at at (at + left) e v
along {s} {at} {left} f =
    let l : at + left - at ≡ left = omega arith in
    record { so_far = rw l f; brief = so_far_brief f; behind = omega arith; before = omega arith }

-- it stops at a place
abbrev pub stops : ℕ → ℕ → ℕ → Result Numeral Wrong
stops e v at = Ok (record { number = decimal v e; end = at })

module _ {s : List ℕ} {from at until e v : ℕ} (a : Along s from at until e v) where
  stopped : {what : Reading} → number v e (drop at s) ≡ what → Reads s from what (stops e v at)
  stopped k =
      let few : e ≤ 8 = omega (arith, a.so_far.digits) in
      record { is = k; within = (a.brief, few, a.behind, a.so_far.there) }

  module _ {end : ℕ} (last : end ≡ min (length s) until) where
    -- of what `on` reads, nothing is left
    at_end : (on : ℕ → List ℕ → Reading) → ((t : List ℕ) → on 0 t ≡ number v e t) → ((l : ℕ) → on l [] ≡ number v e []) → {what : Reading}
        → on (until - at) (drop at s) ≡ what → end ≤ at → Reads s from what (stops e v end)
    at_end on full none {what} same l =
        let is : end ≡ at = omega (arith, a.so_far.there, a.before) in
        rw is (stopped (sym (by_test (leb (length s) at) refl) ∙ same))
      where
        by_test : (t : Bool) → leb (length s) at ≡ t → on (until - at) (drop at s) ≡ number v e (drop at s)
        by_test true t = rw (drop_of_length-le s (leb-true (length s) at t)) (none (until - at))
        by_test false t = let zero : until - at ≡ 0 = omega (arith, leb-false (length s) at t) in rw zero (full (drop at s))

    module _ (more : at < end) where
      byte_there : at < length s
      byte_there = omega arith

      one_left : until - at ≡ suc (until - (at + 1))
      one_left = omega arith

      along_more : {n d : ℕ} → n ≤ e + 1 → d ≤ 9 → Along s from (at + 1) until n (10 * v + d)
      along_more {n} {d} k nine =
          let f = so_far_more a.so_far {n = n} one_left (omega arith) byte_there nine in
          record { so_far = f; brief = so_far_brief f; behind = omega (arith, a.behind); before = omega arith }

-- ---- behind the point

-- what is still to be read is what was to be read
pub record FractionGoing (s : List ℕ) (from at until e v : ℕ) (what : Reading) : Type 0 where
  pub here : Along s from at until e v
  pub same : fraction_on (until - at) e v (drop at s) ≡ what

pub fraction_begins : {s : List ℕ} {at left v : ℕ} → SoFar s at left 1 v
    → FractionGoing s at at (at + left) 1 v (fraction_on left 1 v (drop at s))
fraction_begins {at = at} {left} f =
    let l : at + left - at ≡ left = omega arith in
    record { here = along f; same = rw l }

module _ {s : List ℕ} {from at until e v : ℕ} {what : Reading} (g : FractionGoing s from at until e v what) {end : ℕ}
    (last : end ≡ min (length s) until) where
  full_fraction : (t : List ℕ) → fraction_on 0 e v t ≡ number v e t
  full_fraction [] = refl
  full_fraction (b ∷ t) = refl

  pub fraction_ended : end ≤ at → Reads s from what (stops e v end)
  fraction_ended = at_end g.here last (λ l. fraction_on l e v) full_fraction (λ l. refl) g.same

  module _ (more : at < end) where
    fraction_next : {u : Bool} → is_digit (get_or s at 0) ≡ u
        → fraction_on (until - at) e v (drop at s)
        ≡ cond u (fraction_on (until - (at + 1)) (e + 1) (10 * v + (get_or s at 0 - 48)) (drop (at + 1) s)) (number v e (drop at s))
    fraction_next k =
        rw (at_byte s at (byte_there g.here last more), add-one e, ← k)
        (ap (λ m. fraction_on m e v (get_or s at 0 ∷ drop (at + 1) s)) (one_left g.here last more))

    pub fraction_one : {r : Option ℕ} {d : ℕ} → TellsDigit (get_or s at 0) r → r ≡ Some d
        → FractionGoing s from (at + 1) until (e + 1) (10 * v + d) what
    fraction_one told k =
        let is = is_one (get_or s at 0) k told in
        record {
          here = along_more g.here last more (omega arith) is.2;
          same = sym (rw is.1 (fraction_next is.0)) ∙ g.same;
        }

-- ---- right behind the point

module _ {s : List ℕ} {at : ℕ} (left : ℕ) {v : ℕ} (f : SoFar s at (left + 1) 0 v) where
  pub point_so_far : {d : ℕ} → MustBeDigit s at (Ok d) → SoFar s (at + 1) left 1 (10 * v + d)
  point_so_far told = so_far_more f (add-one left) (omega arith) told.0 told.1.2

-- ---- before the point

pub record WholeGoing (s : List ℕ) (from at until v : ℕ) (what : Reading) : Type 0 where
  pub here : Along s from at until 0 v
  pub same : whole_on (until - at) v (drop at s) ≡ what

pub whole_begins : {s : List ℕ} {at left v : ℕ} → SoFar s at left 0 v
    → WholeGoing s at at (at + left) v (whole_on left v (drop at s))
whole_begins {at = at} {left} f =
    let l : at + left - at ≡ left = omega arith in
    record { here = along f; same = rw l }

module _ {s : List ℕ} {from at until v : ℕ} {what : Reading} (g : WholeGoing s from at until v what) {end : ℕ}
    (last : end ≡ min (length s) until) where
  full_whole : (t : List ℕ) → whole_on 0 v t ≡ number v 0 t
  full_whole [] = refl
  full_whole (b ∷ t) = refl

  pub whole_ended : end ≤ at → Reads s from what (stops 0 v end)
  whole_ended = at_end g.here last (λ l. whole_on l v) full_whole (λ l. refl) g.same

  module _ (more : at < end) where
    whole_next : {u w : Bool} → eqb (get_or s at 0) point ≡ u → is_digit (get_or s at 0) ≡ w
        → whole_on (until - at) v (drop at s)
        ≡ cond u (point_on (until - (at + 1)) v (drop (at + 1) s))
        (cond w (whole_on (until - (at + 1)) (10 * v + (get_or s at 0 - 48)) (drop (at + 1) s)) (number v 0 (drop at s)))
    whole_next j k =
        rw (at_byte s at (byte_there g.here last more), ← j, ← k)
        (ap (λ m. whole_on m v (get_or s at 0 ∷ drop (at + 1) s)) (one_left g.here last more))

    module _ (j : get_or s at 0 ≡ point → ⊥) {r : Option ℕ} (told : TellsDigit (get_or s at 0) r) where
      pub whole_one : {d : ℕ} → r ≡ Some d → WholeGoing s from (at + 1) until (10 * v + d) what
      whole_one k =
          let is = is_one (get_or s at 0) k told in
          record {
            here = along_more g.here last more (omega arith) is.2;
            same = sym (rw is.1 (whole_next (ne_eqb (get_or s at 0) point j) is.0)) ∙ g.same;
          }
