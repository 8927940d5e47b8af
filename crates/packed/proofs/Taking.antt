-- A field taken off what a cursor has loaded: it is missing, or wrong, or fine, and the cursor past it carries the rest.
-- Assumes nothing.
use mathlib.Core.Path.{◌≡◌, refl, sym, ◌∙◌, ap, ap₂}
use mathlib.Core.Bool.{Bool, true, false}
use mathlib.Core.List.{List}
use Prim.Native.Nat.{ℕ, ◌+◌, ◌-◌, ◌*◌, ◌/◌, ◌%◌, ◌^◌, ◌≤◌, ◌<◌}
use native.Mathlib.Nat.{mod-lt}
use native.Mathlib.Omega.{arith}
use lib.Dec.{ltb}
use borrow.Author.Tests.{ltb-true, ltb-false, lt-ltb, le-ltb}
use lib.ListN.{length, take, drop, length-drop}
use lib.Pow.{pow_pos, shr_lt, shr_mod}
use lib.Seq.{drop-drop}
use Rattle.refusals.specs.declared.Refusal.TheVariants as refusal
use Rattle.refusals.specs.Answer.{value, refuse}
use Rattle.bits.specs.declared.Cursor.{Cursor}
use Rattle.bits.specs.Bits.{bits, number}
use Rattle.bits.specs.Reader.{field}
use Rattle.bits.specs.Fields.{IsAhead}
use Rattle.bits.proofs.Ends.{lifted}
use Rattle.bits.proofs.Gather.{length_bits}
use Rattle.bits.proofs.Take.{field_got, field_ended}
use Rattle.packed.specs.declared.loaded.Loaded.{Loaded}
use Rattle.packed.specs.declared.loaded.Taken.{Taken}
use Rattle.packed.specs.Items.{FieldKind, width, permitted, complaint, entry}
use Rattle.packed.specs.Loading.{left, taken, Carries, Loads}
use Rattle.packed.specs.ReaderAnswers.{Reaches}
use Rattle.packed.proofs.FieldIn.{test_cut, test_failed, test_passed}

pub loads : (s : List ℕ) (c : Cursor) {x : ℕ} → IsAhead s c x → x < 2 ^ 64
    → Loads s c (record { at = c.at; ahead = x })
loads s c a l =
    record { is = ap (λ n. record { at = c.at; ahead = n }) a.is; carries = record { fields = a.fields; small = l } }

-- a loaded cursor stands where the other did
module _ {s : List ℕ} {c : Cursor} {l : Loaded} (o : Loads s c l) where
  pub loaded_carries : Carries s l 57
  loaded_carries = o.carries

  pub loaded_near : c.at ≤ 2 ^ 30 → l.at ≤ 2 ^ 30
  loaded_near n = rw o.is n

  pub loaded_takes : c.at ≤ 2 ^ 30 → l.at ≤ 2 ^ 31
  loaded_takes n = rw o.is (omega arith)

  pub loaded_eight : c.at / 8 + 8 ≤ length s → l.at / 8 + 8 ≤ length s
  loaded_eight n = rw o.is n

module _ (s : List ℕ) (l : Loaded) where
  pub left_long : length (left s l) ≡ 8 * length s - l.at
  left_long = omega (arith, length-drop l.at (bits s), length_bits s)

  module _ (w n : ℕ) (c : Carries s l (w + n)) (most : w + n ≤ 64) where
    -- the cursor past w bits carries the n after them
    pub carries_on : Carries s (taken w l).rest n
    carries_on =
        record {
          fields = λ o v some near long.
              let far : 64 - w - (o + v) ≡ 64 - (w + o + v) = omega arith in
              let after = sym (drop-drop o w (left s l)) ∙ ap (drop o) (drop-drop w l.at (bits s)) in
              lifted l.ahead w o v (omega arith) ∙ ap (λ k. l.ahead / 2 ^ k % 2 ^ v) far
              ∙ c.fields (w + o) v some (omega arith)
              (omega (arith, long, left_long, length-drop (l.at + w) (bits s), length_bits s))
              ∙ ap (λ k. number (take v k)) after;
          small = mod-lt (l.ahead * 2 ^ w) (pow_pos 64);
        }

    -- the field on top
    pub top : 1 ≤ w → w ≤ length (left s l) → (taken w l).field ≡ number (take w (left s l))
    top some long =
        let x = l.ahead in
        let z : w + (64 - w) ≡ 64 = omega arith in
        let b : x < 2 ^ (w + (64 - w)) = rw z c.small in
        let o : 64 - w ≡ 64 - (0 + w) = omega arith in
        sym (shr_mod w (64 - w) b) ∙ ap (λ k. x / 2 ^ k % 2 ^ w) o
        ∙ c.fields 0 w some (omega arith) (omega arith)

-- the field of kind k
module _ (s : List ℕ) (l : Loaded) (k : FieldKind) (some : 1 ≤ width k) where
  pub missing : 8 * length s < (taken (width k) l).rest.at → entry k (left s l) ≡ refuse refusal.Ended
  missing e =
      test_cut (width k) (permitted k) (complaint k) (left s l)
      (field_ended (width k) (left s l) (omega (arith, left_long s l)))

  module _ (n : ℕ) (c : Carries s l (width k + n)) (most : width k + n ≤ 64)
      (r : Reaches s (taken (width k) l).rest) where
    got : field (width k) (left s l)
        ≡ value (record { got = (taken (width k) l).field; left = left s (taken (width k) l).rest })
    got =
        field_got (width k) (left s l) (omega (arith, r.is, left_long s l))
        ∙ ap₂ (λ (n : ℕ) (bs : List ℕ). value (record { got = n; left = bs }))
        (sym (top s l (width k) n c most some (omega (arith, r.is, left_long s l)))) (drop-drop (width k) l.at (bits s))

    pub wrong : permitted k (taken (width k) l).field ≡ false → entry k (left s l) ≡ refuse (complaint k)
    wrong e = test_failed (width k) (permitted k) (complaint k) (left s l) got e

    pub fine : permitted k (taken (width k) l).field ≡ true
        → entry k (left s l) ≡ value (record { got = (taken (width k) l).field; left = left s (taken (width k) l).rest })
    fine e = test_passed (width k) (permitted k) (complaint k) (left s l) got e

-- ---- as the code takes them: the places stay small, and a constant has 32 bits
module _ {s : List ℕ} {l : Loaded} (carries : Carries s l 57) {c : Taken} (tc : c ≡ taken 3 l) (near : l.at ≤ 2 ^ 30) where
  pub code_near : c.rest.at ≤ 2 ^ 31
  code_near = rw tc (omega arith)

  pub constant_near : {k : Taken} → k ≡ taken 32 c.rest → k.rest.at ≤ 2 ^ 31
  constant_near tk = rw (tk, tc) (omega arith)

  pub constant_small : {k : Taken} → k ≡ taken 32 c.rest → k.field < 2 ^ 32
  constant_small tk = rw (tk, tc) (shr_lt 32 32 (mod-lt (l.ahead * 2 ^ 3) (pow_pos 64)))

  module _ {i : Taken} (ti : i ≡ taken 10 c.rest) where
    pub first_near : i.rest.at ≤ 2 ^ 31
    first_near = rw (ti, tc) (omega arith)

    pub second_near : {j : Taken} → j ≡ taken 10 i.rest → j.rest.at ≤ 2 ^ 31
    second_near tj = rw (tj, ti, tc) (omega arith)

-- the bytes end before a place
pub ends_before : (n at : ℕ) → ltb n ((at + 7) / 8) ≡ ltb (8 * n) at
ends_before n at = by_test (ltb (8 * n) at) refl
  where
    by_test : (t : Bool) → ltb (8 * n) at ≡ t → ltb n ((at + 7) / 8) ≡ t
    by_test true e = let l = ltb-true (8 * n) at e in lt-ltb n ((at + 7) / 8) (omega arith)
    by_test false e = let l = ltb-false (8 * n) at e in le-ltb n ((at + 7) / 8) (omega arith)
