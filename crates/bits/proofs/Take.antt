-- What taking a field answers, by the length of what is left. Assumes nothing.
use mathlib.Core.Path.{◌≡◌, refl, sym, ◌∙◌, ap₂, subst}
use mathlib.Core.Bool.{Bool, true, false}
use mathlib.Core.List.{List}
use Prim.Native.Nat.{ℕ, ◌+◌, ◌-◌, ◌*◌, ◌/◌, ◌%◌, ◌^◌, ◌≤◌, ◌<◌}
use native.Mathlib.Omega.{arith}
use lib.Dec.{leb}
use borrow.Author.Tests.{le-leb, lt-leb, leb-true, leb-false}
use lib.ListN.{length, take, drop, length-drop}
use Rattle.refusals.specs.declared.Refusal.TheVariants as refusal
use Rattle.refusals.specs.Answer.{refuse, value, refused}
use Rattle.refusals.proofs.Answers.{no_value, same_value}
use Rattle.whole.proofs.Machine.{one_shifted}
use Rattle.bits.specs.declared.Cursor.{Cursor}
use Rattle.bits.specs.Bits.{bits, number}
use Rattle.bits.specs.Fields.{before, Ahead}
use Rattle.bits.specs.Reader.{Read, field}
use lib.Seq.{length-take-le, drop-drop}
use Rattle.bits.proofs.Digits.{AreBits, are_bits_take, are_bits_drop, number_lt}
use Rattle.bits.proofs.Gather.{length_bits}

pub field_got : (w : ℕ) (bs : List ℕ) → w ≤ length bs
    → field w bs ≡ value (record { got = number (take w bs); left = drop w bs })
unfolding field
field_got w bs l = rw (le-leb w (length bs) l)

pub field_ended : (w : ℕ) (bs : List ℕ) → length bs < w → field w bs ≡ refuse refusal.Ended
unfolding field
field_ended w bs l = rw (lt-leb w (length bs) l)

-- as the code tests whether a field is there, and cuts it out of what is ahead
module _ (s : List ℕ) (c : Cursor) (w : ℕ) (some : 1 ≤ w) where
  left_long : length (before s c) ≡ 8 * length s - c.at
  left_long = omega (arith, length-drop c.at (bits s), length_bits s)

  pub field_short : length s < (c.at + w + 7) / 8 → refuse refusal.Ended ≡ field w (before s c)
  field_short l = sym (field_ended w (before s c) (omega (arith, left_long)))

  pub field_ahead : (x : ℕ) → (c.at + w + 7) / 8 ≤ length s → w ≤ 32 → Ahead 57 (before s c) x
      → value (record { got = x / 2 ^ (64 - w) % (1 * 2 ^ w % 2 ^ 64); left = drop (c.at + w) (bits s) })
      ≡ field w (before s c)
  field_ahead x l m ahead =
      let z : 64 - w ≡ 64 - (0 + w) = omega arith in
      let first = ahead 0 w some (omega arith) (omega (arith, left_long)) in
      let cut = ap₂ (λ n k. x / 2 ^ n % k) z (one_shifted w (omega arith)) ∙ first in
      sym
      (field_got w (before s c) (omega (arith, left_long))
      ∙ ap₂ (λ (n : ℕ) (l : List ℕ). value (record { got = n; left = l })) (sym cut) (drop-drop w c.at (bits s)))

-- a field that was got was there, and one that was not was not
pub field_whole : (w : ℕ) (bs : List ℕ) {x : Read ℕ} → field w bs ≡ value x → w ≤ length bs
field_whole w bs {x} e = by_test (leb w (length bs)) refl
  where
    by_test : (t : Bool) → leb w (length bs) ≡ t → w ≤ length bs
    by_test true u = leb-true w (length bs) u
    by_test false u = absurd (no_value (sym (field_ended w bs (leb-false w (length bs) u)) ∙ e))

pub field_cut : (w : ℕ) (bs : List ℕ) {n : ℕ} → field w bs ≡ refused n → length bs < w
field_cut w bs {n} e = by_test (leb w (length bs)) refl
  where
    by_test : (t : Bool) → leb w (length bs) ≡ t → length bs < w
    by_test true u = absurd (no_value (sym e ∙ field_got w bs (leb-true w (length bs) u)))
    by_test false u = leb-false w (length bs) u

-- a field of w bits is below 2^w, and what is left after it are bits
pub field_bits : (w : ℕ) {bs : List ℕ} {x : Read ℕ} → AreBits bs → field w bs ≡ value x
    → (x.got < 2 ^ w) × AreBits x.left
field_bits w {bs} {x} p e =
    let l = field_whole w bs e in
    let small : number (take w bs) < 2 ^ w = rw (length-take-le w bs l) at (number_lt (are_bits_take w p)) in
    subst (λ (r : Read ℕ). (r.got < 2 ^ w) × AreBits r.left) (same_value (sym (field_got w bs l) ∙ e))
    (small, are_bits_drop w p)
