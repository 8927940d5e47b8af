-- The parts of a count's text, written one behind the other, and the room for each. Assumes nothing.
use mathlib.Core.Path.{◌≡◌, refl, sym, ◌∙◌, ap}
use mathlib.Core.Bool.{true, false}
use mathlib.Core.List.{List, [], ◌∷◌}
use Prim.Native.Nat.{ℕ, suc, ◌+◌, ◌-◌, ◌/◌, ◌^◌, ◌≤◌, ◌<◌}
use native.Mathlib.Nat.{one-le-pow, zero-lt-suc}
use native.Mathlib.Omega.{arith}
use borrow.Author.Tests.{ltb-true}
use lib.IntN.{ℤ, pos, negsuc, nat_abs}
use lib.ListN.{length}
use lib.Signed.{lt_z}
use mir.Syntax.{w64}
use mir.Val.{SFits}
use mir.ValLaws.{to_z-of_z}
use Rattle.whole.proofs.Cases.{never}
use Rattle.whole.proofs.Machine.{back}
use Rattle.lists.specs.Written.{Wrote}
use Rattle.lists.proofs.Again.{wrote_long, wrote_then, wrote_same, wrote_nothing}
use Rattle.numerals.specs.Digits.{point}
use Rattle.printing.specs.Decimal as whole
use Rattle.printing.proofs.Digits.{decimal_short}
use Rattle.decimal_texts.specs.Texts.{minus, last_digits, behind, unsigned_text, text, give_or_take, ball_text}
use Rattle.decimal_texts.proofs.Lengths.{text_short}
use Rattle.decimal_printer.specs.Room.{Room}

-- ---- the point and what stands behind it

behind_none : {d : ℕ} (n : ℕ) → d ≡ 0 → [] ≡ behind d n
unfolding behind
behind_none n e = rw e

behind_some : {d : ℕ} (n : ℕ) → (d ≡ 0 → ⊥) → point ∷ last_digits d n ≡ behind d n
unfolding behind
behind_some {d} n e =
    let one : d ≡ suc (d - 1) = omega arith in
    ap (λ k. point ∷ last_digits k n) one ∙ sym (ap (λ k. behind k n) one)

pub wrote_no_point : {old : List ℕ} {at d : ℕ} (n : ℕ) → d ≡ 0 → at + d < length old → Wrote (behind d n) at old old at
wrote_no_point n e r = wrote_same (behind_none n e) (wrote_nothing (omega arith))

pub wrote_point : {old mid now : List ℕ} {at p q d : ℕ} (n : ℕ) → (d ≡ 0 → ⊥) → Wrote (point ∷ []) at old mid p
    → Wrote (last_digits d n) p mid now q → Wrote (behind d n) at old now q
wrote_point n e w v = wrote_same (behind_some n e) (wrote_then w v)

-- ---- a count without a sign

pub ten_some : {ten : ℕ} (d : ℕ) → ten ≡ 10 ^ d → 1 ≤ ten
ten_some d e = omega (arith, one-le-pow d 10 (zero-lt-suc 9))

module _ {old mid : List ℕ} {at p : ℕ} where
  pub behind_room : {d : ℕ} (m : ℕ) → Room 30 d at old → Wrote (whole.decimal m) at old mid p → p + d < length mid
  behind_room m r w = omega (arith, r.decimals_few, r.there, wrote_long w, w.after, decimal_short m)

  pub wrote_unsigned : {now : List ℕ} {q ten : ℕ} (d n : ℕ) → ten ≡ 10 ^ d → Wrote (whole.decimal (n / ten)) at old mid p
      → Wrote (behind d n) p mid now q → Wrote (unsigned_text d n) at old now q
  wrote_unsigned d n e w v = wrote_then (wrote_same (ap (λ k. whole.decimal (n / k)) e) w) v

-- ---- with a sign

text_below : (d : ℕ) (z : ℤ) → lt_z z (pos 0) ≡ true → minus ∷ unsigned_text d (nat_abs z) ≡ text d z
unfolding text
text_below d (pos n) t = let l : n < 0 = ltb-true n 0 t in absurd (omega arith)
text_below d (negsuc n) t = refl

text_above : (d : ℕ) (z : ℤ) → lt_z z (pos 0) ≡ false → unsigned_text d (nat_abs z) ≡ text d z
unfolding text
text_above d (pos n) t = refl
text_above d (negsuc n) t = never t

-- as the machine holds it, its size being m: behind a minus or not, as the test of its sign has it
module _ {old mid now : List ℕ} {at p q m : ℕ} (d : ℕ) (z : ℤ) (f : SFits w64 z) (size : m ≡ nat_abs (back z)) (v : Wrote (unsigned_text d m) p mid now q) where
  pub wrote_minus : {put : List ℕ} {next : ℕ} → lt_z (back z) (pos 0) ≡ true → Wrote (minus ∷ []) at old put next → mid ≡ put → p ≡ next
      → Wrote (text d z) at old now q
  wrote_minus t w k l =
      let e = to_z-of_z w64 z f in
      wrote_same (ap (λ n. minus ∷ unsigned_text d n) (size ∙ ap nat_abs e) ∙ text_below d z (rw e at t)) (wrote_then w (rw (k, l) at v))

  pub wrote_bare : lt_z (back z) (pos 0) ≡ false → mid ≡ old → p ≡ at → Wrote (text d z) at old now q
  wrote_bare t k l =
      let e = to_z-of_z w64 z f in
      wrote_same (ap (unsigned_text d) (size ∙ ap nat_abs e) ∙ text_above d z (rw e at t)) (rw (k, l) at v)

-- ---- a ball

module _ {old o1 : List ℕ} {at p d : ℕ} (z : ℤ) (w : Wrote (text d z) at old o1 p) (r : Room 65 d at old) where
  pub between_room : p + 4 ≤ length o1
  between_room = omega (arith, wrote_long w, w.after, text_short d z r.decimals_few)

  pub margin_room : {o2 : List ℕ} {q : ℕ} → Wrote give_or_take p o1 o2 q → Room 30 d q o2
  margin_room v =
      record {
        decimals_few = r.decimals_few;
        there = omega (arith, wrote_long w, wrote_long v, w.after, v.after, text_short d z r.decimals_few, r.there);
      }

pub wrote_ball : {old o1 o2 now : List ℕ} {at p q t : ℕ} (d r : ℕ) (z : ℤ) → SFits w64 z → Wrote (text d (back z)) at old o1 p
    → Wrote give_or_take p o1 o2 q → Wrote (unsigned_text d r) q o2 now t → Wrote (ball_text d z r) at old now t
wrote_ball d r z f w v u = wrote_then (wrote_then (wrote_same (ap (text d) (to_z-of_z w64 z f)) w) v) u
