-- Bits are no padding exactly where one in the last byte is set or a byte follows. Assumes nothing.
use mathlib.Core.Path.{◌≡◌, refl, ap, subst}
use mathlib.Core.Bool.{Bool, true, false, ◌&&◌}
use mathlib.Core.List.{List, [], ◌∷◌}
use Prim.Native.Nat.{ℕ, zero, suc, ◌+◌, ◌*◌, ◌^◌, ◌<◌}
use native.Mathlib.Nat.{one-mul, zero-mul}
use native.Mathlib.Omega.{arith}
use lib.Dec.{ltb, eqb}
use borrow.Author.Tests.{ltb-true, ltb-false, le-ltb, eqb-false, ne_eqb}
use lib.ListN.{length, get_or}
use lib.Pow.{pow_pos}
use Rattle.whole.proofs.Cases.{never}
use Rattle.refusals.specs.Answer.{value}
use Rattle.refusals.proofs.Answers.{same_value, first_of}
use Rattle.bits.specs.Bits.{number}
use Rattle.bits.specs.Reader.{Read}
use Rattle.bits.proofs.Digits.{AreBits, none, more}
use Rattle.packed.specs.Items.{Form, done, ask, entry, read}
use Rattle.packed.specs.Format.{is_padding}
use Rattle.packed.specs.Given.{NotPadding, set_bit, byte_follows}
use Rattle.packed.proofs.WellFormed.{entry_kept}

-- what a form leaves of bits is bits
pub left_are : {A : Type 0} (f : Form A) {bs : List ℕ} {x : Read A} → AreBits bs → read f bs ≡ value x → AreBits x.left
left_are (done a) p e = subst (λ (r : Read _). AreBits r.left) (same_value e) p
left_are (ask k f) {bs} p e =
    let a = first_of (entry k bs) (λ y. read (f y.got) y.left) e in
    left_are (f a.first.got) (entry_kept k p a.was).are a.then_was

-- a bit that is set
record IsSet (bs : List ℕ) : Type 0 where
  at : ℕ
  within : at < length bs
  is : get_or bs at 0 ≡ 1

some_set : {bs : List ℕ} → AreBits bs → (number bs ≡ 0 → ⊥) → IsSet bs
unfolding number
some_set none d = absurd (d refl)
some_set (more {b} {bs} l p) d = by_bit b l d (λ k. some_set p k)
  where
    by_bit : (b : ℕ) → b < 2 → (b * 2 ^ length bs + number bs ≡ 0 → ⊥) → ((number bs ≡ 0 → ⊥) → IsSet bs) → IsSet (b ∷ bs)
    by_bit zero l d rec =
        let s = rec (λ e. d (omega (arith, zero-mul (2 ^ length bs)))) in
        record { at = suc s.at; within = omega (arith, s.within); is = s.is }
    by_bit (suc c) l d rec = record { at = 0; within = omega arith; is = omega arith }

set_number : (bs : List ℕ) (i : ℕ) → i < length bs → get_or bs i 0 ≡ 1 → number bs ≡ 0 → ⊥
unfolding number
set_number [] i l e z = omega arith
set_number (b ∷ bs) zero l e z =
    omega (arith, ap (λ (n : ℕ). n * 2 ^ length bs) e, one-mul (2 ^ length bs), pow_pos (length bs))
set_number (b ∷ bs) (suc i) l e z = set_number bs i (omega arith) e (omega arith)

pub not_padding_false : (bs : List ℕ) → NotPadding bs → is_padding bs ≡ false
unfolding is_padding
not_padding_false bs (byte_follows l) = ap (λ (t : Bool). t && eqb (number bs) 0) (le-ltb (length bs) 8 l)
not_padding_false bs (set_bit i l e) = by_length (ltb (length bs) 8)
  where
    by_length : (t : Bool) → t && eqb (number bs) 0 ≡ false
    by_length true = ne_eqb (number bs) 0 (set_number bs i (omega arith) e)
    by_length false = refl

pub false_not_padding : (bs : List ℕ) → AreBits bs → is_padding bs ≡ false → NotPadding bs
unfolding is_padding
false_not_padding bs p e = by_length (ltb (length bs) 8) refl e
  where
    by_number : length bs < 8 → (t : Bool) → eqb (number bs) 0 ≡ t → t ≡ false → NotPadding bs
    by_number l true u e = never e
    by_number l false u e =
        let s = some_set p (eqb-false (number bs) 0 u) in
        set_bit s.at (omega (arith, s.within)) s.is

    by_length : (t : Bool) → ltb (length bs) 8 ≡ t → t && eqb (number bs) 0 ≡ false → NotPadding bs
    by_length true u e = by_number (ltb-true (length bs) 8 u) (eqb (number bs) 0) refl e
    by_length false u e = byte_follows (ltb-false (length bs) 8 u)
