-- Bytes written into a list: nothing, one byte, more right behind what was written before, and a word byte by byte.
-- Assumes nothing.
use mathlib.Core.Path.{◌≡◌, refl, sym, ◌∙◌, ap, ap₂, subst}
use mathlib.Core.List.{List, [], ◌∷◌, ◌++◌, append_assoc, append-nil}
use Prim.Native.Nat.{ℕ, suc, ◌+◌, ◌≤◌, ◌<◌}
use native.Mathlib.Nat.{add-zero}
use native.Mathlib.Numerals.{add-one}
use native.Mathlib.Omega.{arith}
use lib.ListN.{length, get_or, take, drop, set, take-append-drop, length-append, length-drop}
use lib.Seq.{take_at, take_all, take-suc, drop_at, drop-drop, set_split, append_snoc, length-take-le}
use Rattle.lists.specs.Written.{written, Wrote}

module _ (at : ℕ) (a old : List ℕ) (inside : at ≤ length old) where
  head_long : length (take at old ++ a) ≡ at + length a
  head_long = omega (arith, length-append (take at old) a, length-take-le at old inside)

  -- what stands from any place behind the written bytes on is as it was
  behind : (n : ℕ) → drop (at + length a + n) (written at a old) ≡ drop (at + length a + n) old
  behind n =
      sym (drop-drop n (at + length a) (written at a old))
      ∙ ap (drop n) (drop_at (take at old ++ a) (drop (at + length a) old) (at + length a) head_long)
      ∙ drop-drop n (at + length a) old

  written_again : (b : List ℕ) → written (at + length a) b (written at a old) ≡ written at (a ++ b) old
  written_again b =
      let joined : at + length a + length b ≡ at + length (a ++ b) = omega (arith, length-append a b) in
      ap₂ (λ (front : List ℕ) (back : List ℕ). front ++ b ++ back)
      (take_at (take at old ++ a) (drop (at + length a) old) (at + length a) head_long)
      (behind (length b))
      ∙ ap₂ (λ (front : List ℕ) (n : ℕ). front ++ drop n old) (append_assoc (take at old) a b) joined

module _ {new old now : List ℕ} {at next : ℕ} (w : Wrote new at old now next) where
  pub wrote_long : length now ≡ length old
  wrote_long =
      let parts = length-append (take at old ++ new) (drop (at + length new) old) in
      let front = head_long at new old (omega (arith, w.room)) in
      omega (arith, w.room, ap length w.holds, parts, front, length-drop (at + length new) old)

  pub wrote_inside : next ≤ length now
  wrote_inside = omega (arith, wrote_long, w.room, w.after)

  pub wrote_then : {b last : List ℕ} {q : ℕ} → Wrote b next now last q → Wrote (new ++ b) at old last q
  wrote_then {b} v =
      let long = length-append new b in
      record {
        room = omega (arith, v.room, w.after, wrote_long, long);
        after = omega (arith, v.after, w.after, long);
        holds =
            v.holds ∙ ap₂ (λ (p : ℕ) (l : List ℕ). written p b l) w.after w.holds
            ∙ written_again at new old (omega (arith, w.room)) b;
      }

pub wrote_same : {a b old now : List ℕ} {at q : ℕ} → a ≡ b → Wrote a at old now q → Wrote b at old now q
wrote_same {old = old} {now = now} {at = at} {q = q} e w = subst (λ (l : List ℕ). Wrote l at old now q) e w

pub wrote_nothing : {at : ℕ} {old : List ℕ} → at ≤ length old → Wrote [] at old old at
wrote_nothing {at} {old} inside =
    record {
      room = omega arith;
      after = sym (add-zero at);
      holds =
          sym (ap₂ (λ (front : List ℕ) (n : ℕ). front ++ drop n old) (append-nil (take at old)) (add-zero at)
          ∙ take-append-drop at old);
    }

pub wrote_byte : {at : ℕ} (b : ℕ) {old : List ℕ} → at < length old → Wrote (b ∷ []) at old (set old at b) (at + 1)
wrote_byte {at} b {old} inside =
    record {
      room = omega arith;
      after = refl;
      holds =
          set_split old at b inside ∙ sym (append_snoc (take at old) b (drop (suc at) old))
          ∙ ap (λ (n : ℕ). take at old ++ (b ∷ []) ++ drop n old) (sym (add-one at));
    }

-- bytes behind one byte
pub wrote_behind : {old mid now b : List ℕ} {at p q x : ℕ} → Wrote (x ∷ []) at old mid p → Wrote b p mid now q
    → Wrote (x ∷ b) at old now q
wrote_behind w v = wrote_then w v

-- a word of which i bytes are written
module _ (word : List ℕ) {old now : List ℕ} {at p i : ℕ} where
  pub wrote_room : Wrote (take i word) at old now p → i < length word → at + length word ≤ length old → p < length now
  wrote_room w l r = omega (arith, wrote_long w, w.after, length-take-le i word (omega arith))

  pub wrote_next : {new : List ℕ} {q : ℕ} → Wrote (take i word) at old now p → i < length word
      → Wrote (get_or word i 0 ∷ []) p now new q → Wrote (take (i + 1) word) at old new q
  wrote_next w l v = wrote_same (sym (ap (λ (n : ℕ). take n word) (add-one i) ∙ take-suc word i 0 l)) (wrote_then w v)

  pub wrote_whole : Wrote (take i word) at old now p → length word ≤ i → Wrote word at old now p
  wrote_whole w l = wrote_same (take_all i word l) w
