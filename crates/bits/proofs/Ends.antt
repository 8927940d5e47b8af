-- The eight bytes where they may end, one more in front at a time; what is ahead of a cursor. Assumes nothing.
use mathlib.Core.Path.{◌≡◌, sym, ◌∙◌, ap}
use mathlib.Core.List.{List}
use mathlib.Core.Logic.{◌⊎◌, inl, inr}
use Prim.Native.Nat.{ℕ, ◌+◌, ◌-◌, ◌*◌, ◌/◌, ◌%◌, ◌^◌, ◌≤◌, ◌<◌}
use native.Mathlib.Nat.{add_assoc, le_refl}
use native.Mathlib.Numerals.{towards_suc}
use native.Mathlib.Omega.{arith}
use lib.Dec.{lit<}
use lib.ListN.{length, get_or, take, length-drop, get_or-eq_default}
use lib.Pow.{field, mod-mod-pow, shr-shr, shl-shr}
use lib.Seq.{drop-drop}
use Rattle.bits.specs.declared.Cursor.{Cursor}
use Rattle.bits.specs.Bits.{bits, number, window_number, WindowBytes, IsWindow}
use Rattle.bits.specs.Fields.{before, Ahead, IsAhead}
use Rattle.bits.proofs.Gather.{field_gather, length_bits}

-- past the end all are 0
pub window_none : (s : List ℕ) (i : ℕ) → length s ≤ i → IsWindow s i 0
window_none s i l =
    record {
      is = omega (arith, first, none 1, none 2, none 3, none 4, none 5, none 6, none 7);
      bytes = (rw first (lit< tt), small 1, small 2, small 3, small 4, small 5, small 6, small 7);
    }
  where
    none : (j : ℕ) → get_or s (i + j) 0 ≡ 0
    none j = get_or-eq_default s 0 (omega arith)

    first : get_or s i 0 ≡ 0
    first = get_or-eq_default s 0 l

    small : (j : ℕ) → get_or s (i + j) 0 < 256
    small j = rw (none j) (lit< tt)

moved : (a b c d e f g h z : ℕ) → z < 256
    → a * 2 ^ 56 + (b * 2 ^ 56 + c * 2 ^ 48 + d * 2 ^ 40 + e * 2 ^ 32 + f * 2 ^ 24 + g * 2 ^ 16 + h * 2 ^ 8 + z) / 256
    ≡ a * 2 ^ 56 + b * 2 ^ 48 + c * 2 ^ 40 + d * 2 ^ 32 + e * 2 ^ 24 + f * 2 ^ 16 + g * 2 ^ 8 + h
moved a b c d e f g h z l = omega arith

-- one byte in front of a window: it goes on top, and the last one falls out
window_front : (s : List ℕ) (p : ℕ) → get_or s p 0 < 256 → WindowBytes s (p + 1)
    → (get_or s p 0 * 2 ^ 56 + window_number s (p + 1) / 256 ≡ window_number s p) × WindowBytes s p
window_front s p l w =
    let u = simp towards_suc at w in
    simp towards_suc
    (moved (get_or s p 0) _ _ _ _ _ _ _ _ u.7, (l, u.0, u.1, u.2, u.3, u.4, u.5, u.6))

-- the byte before k was read
pub window_back : (s : List ℕ) {k v b : ℕ} → b ≡ get_or s (k - 1) 0 → b < 256 → 0 < k → IsWindow s k v
    → IsWindow s (k - 1) (b * 2 ^ 56 + v / 256)
window_back s {k} {v} {b} e l m w =
    let up : k ≡ k - 1 + 1 = omega arith in
    let u : IsWindow s (k - 1 + 1) v = rw up at w in
    let f = window_front s (k - 1) (rw e at l) u.bytes in
    record {
      is =
          ap (λ n. n * 2 ^ 56 + v / 256) e ∙ ap (λ n. get_or s (k - 1) 0 * 2 ^ 56 + n / 256) u.is ∙ f.0;
      bytes = f.1;
    }

-- going back from the end: so far the window at k, which is at i or further on, or at the end
pub record GoneBack (s : List ℕ) (i k v : ℕ) : Type 0 where
  pub window : IsWindow s k v
  pub within : k ≤ length s
  pub from : (i ≤ k) ⊎ (length s ≤ k)

pub at_the_end : (s : List ℕ) {i : ℕ} → GoneBack s i (length s) 0
at_the_end s = record { window = window_none s (length s) (le_refl _); within = le_refl _; from = inr (le_refl _) }

pub one_back : (s : List ℕ) {i k v b : ℕ} → GoneBack s i k v → i < k → b ≡ get_or s (k - 1) 0 → b < 256
    → GoneBack s i (k - 1) (b * 2 ^ 56 + v / 256)
one_back s g l e m =
    record {
      window =
          window_back s e m (omega arith) g.window;
      within = omega (arith, g.within);
      from = inl (omega arith);
    }

-- where going back stops: at i, or at the end if that is before i
pub gone_back : (s : List ℕ) {i k v : ℕ} → GoneBack s i k v → k ≤ i → IsWindow s i v
gone_back s {i} {k} {v} g l = by_place g.from
  where
    by_place : (i ≤ k) ⊎ (length s ≤ k) → IsWindow s i v
    by_place (inl m) = let e : k ≡ i = omega arith in rw e at g.window
    by_place (inr m) =
        rw (g.window.is ∙ sym (window_none s k m).is) (window_none s i (omega arith))

-- four bytes in front of a window: they go on top, and its last four fall out
pub four_front : (s : List ℕ) (p : ℕ) {a b c d v : ℕ} → (a ≡ get_or s p 0) × (a < 256) → (b ≡ get_or s (p + 1) 0) × (b < 256)
    → (c ≡ get_or s (p + 2) 0) × (c < 256) → (d ≡ get_or s (p + 3) 0) × (d < 256) → IsWindow s (p + 4) v
    → IsWindow s p ((a * 2 ^ 24 + b * 2 ^ 16 + (c * 2 ^ 8 + d)) * 2 ^ 32 + v / 2 ^ 32)
four_front s p {a} {b} {c} {d} {v} la lb lc ld w =
    record {
      is = omega (arith, la, lb, lc, ld, w.is, w.bytes, same 1, same 2, same 3);
      bytes = (
        rw la.0 at la.1,
        rw lb.0 at lb.1,
        rw lc.0 at lc.1,
        rw ld.0 at ld.1,
        w.bytes.0,
        rw (same 1) at w.bytes.1,
        rw (same 2) at w.bytes.2,
        rw (same 3) at w.bytes.3,
      );
    }
  where
    same : (j : ℕ) → get_or s (p + 4 + j) 0 ≡ get_or s (p + (4 + j)) 0
    same j = ap (λ (n : ℕ). get_or s n 0) (add_assoc p 4 j)

-- a number moved up by k bits: what was k bits further down is found at the same distance from the top
pub lifted : (r k o w : ℕ) → k + (o + w) ≤ 64
    → r * 2 ^ k % 2 ^ 64 / 2 ^ (64 - (o + w)) % 2 ^ w ≡ r / 2 ^ (64 - k - (o + w)) % 2 ^ w
lifted r k o w l =
    ap (λ (n : ℕ). r * 2 ^ k % 2 ^ n / 2 ^ (64 - (o + w)) % 2 ^ w) whole
    ∙ ap (λ (n : ℕ). r * 2 ^ k % 2 ^ ((o + w) + (k + b)) / 2 ^ n % 2 ^ w) part
    ∙ ap (λ (n : ℕ). n % 2 ^ w) (field (r * 2 ^ k) (o + w) (k + b)) ∙ mod-mod-pow (r * 2 ^ k / 2 ^ (k + b)) o w
    ∙ ap (λ (n : ℕ). n % 2 ^ w) (sym (shr-shr (r * 2 ^ k) k b) ∙ ap (λ (n : ℕ). n / 2 ^ b) (shl-shr r k))
  where
    b : ℕ
    b = 64 - k - (o + w)

    whole : 64 ≡ (o + w) + (k + b)
    whole = omega arith

    part : 64 - (o + w) ≡ k + b
    part = omega arith

-- the window that a cursor stands in, moved up to the cursor
module _ (s : List ℕ) (c : Cursor) {r : ℕ} (win : IsWindow s (c.at / 8) r) where
  fields_ahead : Ahead 57 (before s c) (r * 2 ^ (c.at % 8) % 2 ^ 64)
  fields_ahead o w some near long =
      let at = c.at in
      let below : 64 - at % 8 - (o + w) ≡ 64 - at % 8 - o - w = omega arith in
      lifted r (at % 8) o w (omega arith)
      ∙ ap (λ (n : ℕ). n / 2 ^ (64 - at % 8 - (o + w)) % 2 ^ w) win.is
      ∙ ap (λ (n : ℕ). window_number s (at / 8) / 2 ^ n % 2 ^ w) below
      ∙ sym (field_gather s at o w (omega arith) (omega (arith, length-drop at (bits s), length_bits s)) win.bytes)
      ∙ ap (λ (l : List ℕ). number (take w l)) (sym (drop-drop o at (bits s)))

  pub window_ahead : IsAhead s c (r * 2 ^ (c.at % 8) % 2 ^ 64)
  window_ahead = record { is = ap (λ n. n * 2 ^ (c.at % 8) % 2 ^ 64) win.is; fields = fields_ahead }
