-- Bytes given out from the top of a word: those of the word itself, the highest first, stored in one part of the list. Assumes nothing.
use mathlib.Core.Path.{◌≡◌, refl, sym, ◌∙◌, ap, ap₂, subst, subst₂}
use mathlib.Core.List.{List, [], ◌∷◌, ◌++◌, append_assoc}
use Prim.Native.Nat.{ℕ, zero, suc, ◌+◌, ◌-◌, ◌*◌, ◌/◌, ◌%◌, ◌^◌, ◌≤◌, ◌<◌}
use native.Mathlib.Nat.{add-mul, div-one, mod-lt, mul-le-mul_right, one-mul, pow-suc}
use native.Mathlib.Omega.{arith}
use lib.ListN.{length, take, drop, set}
use lib.Pow.{field, mod-mod-pow, pow-add, pow_pos, shr-shr}
use lib.Seq.{drop-drop}
use borrow.Rule.Slice.PartMut.{put_mid}
use Rattle.std.specs.Int.{byte_at, bytes_high_first}
use Rattle.lists.specs.Written.{Wrote}
use Rattle.lists.proofs.Again.{wrote_nothing, wrote_byte, wrote_then, wrote_same, wrote_long}
use Rattle.writing.specs.declared.Writer.{Writer}
use Rattle.writing.specs.Bytes.{pad, whole_bytes}
use Rattle.writing.proofs.Pendings.{shifted}
use Rattle.writing.specs.Pending.{given_out, last_bytes, joined_bits, MayPut, Puts}

pub length_given_out : (k c x : ℕ) → length (given_out k c x) ≡ k
length_given_out zero c x = refl
length_given_out (suc k) c x = ap suc (length_given_out k c x)

-- ---- the bytes of a word

in_bits : (k : ℕ) → 256 ^ k ≡ 2 ^ (8 * k)
in_bits zero = refl
in_bits (suc k) = pow-suc 256 k ∙ ap (λ (n : ℕ). n * 256) (in_bits k) ∙ sym (pow-add 2 (8 * k) 8) ∙ ap (λ (n : ℕ). 2 ^ n) more
  where
    more : 8 * k + 8 ≡ 8 * suc k
    more = omega arith

high_byte : (k c x : ℕ) → byte_at k (x / 2 ^ c) ≡ x / 2 ^ (8 * k + c) % 256
high_byte zero c x = ap (λ (n : ℕ). x / 2 ^ n % 256) none
  where
    none : c ≡ 8 * 0 + c
    none = omega arith
high_byte (suc k) c x =
    ap (λ (n : ℕ). x / 2 ^ c / n % 256) (in_bits (suc k)) ∙ ap (λ (n : ℕ). n % 256) (shr-shr x c (8 * suc k))
    ∙ ap (λ (n : ℕ). x / 2 ^ n % 256) other
  where
    other : c + 8 * suc k ≡ 8 * suc k + c
    other = omega arith

-- from the k-th on, without the bits below the c-th
high_bytes : (k c x : ℕ) → bytes_high_first k (x / 2 ^ c) ≡ given_out k c x
high_bytes zero c x = refl
high_bytes (suc k) c x = ap₂ (λ (b : ℕ) (l : List ℕ). b ∷ l) (high_byte k c x) (high_bytes k c x)

-- the bits above a word's do not count
low_byte : (h x m : ℕ) → m + 8 ≤ h → x % 2 ^ h / 2 ^ m % 2 ^ 8 ≡ x / 2 ^ m % 2 ^ 8
low_byte h x m l =
    ap (λ (k : ℕ). x % 2 ^ k / 2 ^ m % 2 ^ 8) whole ∙ ap (λ (n : ℕ). n % 2 ^ 8) (field x (h - m) m)
    ∙ ap (λ (k : ℕ). x / 2 ^ m % 2 ^ k % 2 ^ 8) part ∙ mod-mod-pow (x / 2 ^ m) (h - m - 8) 8
  where
    whole : h ≡ h - m + m
    whole = omega arith

    part : h - m ≡ h - m - 8 + 8
    part = omega arith

given_low : (h k x : ℕ) → 8 * k ≤ h → given_out k 0 (x % 2 ^ h) ≡ given_out k 0 x
given_low h zero x l = refl
given_low h (suc k) x l =
    ap₂ (λ (b : ℕ) (bs : List ℕ). b ∷ bs) (low_byte h x (8 * k + 0) (omega arith)) (given_low h k x (omega arith))

-- the bytes of what a word of h bits holds of x
word_bytes : (h k x : ℕ) → 8 * k ≤ h → bytes_high_first k (x % 2 ^ h) ≡ bytes_high_first k x
word_bytes h k x l = all (x % 2 ^ h) ∙ given_low h k x l ∙ sym (all x)
  where
    all : (y : ℕ) → bytes_high_first k y ≡ given_out k 0 y
    all y = ap (bytes_high_first k) (sym (div-one y)) ∙ high_bytes k 0 y

-- ---- what a part of a list holds after bytes were copied into it

wrote_part : {old new part : List ℕ} {at k : ℕ} → part ≡ new → k ≡ length new → at + length new ≤ length old
    → Wrote new at old (put_mid at k old part) (at + length new)
wrote_part {old} {new} {part} {at} {k} e long room =
    record {
      room = room;
      after = refl;
      holds =
          ap₂ (λ (l : List ℕ) (n : ℕ). take at old ++ (l ++ drop n (drop at old))) e long
          ∙ ap (λ (l : List ℕ). take at old ++ (new ++ l)) (drop-drop (length new) at old)
          ∙ sym (append_assoc (take at old) new (drop (at + length new) old));
    }

-- ---- a field below what is held

-- a number below one that was moved up
below_fits : (x k n : ℕ) → k ≤ 32 → n < 2 ^ k → x * 2 ^ k % 2 ^ 64 + n < 2 ^ 64
below_fits x k n l h = omega (arith, moved, near, ap₂ (λ (a b : ℕ). a + b) (add-mul y 1 (2 ^ k)) (one-mul (2 ^ k)), one-mul (2 ^ k), add-mul y 1 (2 ^ k), whole)
  where
    y : ℕ
    y = x % 2 ^ (64 - k)

    apart : 64 ≡ 64 - k + k
    apart = omega arith

    moved : x * 2 ^ k % 2 ^ 64 ≡ x % 2 ^ (64 - k) * 2 ^ k
    moved = ap (λ (m : ℕ). x * 2 ^ k % 2 ^ m) apart ∙ shifted x (64 - k) k

    near : (x % 2 ^ (64 - k) + 1) * 2 ^ k ≤ 2 ^ (64 - k) * 2 ^ k
    near = mul-le-mul_right (2 ^ k) (omega (arith, mod-lt x (pow_pos (64 - k))))

    whole : 2 ^ (64 - k) * 2 ^ k ≡ 2 ^ 64
    whole = sym (pow-add 2 (64 - k) k) ∙ ap (λ (m : ℕ). 2 ^ m) (sym apart)

module _ (w : Writer) {k n : ℕ} {out : List ℕ} (may : MayPut w k n out) where
  pub joined_fits : w.held * 2 ^ k % 2 ^ 64 + n < 2 ^ 64
  joined_fits = below_fits w.held k n may.narrow may.fits

  -- fewer than four bytes wait
  -- four bytes are given out
  pub put_four : 32 ≤ w.count + k → {part : List ℕ} {j : ℕ}
      → part ≡ bytes_high_first 4 ((w.held * 2 ^ k % 2 ^ 64 + n) / 2 ^ (w.count + k - 32) % 2 ^ 32) → j ≡ 4
      → Puts w k n out (put_mid w.at j out part)
      (record { at = w.at + 4; count = w.count + k - 32; held = w.held * 2 ^ k % 2 ^ 64 + n })
  put_four l {part} {j} e long =
      record {
        wrote = wrote_same bytes (wrote_part (e ∙ word_bytes 32 4 (x / 2 ^ r) (omega arith) ∙ high_bytes 4 r x) long (omega (arith, may.room)));
        counts = rest;
        holds = refl;
      }
    where
      x : ℕ
      x = w.held * 2 ^ k % 2 ^ 64 + n

      r : ℕ
      r = w.count + k - 32

      rest : w.count + k - 32 ≡ (w.count + k) % 32
      rest = omega (arith, may.few, may.narrow)

      one : (w.count + k) / 32 ≡ 1
      one = omega (arith, may.few, may.narrow)

      bytes : given_out 4 r x ≡ given_out (4 * ((w.count + k) / 32)) ((w.count + k) % 32) (joined_bits w k n)
      bytes = ap₂ (λ (q c : ℕ). given_out (4 * q) c x) (sym one) rest

-- the next byte is the one below
given_more : (k c x : ℕ) → given_out k (8 + c) x ++ x / 2 ^ c % 256 ∷ [] ≡ given_out (suc k) c x
given_more zero c x = ap (λ (n : ℕ). x / 2 ^ n % 256 ∷ []) none
  where
    none : c ≡ 8 * 0 + c
    none = omega arith
given_more (suc k) c x =
    ap₂ (λ (n : ℕ) (l : List ℕ). x / 2 ^ n % 256 ∷ l) far (given_more k c x)
  where
    far : 8 * k + (8 + c) ≡ 8 * suc k + c
    far = omega arith

-- of b bytes all but k are given out
pub record Closing (x b at : ℕ) (old now : List ℕ) (k : ℕ) : Type 0 where
  pub wrote : Wrote (given_out (b - k) (8 * k) x) at old now (at + b - k)
  pub room : at + b ≤ length old

pub closing_none : {x b at : ℕ} {old : List ℕ} → at + b ≤ length old → Closing x b at old old b
closing_none {x} {b} {at} {old} room =
    record {
      wrote =
          subst₂ (λ (n q : ℕ). Wrote (given_out n (8 * b) x) at old old q) none here (wrote_nothing (omega arith));
      room = room;
    }
  where
    none : 0 ≡ b - b
    none = omega arith

    here : at ≡ at + b - b
    here = omega arith

module _ {x b at k : ℕ} {old now : List ℕ} (g : Closing x b at old now k) where
  pub closing_one : {j : ℕ} → k ≡ suc j → k ≤ b → Closing x b at old (set now (at + b - 1 - j) (x / 2 ^ (8 * j) % 256)) j
  closing_one {j} below all =
      record {
        wrote =
            subst₂ (λ (p q : ℕ). Wrote (given_out (b - j) (8 * j) x) at old (set now p (x / 2 ^ (8 * j) % 256)) q) place next
            (wrote_same
            (ap (λ (n : ℕ). given_out (b - k) n x ++ x / 2 ^ (8 * j) % 256 ∷ []) eight ∙ given_more (b - k) (8 * j) x
            ∙ ap (λ n. given_out n (8 * j) x) one)
            (wrote_then g.wrote (wrote_byte (x / 2 ^ (8 * j) % 256) (omega (arith, wrote_long g.wrote, g.room)))));
        room = g.room;
      }
    where
      place : at + b - k ≡ at + b - 1 - j
      place = omega arith

      next : at + b - k + 1 ≡ at + b - j
      next = omega arith

      eight : 8 * k ≡ 8 + 8 * j
      eight = omega arith

      one : suc (b - k) ≡ b - j
      one = omega arith

pub closing_all : (w : Writer) {b p at k : ℕ} {old now : List ℕ} → Closing (w.held * 2 ^ p % 2 ^ 64) b at old now k → k ≤ 0
    → w.count < 32 → b ≡ whole_bytes w.count → p ≡ pad w.count → Wrote (last_bytes w.count w.held) at old now (at + b)
closing_all w {b} {p} {at} {k} {old} {now} g none few many padding =
    subst (Wrote (last_bytes w.count w.held) at old now) end (wrote_same bytes g.wrote)
  where
    end : at + b - k ≡ at + b
    end = omega arith

    bytes : given_out (b - k) (8 * k) (w.held * 2 ^ p % 2 ^ 64) ≡ last_bytes w.count w.held
    bytes =
        (λ i. given_out (whole i) (low i) (w.held * 2 ^ padding i % 2 ^ 64))
        ∙ given_low 64 (whole_bytes w.count) (w.held * 2 ^ pad w.count) (omega arith)
      where
        whole : b - k ≡ whole_bytes w.count
        whole = omega arith

        low : 8 * k ≡ 0
        low = omega arith
