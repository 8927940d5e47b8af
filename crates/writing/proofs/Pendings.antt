-- A writer of bits that gives out whole bytes: a field put below what is pending, a byte given out, the last one. Assumes nothing.
use mathlib.Core.Path.{◌≡◌, refl, sym, ◌∙◌, ap, ap₂, subst}
use mathlib.Core.List.{List, [], ◌∷◌, ◌++◌, append_assoc, append-nil}
use Prim.Native.Nat.{ℕ, zero, suc, ◌+◌, ◌-◌, ◌*◌, ◌/◌, ◌%◌, ◌^◌, ◌≤◌, ◌<◌}
use native.Mathlib.Nat.{mod-lt, zero-mod}
use native.Mathlib.Omega.{arith}
use lib.Dec.{lit<}
use lib.ListN.{length, replicate, length-append}
use lib.Pow.{low, mod-pow-add, pow_pos, shl-shr}
use Rattle.bits.specs.Bits.{to_bits, bits}
use Rattle.bits.proofs.Digits.{to_bits_are, length_to_bits, number_to_bits}
use Rattle.bits.proofs.Gather.{length_bits, bits_append}
use Rattle.writing.specs.Bytes as bytes
use Rattle.writing.specs.Bytes.{pad, whole_bytes, bytes_of, AreBytes}
use Rattle.writing.specs.Pending.{Pending, given_out, last_bytes}
use Rattle.writing.proofs.Bits.{to_bits_low, to_bits_split, to_bits_join, all_zeros, bytes_of_bits}

-- ---- bytes at the end

pub bytes_append : {s t : List ℕ} → AreBytes s → AreBytes t → AreBytes (s ++ t)
bytes_append bytes.none q = q
bytes_append (bytes.more l p) q = bytes.more l (bytes_append p q)

bits_one : (b : ℕ) → bits (b ∷ []) ≡ to_bits 8 b
unfolding bits
bits_one b = append-nil (to_bits 8 b)

bits_snoc : (s : List ℕ) (b : ℕ) → bits (s ++ b ∷ []) ≡ bits s ++ to_bits 8 b
bits_snoc s b = bits_append s (b ∷ []) ∙ ap (λ (l : List ℕ). bits s ++ l) (bits_one b)

-- ---- the laws

pub nothing_pending : (x : ℕ) → Pending [] [] 0 x
unfolding to_bits bits
nothing_pending x = record { so_far = refl; bytes = bytes.none }

-- a field of w bits
pub put : {all out : List ℕ} {c x : ℕ} (w n : ℕ) → n < 2 ^ w → Pending all out c x → Pending (all ++ to_bits w n) out (c + w) (x * 2 ^ w + n)
put {all} {out} {c} {x} w n l p =
    record {
      so_far =
          ap (λ (t : List ℕ). bits out ++ t) (sym (to_bits_join c w x n l)) ∙ sym (append_assoc (bits out) (to_bits c x) (to_bits w n))
          ∙ ap (λ (t : List ℕ). t ++ to_bits w n) p.so_far;
      bytes = p.bytes;
    }

-- the bits above those that are pending do not count
pub masked : {all out : List ℕ} {c x : ℕ} (k : ℕ) → c ≤ k → Pending all out c x → Pending all out c (x % 2 ^ k)
masked {all} {out} {c} {x} k l p =
    record { so_far = ap (λ (t : List ℕ). bits out ++ t) (ap (λ (n : ℕ). to_bits c (x % 2 ^ n)) apart ∙ to_bits_low (k - c) c x) ∙ p.so_far; bytes = p.bytes }
  where
    apart : k ≡ k - c + c
    apart = omega arith

-- a shift up in a word drops only bits that do not count
pub shifted : (x j w : ℕ) → x * 2 ^ w % 2 ^ (j + w) ≡ x % 2 ^ j * 2 ^ w
shifted x j w =
    mod-pow-add (x * 2 ^ w) j w ∙ ap₂ (λ (m n : ℕ). m % 2 ^ j * 2 ^ w + n) (shl-shr x w) none ∙ (omega arith)
  where
    none : x * 2 ^ w % 2 ^ w ≡ 0
    none = ap (λ (n : ℕ). n % 2 ^ w) plus ∙ low x w (pow_pos w)
      where
        plus : x * 2 ^ w ≡ x * 2 ^ w + 0
        plus = omega arith

-- a field of w bits into a word of k
pub put_word : {all out : List ℕ} {c x : ℕ} (k w n : ℕ) → c + w ≤ k → n < 2 ^ w → Pending all out c x → Pending (all ++ to_bits w n) out (c + w) (x * 2 ^ w % 2 ^ k + n)
put_word {all} {out} {c} {x} k w n l h p =
    subst (λ (y : ℕ). Pending (all ++ to_bits w n) out (c + w) (y + n)) (sym (ap (λ (m : ℕ). x * 2 ^ w % 2 ^ m) apart ∙ shifted x (k - w) w))
    (put w n h (masked (k - w) (omega arith) p))
  where
    apart : k ≡ k - w + w
    apart = omega arith

-- one byte is given out
pub give : {all out : List ℕ} {c x : ℕ} → Pending all out (8 + c) x → Pending all (out ++ x / 2 ^ c % 256 ∷ []) c x
give {all} {out} {c} {x} p =
    record {
      so_far =
          ap (λ (t : List ℕ). t ++ to_bits c x) (bits_snoc out (x / 2 ^ c % 256) ∙ ap (λ (t : List ℕ). bits out ++ t) (to_bits_low 0 8 (x / 2 ^ c)))
          ∙ append_assoc (bits out) (to_bits 8 (x / 2 ^ c)) (to_bits c x) ∙ ap (λ (t : List ℕ). bits out ++ t) (to_bits_split 8 c x) ∙ p.so_far;
      bytes = bytes_append p.bytes (bytes.more (mod-lt (x / 2 ^ c) (lit< tt)) bytes.none);
    }

-- all the whole bytes
pub give_all : (k : ℕ) {all out : List ℕ} {c x : ℕ} → Pending all out (8 * k + c) x → Pending all (out ++ given_out k c x) c x
give_all zero {all} {out} {c} {x} p = subst (λ (o : List ℕ). Pending all o c x) (sym (append-nil out)) (subst (λ (n : ℕ). Pending all out n x) none p)
  where
    none : 8 * 0 + c ≡ c
    none = omega arith
give_all (suc k) {all} {out} {c} {x} p =
    subst (λ (o : List ℕ). Pending all o c x) (append_assoc out (x / 2 ^ (8 * k + c) % 256 ∷ []) (given_out k c x))
    (give_all k (give (subst (λ (n : ℕ). Pending all out n x) more p)))
  where
    more : 8 * suc k + c ≡ 8 + (8 * k + c)
    more = omega arith

-- a field of w bits put into a word of 64, and of the bits that are pending then k bytes given out
pub write_field : {all out : List ℕ} {c x : ℕ} (k r w n : ℕ) → c + w ≤ 64 → c + w ≡ 8 * k + r → n < 2 ^ w → Pending all out c x
    → Pending (all ++ to_bits w n) (out ++ given_out k r (x * 2 ^ w % 2 ^ 64 + n)) r (x * 2 ^ w % 2 ^ 64 + n)
write_field {all} {out} {c} {x} k r w n l e h p =
    give_all k
    (subst (λ (m : ℕ). Pending (all ++ to_bits w n) out m (x * 2 ^ w % 2 ^ 64 + n)) e (put_word 64 w n l h p))

-- how many are given out
pub pending_long : {all out : List ℕ} {c x : ℕ} → Pending all out c x → 8 * length out + c ≡ length all
pending_long {all} {out} {c} {x} p =
    sym (ap length (sym p.so_far) ∙ length-append (bits out) (to_bits c x) ∙ ap₂ (λ (m n : ℕ). m + n) (length_bits out) (length_to_bits c x))

zero_bits : (n : ℕ) → to_bits n 0 ≡ replicate n 0
zero_bits n =
    all_zeros (to_bits_are n 0) (number_to_bits n 0 ∙ zero-mod (2 ^ n)) ∙ ap (λ (m : ℕ). replicate m 0) (length_to_bits n 0)

no_bits : (x : ℕ) → to_bits 0 x ≡ []
unfolding to_bits
no_bits x = refl

-- at the end: what is pending, with zeros below it
pub close : {all out : List ℕ} {c x : ℕ} → Pending all out c x → bytes_of all ≡ out ++ last_bytes c x
close {all} {out} {c} {x} p =
    bytes_of_bits all (pad c) q.bytes holds (omega arith)
  where
    whole : c + pad c ≡ 8 * whole_bytes c + 0
    whole = omega arith

    q : Pending (all ++ to_bits (pad c) 0) (out ++ last_bytes c x) 0 (x * 2 ^ pad c)
    q =
        subst (λ (y : ℕ). Pending (all ++ to_bits (pad c) 0) (out ++ given_out (whole_bytes c) 0 y) 0 y) (zero_below (x * 2 ^ pad c))
        (give_all (whole_bytes c)
        (subst (λ (m : ℕ). Pending (all ++ to_bits (pad c) 0) out m (x * 2 ^ pad c + 0)) whole (put (pad c) 0 (pow_pos (pad c)) p)))
      where
        zero_below : (n : ℕ) → n + 0 ≡ n
        zero_below n = omega arith

    holds : bits (out ++ last_bytes c x) ≡ all ++ replicate (pad c) 0
    holds =
        sym (append-nil (bits (out ++ last_bytes c x)))
        ∙ ap (λ (t : List ℕ). bits (out ++ last_bytes c x) ++ t) (sym (no_bits (x * 2 ^ pad c))) ∙ q.so_far
        ∙ ap (λ (t : List ℕ). all ++ t) (zero_bits (pad c))
