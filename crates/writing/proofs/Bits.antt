-- Lists of bits: equal where they are as long and stand for the same number; cut into bytes and joined again. Assumes
-- nothing.
use mathlib.Core.Path.{◌≡◌, refl, sym, ◌∙◌, ap, ap₂, subst}
use mathlib.Core.List.{List, ◌∷◌, ◌++◌}
use Prim.Native.Nat.{ℕ, zero, suc, ◌+◌, ◌*◌, ◌/◌, ◌%◌, ◌^◌, ◌≤◌, ◌<◌}
use native.Mathlib.Nat.{mod-eq_of_lt}
use native.Mathlib.Omega.{arith}
use lib.Dec.{lit<}
use lib.ListN.{length, take, drop, replicate, length-append, length-take, length-drop, length-replicate, take-append-drop}
use lib.Pow.{high, low, mod-pow-add, mod-mod-pow, pow_mono}
use lib.Seq.{length-take-le, take_at, drop_at}
use Rattle.bits.specs.Bits.{to_bits, bits, number}
use Rattle.bits.proofs.Digits.{AreBits, none, more, are_bits_append, are_bits_take, are_bits_drop, to_bits_are, number_lt}
use Rattle.bits.proofs.Digits.{number_append, length_to_bits, number_to_bits}
use Rattle.bits.proofs.Gather.{length_bits}
use Rattle.writing.specs.Bytes as bytes
use Rattle.writing.specs.Bytes.{pad, whole_bytes, cut_bytes, bytes_of, AreBytes}

-- ---- as long, and the same number

pub same_bits : {xs ys : List ℕ} → AreBits xs → AreBits ys → length xs ≡ length ys → number xs ≡ number ys → xs ≡ ys
unfolding number
same_bits none none l e = refl
same_bits none (more {bs} h q) l e = absurd (let z : 0 ≡ suc (length bs) = l in omega arith)
same_bits (more {bs} h p) none l e = absurd (let z : suc (length bs) ≡ 0 = l in omega arith)
same_bits (more {b} {bs} h p) (more {b = d} {bs = ds} k q) l e = ap₂ (λ (x : ℕ) (xs : List ℕ). x ∷ xs) first (same_bits p q long rest)
  where
    long : length bs ≡ length ds
    long = let z : suc (length bs) ≡ suc (length ds) = l in omega arith

    small : number ds < 2 ^ length bs
    small = subst (λ (n : ℕ). number ds < 2 ^ n) (sym long) (number_lt q)

    even : b * 2 ^ length bs + number bs ≡ d * 2 ^ length bs + number ds
    even = e ∙ ap (λ (n : ℕ). d * 2 ^ n + number ds) (sym long)

    first : b ≡ d
    first = sym (high b (length bs) (number_lt p)) ∙ ap (λ (n : ℕ). n / 2 ^ length bs) even ∙ high d (length bs) small

    rest : number bs ≡ number ds
    rest = sym (low b (length bs) (number_lt p)) ∙ ap (λ (n : ℕ). n % 2 ^ length bs) even ∙ low d (length bs) small

pub zeros_are : (n : ℕ) → AreBits (replicate n 0)
zeros_are zero = none
zeros_are (suc n) = more (lit< tt) (zeros_are n)

pub number_zeros : (n : ℕ) → number (replicate n 0) ≡ 0
unfolding number
number_zeros zero = refl
number_zeros (suc n) = omega (arith, number_zeros n)

-- bits that stand for 0 are zeros
pub all_zeros : {bs : List ℕ} → AreBits bs → number bs ≡ 0 → bs ≡ replicate (length bs) 0
all_zeros {bs} p e = same_bits p (zeros_are (length bs)) (sym (length-replicate (length bs) 0)) (e ∙ sym (number_zeros (length bs)))

-- the bits of a number, and the number of bits
pub to_bits_number : {xs : List ℕ} → AreBits xs → to_bits (length xs) (number xs) ≡ xs
to_bits_number {xs} p = same_bits (to_bits_are (length xs) (number xs)) p (length_to_bits (length xs) (number xs)) (number_to_bits (length xs) (number xs) ∙ mod-eq_of_lt (number_lt p))

-- the low bits alone count
pub to_bits_low : (j k x : ℕ) → to_bits k (x % 2 ^ (j + k)) ≡ to_bits k x
to_bits_low j k x =
    same_bits (to_bits_are k (x % 2 ^ (j + k))) (to_bits_are k x) (length_to_bits k (x % 2 ^ (j + k)) ∙ sym (length_to_bits k x))
    (number_to_bits k (x % 2 ^ (j + k)) ∙ mod-mod-pow x j k ∙ sym (number_to_bits k x))

-- the bits above the k-th and those below
pub to_bits_split : (j k x : ℕ) → to_bits j (x / 2 ^ k) ++ to_bits k x ≡ to_bits (j + k) x
to_bits_split j k x =
    same_bits (are_bits_append (to_bits_are j (x / 2 ^ k)) (to_bits_are k x)) (to_bits_are (j + k) x)
    (length-append (to_bits j (x / 2 ^ k)) (to_bits k x) ∙ ap₂ (λ (m n : ℕ). m + n) (length_to_bits j (x / 2 ^ k)) (length_to_bits k x) ∙ sym (length_to_bits (j + k) x))
    (number_append (to_bits j (x / 2 ^ k)) (to_bits k x)
    ∙ ap₂ (λ (m n : ℕ). m * 2 ^ length (to_bits k x) + n) (number_to_bits j (x / 2 ^ k)) (number_to_bits k x)
    ∙ ap (λ (n : ℕ). x / 2 ^ k % 2 ^ j * 2 ^ n + x % 2 ^ k) (length_to_bits k x)
    ∙ sym (mod-pow-add x j k) ∙ sym (number_to_bits (j + k) x))

-- a field of w bits below x
pub to_bits_join : (c w x n : ℕ) → n < 2 ^ w → to_bits c x ++ to_bits w n ≡ to_bits (c + w) (x * 2 ^ w + n)
to_bits_join c w x n l =
    ap₂ (λ (a b : List ℕ). a ++ b) (ap (to_bits c) (sym (high x w l))) below ∙ to_bits_split c w (x * 2 ^ w + n)
  where
    below : to_bits w n ≡ to_bits w (x * 2 ^ w + n)
    below =
        same_bits (to_bits_are w n) (to_bits_are w (x * 2 ^ w + n)) (length_to_bits w n ∙ sym (length_to_bits w (x * 2 ^ w + n)))
        (number_to_bits w n ∙ mod-eq_of_lt l ∙ sym (number_to_bits w (x * 2 ^ w + n) ∙ low x w l))

-- ---- bytes

-- cut into bytes and joined again
pub bits_cut : (k : ℕ) {bs : List ℕ} → AreBits bs → length bs ≡ 8 * k → bits (cut_bytes k bs) ≡ bs
unfolding bits
bits_cut zero none e = refl
bits_cut zero (more {bs} h p) e = absurd (let z : suc (length bs) ≡ 8 * 0 = e in omega arith)
bits_cut (suc k) {bs} p e =
    ap₂ (λ (a b : List ℕ). a ++ b) (ap (λ (n : ℕ). to_bits n (number (take 8 bs))) (sym front_long) ∙ to_bits_number (are_bits_take 8 p))
    (bits_cut k (are_bits_drop 8 p) (omega (arith, length-drop 8 bs)))
    ∙ take-append-drop 8 bs
  where
    front_long : length (take 8 bs) ≡ 8
    front_long = length-take-le 8 bs (omega arith)

-- joined and cut again
pub cut_bits : {s : List ℕ} → AreBytes s → cut_bytes (length s) (bits s) ≡ s
unfolding bits
cut_bits bytes.none = refl
cut_bits (bytes.more {b} {s} l p) =
    ap₂ (λ (x : ℕ) (xs : List ℕ). x ∷ xs)
    (ap number (take_at (to_bits 8 b) (bits s) 8 (length_to_bits 8 b)) ∙ number_to_bits 8 b ∙ mod-eq_of_lt l)
    (ap (cut_bytes (length s)) (drop_at (to_bits 8 b) (bits s) 8 (length_to_bits 8 b)) ∙ cut_bits p)

pub length_cut : (k : ℕ) (bs : List ℕ) → length (cut_bytes k bs) ≡ k
length_cut zero bs = refl
length_cut (suc k) bs = ap suc (length_cut k (drop 8 bs))

pub cut_are : (k : ℕ) {bs : List ℕ} → AreBits bs → AreBytes (cut_bytes k bs)
cut_are zero p = bytes.none
cut_are (suc k) {bs} p = bytes.more {b = number (take 8 bs)} (omega (arith, number_lt (are_bits_take 8 p), pow_le)) (cut_are k (are_bits_drop 8 p))
  where
    pow_le : 2 ^ length (take 8 bs) ≤ 2 ^ 8
    pow_le = pow_mono {j = 8} (omega (arith, length-take 8 bs))

pad_whole : (n : ℕ) → n + pad n ≡ 8 * whole_bytes n
pad_whole n = omega arith

-- the bytes of bits hold them, and then zeros
pub bits_bytes_of : {bs : List ℕ} → AreBits bs → bits (bytes_of bs) ≡ bs ++ replicate (pad (length bs)) 0
unfolding bytes_of
bits_bytes_of {bs} p =
    bits_cut (whole_bytes (length bs)) (are_bits_append p (zeros_are (pad (length bs))))
    (length-append bs (replicate (pad (length bs)) 0) ∙ ap (λ (n : ℕ). length bs + n) (length-replicate (pad (length bs)) 0) ∙ pad_whole (length bs))

-- and no other bytes do
pub bytes_of_bits : {s : List ℕ} (bs : List ℕ) (k : ℕ) → AreBytes s → bits s ≡ bs ++ replicate k 0 → k < 8 → bytes_of bs ≡ s
unfolding bytes_of
bytes_of_bits {s} bs k p e l =
    ap₂ (λ (m n : ℕ). cut_bytes m (bs ++ replicate n 0)) many less ∙ ap (cut_bytes (length s)) (sym e) ∙ cut_bits p
  where
    long : 8 * length s ≡ length bs + k
    long = sym (length_bits s) ∙ ap length e ∙ length-append bs (replicate k 0) ∙ ap (λ (n : ℕ). length bs + n) (length-replicate k 0)

    many : whole_bytes (length bs) ≡ length s
    many = omega (arith, long)

    less : pad (length bs) ≡ k
    less = omega (arith, long)

pub length_bytes_of : (bs : List ℕ) → length (bytes_of bs) ≡ whole_bytes (length bs)
unfolding bytes_of
length_bytes_of bs = length_cut (whole_bytes (length bs)) (bs ++ replicate (pad (length bs)) 0)

pub bytes_of_are : {bs : List ℕ} → AreBits bs → AreBytes (bytes_of bs)
unfolding bytes_of
bytes_of_are {bs} p = cut_are (whole_bytes (length bs)) (are_bits_append p (zeros_are (pad (length bs))))
