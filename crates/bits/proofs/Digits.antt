-- Bits as a number: of two lists joined, of a field cut out of a list, of a number's own bits. Assumes nothing.
use mathlib.Core.Path.{◌≡◌, refl, sym, ◌∙◌, ap, ap₂, subst}
use mathlib.Core.List.{List, [], ◌∷◌, ◌++◌, append_assoc}
use Prim.Native.Nat.{ℕ, zero, suc, ◌+◌, ◌*◌, ◌/◌, ◌%◌, ◌^◌, ◌<◌}
use native.Mathlib.Nat.{mod-lt, mul-le-mul_right, pow-suc, add-mul, mul_assoc, add_assoc, one-mul, le_refl}
use native.Mathlib.Numerals.{one-add}
use native.Mathlib.Omega.{arith}
use lib.Dec.{lit<}
use lib.ListN.{length, take, drop, length-append, length-drop, take-append-drop}
use lib.Pow.{pow-add, mod-pow-add, high, low}
use lib.Seq.{length-take-le}
use Rattle.bits.specs.Bits.{to_bits, bits, number}

-- every one is 0 or 1
pub data AreBits : List ℕ → Type 0 where
  none : AreBits []
  more : {b : ℕ} {bs : List ℕ} → b < 2 → AreBits bs → AreBits (b ∷ bs)

pub are_bits_append : {xs ys : List ℕ} → AreBits xs → AreBits ys → AreBits (xs ++ ys)
are_bits_append none q = q
are_bits_append (more h p) q = more h (are_bits_append p q)

pub are_bits_take : (n : ℕ) {xs : List ℕ} → AreBits xs → AreBits (take n xs)
are_bits_take zero p = none
are_bits_take (suc n) none = none
are_bits_take (suc n) (more h p) = more h (are_bits_take n p)

pub are_bits_drop : (n : ℕ) {xs : List ℕ} → AreBits xs → AreBits (drop n xs)
are_bits_drop zero p = p
are_bits_drop (suc n) none = none
are_bits_drop (suc n) (more h p) = are_bits_drop n p

pub to_bits_are : (w n : ℕ) → AreBits (to_bits w n)
unfolding to_bits
to_bits_are zero n = none
to_bits_are (suc w) n = more (mod-lt (n / 2 ^ w) (lit< tt)) (to_bits_are w n)

pub bits_are : (s : List ℕ) → AreBits (bits s)
unfolding bits
bits_are [] = none
bits_are (b ∷ s) = are_bits_append (to_bits_are 8 b) (bits_are s)

pub number_lt : {bs : List ℕ} → AreBits bs → number bs < 2 ^ length bs
unfolding number
number_lt none = le_refl 1
number_lt (more {b} {bs} h p) =
    omega (
      arith,
      number_lt p,
      pow-suc 2 (length bs),
      mul-le-mul_right {m =
          b} {n = 1} (2 ^ length bs) (omega arith),
      one-mul (2 ^ length bs),
    )

pub number_append : (xs ys : List ℕ) → number (xs ++ ys) ≡ number xs * 2 ^ length ys + number ys
unfolding number
number_append [] ys = omega arith
number_append (b ∷ xs) ys =
    ap₂ (λ (m n : ℕ). b * m + n)
    (ap (λ (k : ℕ). 2 ^ k) (length-append xs ys) ∙ pow-add 2 (length xs) (length ys)) (number_append xs ys)
    ∙ ap (λ (n : ℕ). n + (number xs * 2 ^ length ys + number ys)) (sym (mul_assoc b (2 ^ length xs) (2 ^ length ys)))
    ∙ sym (add_assoc (b * 2 ^ length xs * 2 ^ length ys) (number xs * 2 ^ length ys) (number ys))
    ∙ ap (λ (n : ℕ). n + number ys) (sym (add-mul (b * 2 ^ length xs) (number xs) (2 ^ length ys)))

pub length_to_bits : (w n : ℕ) → length (to_bits w n) ≡ w
unfolding to_bits
length_to_bits zero n = refl
length_to_bits (suc w) n = ap suc (length_to_bits w n)

pub number_to_bits : (w n : ℕ) → number (to_bits w n) ≡ n % 2 ^ w
unfolding to_bits number
number_to_bits zero n = omega arith
number_to_bits (suc w) n =
    ap₂ (λ (k m : ℕ). n / 2 ^ w % 2 * 2 ^ k + m) (length_to_bits w n) (number_to_bits w n)
    ∙ sym (mod-pow-add n 1 w) ∙ ap (λ (k : ℕ). n % 2 ^ k) (one-add w)

-- a field cut out of a list of bits: what is below it is shifted out, what is above it is taken off
pub number_cut : {bs : List ℕ} → AreBits bs → (o w k : ℕ) → o + w + k ≡ length bs
    → number (take w (drop o bs)) ≡ number bs / 2 ^ k % 2 ^ w
number_cut {bs} p o w k e =
    sym
    (ap (λ (n : ℕ). n / 2 ^ k % 2 ^ w) apart
    ∙ ap (λ (n : ℕ). n % 2 ^ w) (high (number top * 2 ^ w + number cut) k small) ∙ low (number top) w cut_small)
  where
    top : List ℕ
    top = take o bs

    cut : List ℕ
    cut = take w (drop o bs)

    rest : List ℕ
    rest = drop w (drop o bs)

    rest_long : length rest ≡ k
    rest_long = omega (arith, length-drop w (drop o bs), length-drop o bs)

    cut_long : length cut ≡ w
    cut_long = length-take-le w (drop o bs) (omega (arith, length-drop o bs))

    small : number rest < 2 ^ k
    small = subst (λ (n : ℕ). number rest < 2 ^ n) rest_long (number_lt (are_bits_drop w (are_bits_drop o p)))

    cut_small : number cut < 2 ^ w
    cut_small = subst (λ (n : ℕ). number cut < 2 ^ n) cut_long (number_lt (are_bits_take w (are_bits_drop o p)))

    apart : number bs ≡ (number top * 2 ^ w + number cut) * 2 ^ k + number rest
    apart =
        ap number
        (sym
        (append_assoc top cut rest ∙ ap (λ (l : List ℕ). top ++ l) (take-append-drop w (drop o bs))
        ∙ take-append-drop o bs))
        ∙ number_append (top ++ cut) rest
        ∙ ap (λ (n : ℕ). number (top ++ cut) * 2 ^ n + number rest) rest_long
        ∙ ap (λ (n : ℕ). n * 2 ^ k + number rest)
        (number_append top cut ∙ ap (λ (n : ℕ). number top * 2 ^ n + number cut) cut_long)
