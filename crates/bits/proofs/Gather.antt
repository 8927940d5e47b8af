-- Eight bytes hold every field of up to 32 bits that starts in the first of them. Assumes nothing.
use mathlib.Core.Path.{◌≡◌, refl, sym, ◌∙◌, ap, ap₂}
use mathlib.Core.List.{List, [], ◌∷◌, ◌++◌, append_assoc, append-nil}
use Prim.Native.Nat.{ℕ, zero, suc, ◌+◌, ◌-◌, ◌*◌, ◌/◌, ◌%◌, ◌^◌, ◌≤◌, ◌<◌}
use native.Mathlib.Nat.{mod-eq_of_lt}
use native.Mathlib.Numerals.{towards_suc}
use native.Mathlib.Omega.{arith}
use lib.ListN.{length, get_or, take, drop, length-append, length-take, length-drop, take-append-drop}
use lib.Seq.{drop-append-le, take-append-le, drop-append-add, drop-drop}
use Rattle.bits.specs.Bits.{to_bits, bits, number, window_number, WindowBytes}
use Rattle.bits.proofs.Digits.{bits_are, number_append, number_to_bits, number_cut, length_to_bits}

pub length_bits : (s : List ℕ) → length (bits s) ≡ 8 * length s
unfolding bits
length_bits [] = refl
length_bits (b ∷ s) = length-append (to_bits 8 b) (bits s) ∙ (omega (arith, length_to_bits 8 b, length_bits s))

pub bits_append : (s t : List ℕ) → bits (s ++ t) ≡ bits s ++ bits t
unfolding bits
bits_append [] t = refl
bits_append (b ∷ s) t =
    ap (λ (l : List ℕ). to_bits 8 b ++ l) (bits_append s t) ∙ sym (append_assoc (to_bits 8 b) (bits s) (bits t))

pub bits_drop : (i : ℕ) (s : List ℕ) → bits (drop i s) ≡ drop (8 * i) (bits s)
unfolding bits
bits_drop zero s = refl
bits_drop (suc i) [] = sym (drop_none (8 * suc i))
  where
    drop_none : (n : ℕ) → ◌≡◌ {A = List ℕ} (drop n []) []
    drop_none zero = refl
    drop_none (suc n) = refl
bits_drop (suc i) (b ∷ s) =
    bits_drop i s ∙ sym (drop-append-add (to_bits 8 b) (bits s) (8 * i))
    ∙ ap (λ (n : ℕ). drop n (to_bits 8 b ++ bits s)) far
  where
    far : length (to_bits 8 b) + 8 * i ≡ 8 * suc i
    far = omega (arith, length_to_bits 8 b)

-- a part of a list lies in its front, if it is that long
part_front : (o w : ℕ) (xs ys : List ℕ) → o + w ≤ length xs → take w (drop o (xs ++ ys)) ≡ take w (drop o xs)
part_front o w xs ys l =
    ap (take w) (drop-append-le o xs ys (omega arith))
    ∙ take-append-le w (drop o xs) ys (omega (arith, length-drop o xs))

-- the first n of a list, with zeros where it is shorter
abbrev firsts : ℕ → List ℕ → List ℕ
firsts zero t = []
firsts (suc n) [] = 0 ∷ firsts n []
firsts (suc n) (b ∷ t) = b ∷ firsts n t

firsts_front : (n : ℕ) (t : List ℕ) → (z : List ℕ) × (firsts n t ≡ take n t ++ z)
firsts_front zero t = ([], refl)
firsts_front (suc n) [] = (0 ∷ firsts n [], refl)
firsts_front (suc n) (b ∷ t) = let r = firsts_front n t in (r.0, ap (λ (l : List ℕ). b ∷ l) r.1)

firsts_part : (n o w : ℕ) (t : List ℕ) → o + w ≤ 8 * n → o + w ≤ 8 * length t
    → take w (drop o (bits (firsts n t))) ≡ take w (drop o (bits t))
firsts_part n o w t ln lt =
    ap (λ (l : List ℕ). take w (drop o l))
    (ap bits (firsts_front n t).1 ∙ bits_append (take n t) (firsts_front n t).0)
    ∙ part_front o w (bits (take n t)) (bits (firsts_front n t).0) long
    ∙ sym (part_front o w (bits (take n t)) (bits (drop n t)) long)
    ∙ ap (λ (l : List ℕ). take w (drop o l)) (sym (bits_append (take n t) (drop n t)) ∙ ap bits (take-append-drop n t))
  where
    long : o + w ≤ length (bits (take n t))
    long = omega (arith, length_bits (take n t), length-take n t)

-- the first n from the i-th on, one by one
abbrev bytes_from : ℕ → ℕ → List ℕ → List ℕ
bytes_from zero i s = []
bytes_from (suc n) i s = get_or s i 0 ∷ bytes_from n (suc i) s

one_more : (n i : ℕ) (s : List ℕ) → firsts (suc n) (drop i s) ≡ get_or s i 0 ∷ firsts n (drop (suc i) s)
one_more n zero [] = refl
one_more n zero (b ∷ s) = refl
one_more n (suc i) [] = refl
one_more n (suc i) (b ∷ s) = one_more n i s

firsts_from : (n i : ℕ) (s : List ℕ) → firsts n (drop i s) ≡ bytes_from n i s
firsts_from zero i s = refl
firsts_from (suc n) i s = one_more n i s ∙ ap (λ (l : List ℕ). get_or s i 0 ∷ l) (firsts_from n (suc i) s)

number_byte : (b : ℕ) (t : List ℕ) → b < 256 → number (bits (b ∷ t)) ≡ b * 2 ^ (8 * length t) + number (bits t)
unfolding bits
number_byte b t l =
    number_append (to_bits 8 b) (bits t)
    ∙ ap₂ (λ (m k : ℕ). m * 2 ^ k + number (bits t)) (number_to_bits 8 b ∙ mod-eq_of_lt l) (length_bits t)

number_none : number (bits []) ≡ 0
unfolding number bits
number_none = refl

eight_bytes : (a b c d e f g h : ℕ) → a < 256 → b < 256 → c < 256 → d < 256 → e < 256 → f < 256 → g < 256 → h < 256
    → number (bits (a ∷ b ∷ c ∷ d ∷ e ∷ f ∷ g ∷ h ∷ []))
    ≡ a * 2 ^ 56 + b * 2 ^ 48 + c * 2 ^ 40 + d * 2 ^ 32 + e * 2 ^ 24 + f * 2 ^ 16 + g * 2 ^ 8 + h
eight_bytes a b c d e f g h ha hb hc hd he hf hg hh =
    omega (
      arith,
      number_byte a (b ∷ c ∷ d ∷ e ∷ f ∷ g ∷ h ∷ []) ha,
      number_byte b (c ∷ d ∷ e ∷ f ∷ g ∷ h ∷ []) hb,
      number_byte c (d ∷ e ∷ f ∷ g ∷ h ∷ []) hc,
      number_byte d (e ∷ f ∷ g ∷ h ∷ []) hd,
      number_byte e (f ∷ g ∷ h ∷ []) he,
      number_byte f (g ∷ h ∷ []) hf,
      number_byte g (h ∷ []) hg,
      number_byte h [] hh,
      number_none,
    )

window_is : (s : List ℕ) (i : ℕ) → WindowBytes s i → number (bits (firsts 8 (drop i s))) ≡ window_number s i
window_is s i w =
    ap (λ (l : List ℕ). number (bits l)) (firsts_from 8 i s)
    ∙ in_order w.0 w.1 w.2 w.3 w.4 w.5 w.6 w.7
  where
    at : ℕ → ℕ
    at k = get_or s k 0

    in_order : at i < 256 → at (i + 1) < 256 → at (i + 2) < 256 → at (i + 3) < 256 → at (i + 4) < 256 → at (i + 5) < 256
        → at (i + 6) < 256 → at (i + 7) < 256
        → number (bits (bytes_from 8 i s)) ≡ window_number s i
    in_order = simp towards_suc (eight_bytes (at i) (at (suc i)) _ _ _ _ _ _)

length_firsts : (n : ℕ) (t : List ℕ) → length (firsts n t) ≡ n
length_firsts zero t = refl
length_firsts (suc n) [] = ap suc (length_firsts n [])
length_firsts (suc n) (b ∷ t) = ap suc (length_firsts n t)

-- a field from a window: the eight bytes from the one that the cursor stands in hold the field that starts j bits
-- further on
pub field_gather : (s : List ℕ) (at j w : ℕ) → at % 8 + j + w ≤ 64 → at + j + w ≤ 8 * length s → WindowBytes s (at / 8)
    → number (take w (drop (at + j) (bits s))) ≡ window_number s (at / 8) / 2 ^ (64 - at % 8 - j - w) % 2 ^ w
field_gather s at j w near inside are =
    ap (λ (l : List ℕ). number (take w l))
    (ap (λ (n : ℕ). drop n (bits s)) whole ∙ sym (drop-drop o (8 * i) (bits s)) ∙ ap (drop o) (sym (bits_drop i s)))
    ∙ ap number (sym (firsts_part 8 o w (drop i s) (omega arith) (omega (arith, length-drop i s))))
    ∙ number_cut (bits_are (firsts 8 (drop i s))) o w (64 - at % 8 - j - w)
    (omega (arith, length_bits (firsts 8 (drop i s)), length_firsts 8 (drop i s)))
    ∙ ap (λ (n : ℕ). n / 2 ^ (64 - at % 8 - j - w) % 2 ^ w) (window_is s i are)
  where
    i : ℕ
    i = at / 8

    o : ℕ
    o = at % 8 + j

    whole : at + j ≡ 8 * i + o
    whole = omega arith

-- ---- the last byte

drop_to_bits : (o w k n : ℕ) → k ≡ o + w → drop o (to_bits k n) ≡ to_bits w n
unfolding to_bits
drop_to_bits zero w k n e = let z : k ≡ w = omega arith in ap (λ j. to_bits j n) z
drop_to_bits (suc o) w zero n e = absurd (omega arith)
drop_to_bits (suc o) w (suc k) n e = drop_to_bits o w k n (omega arith)

only_last : (i : ℕ) (s : List ℕ) → length s ≡ suc i → drop i s ≡ get_or s i 0 ∷ []
only_last i [] e = absurd (let l : 0 ≡ suc i = e in omega arith)
only_last zero (b ∷ []) e = refl
only_last zero (b ∷ d ∷ s) e = absurd (let l : suc (suc (length s)) ≡ 1 = e in omega arith)
only_last (suc i) (b ∷ s) e = only_last i s (let l : suc (length s) ≡ suc (suc i) = e in omega arith)

-- from a place in the last byte on, its low bits are left
pub last_bits : (s : List ℕ) (at : ℕ) → length s ≡ at / 8 + 1
    → number (drop at (bits s)) ≡ get_or s (at / 8) 0 % 2 ^ (8 - at % 8)
unfolding bits
last_bits s at e =
    ap number
    (ap (λ n. drop n (bits s)) whole ∙ sym (drop-drop (at % 8) (8 * (at / 8)) (bits s))
    ∙ ap (drop (at % 8)) (sym (bits_drop (at / 8) s) ∙ ap bits (only_last (at / 8) s (e ∙ omega arith))) ∙ in_byte)
    ∙ number_to_bits (8 - at % 8) b
  where
    b : ℕ
    b = get_or s (at / 8) 0

    whole : at ≡ 8 * (at / 8) + at % 8
    whole = omega arith

    in_byte : drop (at % 8) (bits (b ∷ [])) ≡ to_bits (8 - at % 8) b
    in_byte =
        drop-append-le (at % 8) (to_bits 8 b) [] (omega (arith, length_to_bits 8 b))
        ∙ append-nil (drop (at % 8) (to_bits 8 b)) ∙ drop_to_bits (at % 8) (8 - at % 8) 8 b (omega arith)
