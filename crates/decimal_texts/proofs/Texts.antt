-- The text of a count means that count, and is read back where it has at most nine digits. Assumes nothing.
use mathlib.Core.Path.{◌≡◌, refl, ◌∙◌, ap, ap₂, subst}
use mathlib.Core.Bool.{◌&&◌, cond}
use mathlib.Core.List.{List, [], ◌∷◌, ◌++◌, append-nil}
use mathlib.Core.Option.{Option, none, some, map}
use Prim.Native.Nat.{ℕ, zero, suc, ◌+◌, ◌-◌, ◌*◌, ◌/◌, ◌^◌, ◌≤◌, ◌<◌}
use native.Mathlib.Nat.{div-one, div-le_self, div-lt_iff_lt-mul, one-le-pow, zero-lt-suc, not-suc-le-zero}
use native.Mathlib.Omega.{arith}
use borrow.Author.Tests.{le-leb, lt-leb}
use lib.IntN.{ℤ, pos, negsuc, nat_abs}
use lib.ListN.{length}
use lib.Pow.{pow-add}
use Rattle.numerals.specs.Digits.{point}
use Rattle.printing.specs.Decimal as whole
use Rattle.numerals.specs.declared.Decimal.{Decimal}
use Rattle.numerals.specs.Decimals.{decimal}
use Rattle.decimal_texts.specs.Texts.{minus, digits_on, bare, pointed, longer, parted, worth, unsigned_means, below, above, signed, means}
use Rattle.decimal_texts.specs.Texts.{figures, most_digits, read_unsigned, read, last_digits, behind, unsigned_text, text}
use Rattle.decimal_texts.proofs.Digits.{decimal_read, last_read, all_read, decimal_some, decimal_few, last_long, digit_first, no_sign, figures_append, figures_all}

-- ---- what a text means

part_bare : (a n : ℕ) (w : List ℕ) → digits_on a w ≡ some n → parted w ≡ bare w
part_bare a n [] e = refl
part_bare a n (b ∷ w) e =
    let d = digit_first a b n w e in
    rw (no_sign b point (omega arith) d.0) (ap (longer b) (part_bare (10 * a + (b - 48)) n w d.1))

part_pointed : (a n : ℕ) (w p : List ℕ) → digits_on a w ≡ some n → parted (w ++ point ∷ p) ≡ pointed w p
part_pointed a n [] p e = refl
part_pointed a n (b ∷ w) p e =
    let d = digit_first a b n w e in
    rw (no_sign b point (omega arith) d.0) (ap (longer b) (part_pointed (10 * a + (b - 48)) n w p d.1))

pub unsigned_text_means : (d n : ℕ) → n < 10 ^ 20 → unsigned_means (unsigned_text d n) ≡ some (decimal n d)
unfolding unsigned_means behind
unsigned_text_means zero n l =
    ap (λ s. worth (parted s)) (append-nil w)
    ∙ ap worth (part_bare 0 (n / 1) w seen)
    ∙ ap₂ (λ t o. cond t (map (λ m. decimal m 0) o) none) (le-leb 1 (length w) (decimal_some (n / 1))) seen
    ∙ ap (λ (m : ℕ). some (decimal m 0)) (div-one n)
  where
    w : List ℕ
    w = whole.decimal (n / 1)

    seen : digits_on 0 w ≡ some (n / 1)
    seen = decimal_read (n / 1) (omega (arith, div-le_self n 1))
unsigned_text_means (suc d) n l =
    ap worth (part_pointed 0 (n / 10 ^ suc d) w p (decimal_read (n / 10 ^ suc d) (omega (arith, div-le_self n (10 ^ suc d)))))
    ∙ ap₂ (λ t u. cond (t && u) (map (λ m. decimal m (length p)) (digits_on 0 (w ++ p))) none)
    (le-leb 1 (length w) (decimal_some (n / 10 ^ suc d))) (le-leb 1 (length p) (omega (arith, last_long (suc d) n)))
    ∙ ap₂ (λ o k. map (λ m. decimal m k) o) (all_read (suc d) n l) (last_long (suc d) n)
  where
    w : List ℕ
    w = whole.decimal (n / 10 ^ suc d)

    p : List ℕ
    p = last_digits (suc d) n

-- a text that starts with a digit has no minus
signed_above : (f : List ℕ → Option (Decimal ℕ)) (n : ℕ) (w t : List ℕ) → 1 ≤ length w → digits_on 0 w ≡ some n
    → signed f (w ++ t) ≡ map above (f (w ++ t))
signed_above f n [] t l e = absurd (not-suc-le-zero l)
signed_above f n (b ∷ w) t l e = rw (no_sign b minus (omega arith) (digit_first 0 b n w e).0)

-- the text of a count as it is read where that of its size is
signed_text : (f : List ℕ → Option (Decimal ℕ)) (d : ℕ) (z : ℤ) → nat_abs z < 10 ^ 20
    → f (unsigned_text d (nat_abs z)) ≡ some (decimal (nat_abs z) d) → signed f (text d z) ≡ some (decimal z d)
unfolding text
signed_text f d (pos n) l e =
    let small : n / 10 ^ d < 10 ^ 20 = omega (arith, div-le_self n (10 ^ d)) in
    signed_above f (n / 10 ^ d) (whole.decimal (n / 10 ^ d)) (behind d n) (decimal_some (n / 10 ^ d)) (decimal_read (n / 10 ^ d) small)
    ∙ ap (map above) e
signed_text f d (negsuc n) l e = ap (map below) e

pub text_means : (d : ℕ) (z : ℤ) → nat_abs z < 10 ^ 20 → means (text d z) ≡ some (decimal z d)
unfolding means
text_means d z l = signed_text unsigned_means d z l (unsigned_text_means d (nat_abs z) l)

-- ---- a printed text of at most nine digits is read back as the same count

pub read_unsigned_back : (d n : ℕ) → n < 10 ^ 20 → figures (unsigned_text d n) ≤ most_digits
    → read_unsigned (unsigned_text d n) ≡ some (decimal n d)
unfolding read_unsigned
read_unsigned_back d n l few = rw (le-leb (figures (unsigned_text d n)) most_digits few) (unsigned_text_means d n l)

pub figures_text : (d : ℕ) (z : ℤ) → figures (text d z) ≡ figures (unsigned_text d (nat_abs z))
unfolding text
figures_text d (pos n) = refl
figures_text d (negsuc n) = refl

pub read_back : (d : ℕ) (z : ℤ) → nat_abs z < 10 ^ 20 → figures (text d z) ≤ most_digits → read (text d z) ≡ some (decimal z d)
unfolding read
read_back d z l few =
    signed_text read_unsigned d z l (read_unsigned_back d (nat_abs z) l (omega (arith, figures_text d z)))

-- ---- how many digits a printed text has

figures_behind : (d n : ℕ) → figures (behind d n) ≡ d
unfolding behind
figures_behind zero n = refl
figures_behind (suc d) n = figures_all (n / 10 ^ suc d) n (last_digits (suc d) n) (last_read (suc d) n) ∙ last_long (suc d) n

pub figures_unsigned : (d n : ℕ) → n < 10 ^ 20 → figures (unsigned_text d n) ≡ length (whole.decimal (n / 10 ^ d)) + d
figures_unsigned d n l =
    let small : n / 10 ^ d < 10 ^ 20 = omega (arith, div-le_self n (10 ^ d)) in
    figures_append (whole.decimal (n / 10 ^ d)) (behind d n)
    ∙ ap₂ ◌+◌ (figures_all 0 (n / 10 ^ d) (whole.decimal (n / 10 ^ d)) (decimal_read (n / 10 ^ d) small)) (figures_behind d n)

-- what stands before the point of a count of at most k + 1 digits
pub whole_part : (d k n : ℕ) → d ≤ k → n < 10 ^ suc k → n / 10 ^ d < 10 ^ suc (k - d)
whole_part d k n ld ln =
    let all : suc k ≡ suc (k - d) + d = omega arith in
    (div-lt_iff_lt-mul {k = 10 ^ d} {x = n} {y = 10 ^ suc (k - d)} (one-le-pow d 10 (zero-lt-suc 9))).1
    (subst (λ (m : ℕ). n < m) (ap (λ (j : ℕ). 10 ^ j) all ∙ pow-add 10 (suc (k - d)) d) ln)

pub nine_digits : (d n : ℕ) → d ≤ 8 → n < 10 ^ 9 → figures (unsigned_text d n) ≤ most_digits
nine_digits d n ld ln =
    omega (arith, figures_unsigned d n (omega arith), decimal_few (8 - d) (n / 10 ^ d) (whole_part d 8 n ld ln))

-- a text with nine places has at least ten digits, and is not read
pub ten_digits : (n : ℕ) → n < 10 ^ 20 → read_unsigned (unsigned_text 9 n) ≡ none
unfolding read_unsigned
ten_digits n l =
    rw (lt-leb (figures (unsigned_text 9 n)) most_digits (omega (arith, figures_unsigned 9 n l, decimal_some (n / 10 ^ 9))))

pub nine_places : (z : ℤ) → nat_abs z < 10 ^ 20 → read (text 9 z) ≡ none
unfolding read text
nine_places (pos n) l =
    let small : n / 10 ^ 9 < 10 ^ 20 = omega (arith, div-le_self n (10 ^ 9)) in
    signed_above read_unsigned (n / 10 ^ 9) (whole.decimal (n / 10 ^ 9)) (behind 9 n) (decimal_some (n / 10 ^ 9)) (decimal_read (n / 10 ^ 9) small)
    ∙ ap (map above) (ten_digits n l)
nine_places (negsuc n) l = ap (map below) (ten_digits (suc n) l)
