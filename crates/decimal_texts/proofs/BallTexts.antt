-- The text of a ball means its centre and margin, and is read back where each has at most nine digits. Assumes nothing.
use mathlib.Core.Path.{◌≡◌, refl, ◌∙◌, ap, ap₂}
use mathlib.Core.Bool.{false}
use mathlib.Core.List.{List, ◌∷◌, ◌++◌, append_assoc}
use mathlib.Core.Option.{Option, some, map, bind}
use Prim.Native.Nat.{ℕ, zero, suc, ◌+◌, ◌/◌, ◌%◌, ◌^◌, ◌≤◌, ◌<◌}
use native.Mathlib.Omega.{arith}
use borrow.Author.Tests.{ne_eqb}
use lib.Dec.{eqb}
use lib.IntN.{ℤ, pos, negsuc, nat_abs}
use Rattle.lists.specs.All.{All}
use Rattle.lists.proofs.Each.{all_both}
use Rattle.printing.proofs.OneNumber.{Above, above_less, decimal_above}
use Rattle.numerals.specs.Digits.{point}
use Rattle.numerals.specs.declared.Decimal.{Decimal}
use Rattle.numerals.specs.Decimals.{decimal}
use Rattle.decimal_texts.specs.Texts.{minus, space, unsigned_means, means, figures, most_digits, read_unsigned, read, last_digits, behind, unsigned_text, text}
use Rattle.decimal_texts.specs.Texts.{give_or_take, ball_text, decimal_ball, before_space, from_space, behind_word, ball_by, ball_means, read_ball}
use Rattle.decimal_texts.proofs.Texts.{unsigned_text_means, text_means, read_unsigned_back, read_back}

-- ---- a number's text holds no space

last_above : (d n : ℕ) → Above 45 (last_digits d n)
unfolding last_digits
last_above zero n = All.none
last_above (suc d) n = all_both (last_above d (n / 10)) (All.one {a = 48 + n % 10} (omega arith) All.none)

behind_above : (d n : ℕ) → Above 45 (behind d n)
unfolding behind
behind_above zero n = All.none
behind_above (suc d) n = All.one {a = point} (omega arith) (last_above (suc d) n)

unsigned_above : (d n : ℕ) → Above 45 (unsigned_text d n)
unsigned_above d n = all_both (decimal_above (n / 10 ^ d)) (behind_above d n)

text_spaceless : (d : ℕ) (z : ℤ) → Above space (text d z)
unfolding text
text_spaceless d (pos n) = above_less {a = 45} (omega arith) (unsigned_above d n)
text_spaceless d (negsuc n) =
    All.one {a = minus} (omega arith) (above_less {a = 45} (omega arith) (unsigned_above d (suc n)))

-- ---- cut at its first space

no_space : {b : ℕ} → space < b → eqb b space ≡ false
no_space {b} l = ne_eqb b space (λ e. omega arith)

before_cut : {x : List ℕ} (t : List ℕ) → Above space x → before_space (x ++ space ∷ t) ≡ x
before_cut t All.none = refl
before_cut t (All.one {a = b} l a) = rw (no_space l) (ap (λ w. b ∷ w) (before_cut t a))

from_cut : {x : List ℕ} (t : List ℕ) → Above space x → from_space (x ++ space ∷ t) ≡ space ∷ t
from_cut t All.none = refl
from_cut t (All.one {a = b} l a) = rw (no_space l) (from_cut t a)

-- ---- the two numbers

ball_both : (f : List ℕ → Option (Decimal ℤ)) (g : List ℕ → Option (Decimal ℕ)) (d : ℕ) (c : ℤ) (r : ℕ)
    → f (text d c) ≡ some (decimal c d) → g (unsigned_text d r) ≡ some (decimal r d)
    → ball_by f g (ball_text d c r) ≡ some (decimal_ball (decimal c d) (decimal r d))
unfolding bind
ball_both f g d c r e k =
    let behind : List ℕ = 43 ∷ 45 ∷ space ∷ unsigned_text d r in
    let a = text_spaceless d c in
    ap (ball_by f g) (append_assoc (text d c) give_or_take (unsigned_text d r))
    ∙ ap₂ (λ x y. bind (f x) (λ c. map (λ r. decimal_ball c r) (bind (behind_word give_or_take y) g)))
    (before_cut behind a) (from_cut behind a)
    ∙ ap₂ (λ x y. bind x (λ c. map (λ r. decimal_ball c r) y)) e k

pub ball_text_means : (d : ℕ) (c : ℤ) (r : ℕ) → nat_abs c < 10 ^ 20 → r < 10 ^ 20
    → ball_means (ball_text d c r) ≡ some (decimal_ball (decimal c d) (decimal r d))
unfolding ball_means
ball_text_means d c r l m = ball_both means unsigned_means d c r (text_means d c l) (unsigned_text_means d r m)

pub read_ball_back : (d : ℕ) (c : ℤ) (r : ℕ) → nat_abs c < 10 ^ 20 → r < 10 ^ 20 → figures (text d c) ≤ most_digits
    → figures (unsigned_text d r) ≤ most_digits
    → read_ball (ball_text d c r) ≡ some (decimal_ball (decimal c d) (decimal r d))
unfolding read_ball
read_ball_back d c r l m few short =
    ball_both read read_unsigned d c r (read_back d c l few) (read_unsigned_back d r m short)
