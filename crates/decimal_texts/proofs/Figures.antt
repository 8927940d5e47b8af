-- The worked figures follow from the definitions. Assumes nothing.
use mathlib.Core.Path.{◌≡◌, refl}
use mathlib.Core.List.{List, [], ◌∷◌, map}
use mathlib.Core.Option.{none, some, bind}
use Prim.Native.Nat.{ℕ}
use native.Mathlib.Omega.{arith}
use lib.IntN.{pos, negsuc}
use Rattle.numerals.specs.Digits.{point}
use Rattle.printing.specs.Decimal.{digits_of}
use Rattle.printing.specs.Decimal as whole
use Rattle.numerals.specs.Decimals.{decimal}
use Rattle.decimal_texts.specs.Texts.{minus, unsigned_means, means, read_unsigned, read, last_digits, behind, text}
use Rattle.decimal_texts.specs.Texts.{ball_text, decimal_ball, read_ball}
use Rattle.decimal_texts.specs.Places.{Misplaced}
use Rattle.decimal_texts.specs.Figures.{Shown, shown_figures, half_hours, read_figures, refused_figures}
use Rattle.decimal_texts.proofs.Stops.{read_short, digit_missing}
use Rattle.decimal_texts.proofs.Signs.{misplaced_below, misplaced_above}

pub shown_hold : map (λ (f : Shown). text f.places f.count) shown_figures ≡ map (λ (f : Shown). f.must) shown_figures
unfolding text last_digits behind digits_of whole.decimal
shown_hold = refl

pub meant_hold : map (λ (f : Shown). means f.must) shown_figures
    ≡ map (λ (f : Shown). some (decimal f.count f.places)) shown_figures
unfolding means unsigned_means
meant_hold = refl

pub half_hours_shown : ball_text 4 (pos 5625) 5625 ≡ half_hours
unfolding text last_digits behind digits_of whole.decimal
half_hours_shown = refl

pub half_hours_read : read_ball half_hours ≡ some (decimal_ball (decimal (pos 5625) 4) (decimal 5625 4))
unfolding read_ball read read_unsigned unsigned_means bind
half_hours_read = refl

pub read_hold : map read read_figures ≡ some (decimal (negsuc 49) 2) ∷ some (decimal (pos 7) 0) ∷ []
unfolding read read_unsigned unsigned_means
read_hold = refl

pub refused_hold : map read refused_figures ≡ none ∷ none ∷ none ∷ none ∷ none ∷ none ∷ none ∷ none ∷ none ∷ []
unfolding read read_unsigned unsigned_means
refused_hold = refl

-- "-1" as a margin
pub no_minus_in_margins : read_unsigned (minus ∷ 49 ∷ []) ≡ none
unfolding read_unsigned unsigned_means
no_minus_in_margins = refl

-- "1.2.3" goes wrong at its second point, "1234567890" at its tenth digit, "5." and "" at their ends
pub second_point : Misplaced read_unsigned (49 ∷ point ∷ 50 ∷ point ∷ 51 ∷ []) 3
second_point = read_short (49 ∷ point ∷ 50 ∷ point ∷ 51 ∷ []) {v = 12} {e = 1} refl (omega arith)

abbrev ten_figures : List ℕ
ten_figures = 49 ∷ 50 ∷ 51 ∷ 52 ∷ 53 ∷ 54 ∷ 55 ∷ 56 ∷ 57 ∷ 48 ∷ []

pub tenth_digit : Misplaced read_unsigned ten_figures 9
tenth_digit = read_short ten_figures {v = 123456789} {e = 0} refl (omega arith)

pub behind_point : Misplaced read_unsigned (53 ∷ point ∷ []) 2
behind_point = digit_missing (53 ∷ point ∷ []) refl (omega arith)

pub nothing : Misplaced read_unsigned [] 0
nothing = digit_missing [] refl (omega arith)

-- "--1" at its second minus, "+1" at its plus
pub second_minus : Misplaced read (minus ∷ minus ∷ 49 ∷ []) 1
second_minus =
    misplaced_below (minus ∷ minus ∷ 49 ∷ []) refl (digit_missing (minus ∷ 49 ∷ []) {n = 0} refl (omega arith))

pub a_plus : Misplaced read (43 ∷ 49 ∷ []) 0
a_plus = misplaced_above (43 ∷ 49 ∷ []) refl (digit_missing (43 ∷ 49 ∷ []) {n = 0} refl (omega arith))
