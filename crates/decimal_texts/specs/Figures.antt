-- Worked figures.
use Rattle.std.specs.Prelude.{List, [], ◌∷◌, ℕ, ℤ, pos, negsuc}
use Rattle.decimal_texts.specs.Texts.{minus, space}
use Rattle.numerals.specs.Digits.{point}

-- a count, its number of decimals, and the text that it must have
pub record Shown : Type 0 where
  pub places : ℕ
  pub count : ℤ
  pub must : List ℕ

abbrev pub shown : ℕ → ℤ → List ℕ → Shown
shown d z t = record { places = d; count = z; must = t }

-- "0.5625", "0.6", "0.0000", "0.0001", "-0.5", "-0.06", "-0.05", "-1.5", "1", "120", "0.000000001"
abbrev pub shown_figures : List Shown
shown_figures =
    shown 4 (pos 5625) (48 ∷ point ∷ 53 ∷ 54 ∷ 50 ∷ 53 ∷ [])
    ∷ shown 1 (pos 6) (48 ∷ point ∷ 54 ∷ [])
    ∷ shown 4 (pos 0) (48 ∷ point ∷ 48 ∷ 48 ∷ 48 ∷ 48 ∷ [])
    ∷ shown 4 (pos 1) (48 ∷ point ∷ 48 ∷ 48 ∷ 48 ∷ 49 ∷ [])
    ∷ shown 1 (negsuc 4) (minus ∷ 48 ∷ point ∷ 53 ∷ [])
    ∷ shown 2 (negsuc 5) (minus ∷ 48 ∷ point ∷ 48 ∷ 54 ∷ [])
    ∷ shown 2 (negsuc 4) (minus ∷ 48 ∷ point ∷ 48 ∷ 53 ∷ [])
    ∷ shown 1 (negsuc 14) (minus ∷ 49 ∷ point ∷ 53 ∷ [])
    ∷ shown 0 (pos 1) (49 ∷ [])
    ∷ shown 0 (pos 120) (49 ∷ 50 ∷ 48 ∷ [])
    ∷ shown 9 (pos 1) (48 ∷ point ∷ 48 ∷ 48 ∷ 48 ∷ 48 ∷ 48 ∷ 48 ∷ 48 ∷ 48 ∷ 49 ∷ [])
    ∷ []

-- "0.5625 +- 0.5625"
abbrev pub half_hours : List ℕ
half_hours =
    48 ∷ point ∷ 53 ∷ 54 ∷ 50 ∷ 53 ∷ space ∷ 43 ∷ 45 ∷ space ∷ 48 ∷ point ∷ 53 ∷ 54 ∷ 50 ∷ 53 ∷ []

-- "-0.50" and "007", which are read
abbrev pub read_figures : List (List ℕ)
read_figures = (minus ∷ 48 ∷ point ∷ 53 ∷ 48 ∷ []) ∷ (48 ∷ 48 ∷ 55 ∷ []) ∷ []

-- ".5", "5.", "1.2.3", "--1", "", "-", "+1", "1e3", ten digits
abbrev pub refused_figures : List (List ℕ)
refused_figures =
    (point ∷ 53 ∷ []) ∷ (53 ∷ point ∷ []) ∷ (49 ∷ point ∷ 50 ∷ point ∷ 51 ∷ []) ∷ (minus ∷ minus ∷ 49 ∷ []) ∷ [] ∷ (minus ∷ [])
    ∷ (43 ∷ 49 ∷ []) ∷ (49 ∷ 101 ∷ 51 ∷ []) ∷ (48 ∷ 48 ∷ 48 ∷ 48 ∷ 48 ∷ 48 ∷ 48 ∷ 48 ∷ 48 ∷ 49 ∷ []) ∷ []
