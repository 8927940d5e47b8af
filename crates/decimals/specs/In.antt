-- In: a decimal number with a decimal margin, "to a ball at scale F".
use Rattle.std.specs.Prelude.{ℕ, ◌+◌, ◌*◌, ◌^◌, ◌≤◌, ◌<◌, ℤ, pos, nat_abs, ◌*ℤ◌}
use Rattle.rules.specs.declared.Ball.{Ball}
use Rattle.rules.specs.Numbers.{Q, top_scale, ceiling}
use Rattle.rules.specs.Balls.{ball}
use Rattle.reciprocals.specs.Nearest.{nearest, unless_divides}
use Rattle.numerals.specs.declared.Decimal.{Decimal}
use Rattle.decimals.specs.Units.{tens, top_places}

-- what may be read: "1 to 9 digits in all"
pub record Readable (F : ℕ) (y : Decimal ℤ) (m : Decimal ℕ) : Type 0 where
  pub scale : F ≤ top_scale
  pub number : nat_abs y.count < 10 ^ 9
  pub places : y.places ≤ top_places
  pub margin : m.count < 10 ^ 9
  pub margin_places : m.places ≤ top_places

-- "the centre rounded to units with ties up"
abbrev pub in_centre : ℕ → Decimal ℤ → ℤ
in_centre F y = nearest (y.count *ℤ pos (Q F)) (tens y.places)

-- "plus 1 unless the number is a whole count of units"
abbrev pub in_more : ℕ → Decimal ℤ → ℕ
in_more F y = unless_divides (y.count *ℤ pos (Q F)) (tens y.places)

-- "the margin rounded up to units"
abbrev pub in_margin : ℕ → Decimal ℤ → Decimal ℕ → ℕ
in_margin F y m = ceiling (m.count * Q F) (tens m.places) + in_more F y

abbrev pub into : ℕ → Decimal ℤ → Decimal ℕ → Ball
into F y m = ball (in_centre F y) (in_margin F y m)
