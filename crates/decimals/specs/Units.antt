-- Decimal numbers with a decimal margin, and which fractions lie within one.
use Rattle.std.specs.Prelude.{ℕ, ◌*◌, ◌^◌, ◌≤◌, ℤ, pos, nat_abs, ◌-ℤ◌, ◌*ℤ◌}
use Rattle.rules.specs.Values.{Fraction}
use Rattle.numerals.specs.declared.Decimal.{Decimal}

-- "a number of decimals d from 0 to 9"
abbrev pub top_places : ℕ
top_places = 9

abbrev pub tens : ℕ → ℕ
tens d = 10 ^ d

-- n/d lies within P/10^j of N/10^k: |n·10^k − N·d|·10^j is at most P·(10^k·d)
pub record Within (y : Decimal ℤ) (m : Decimal ℕ) (x : Fraction) : Type 0 where
  pub near : nat_abs (x.numerator *ℤ pos (tens y.places) -ℤ y.count *ℤ pos x.denominator) * tens m.places
      ≤ m.count * (tens y.places * x.denominator)
