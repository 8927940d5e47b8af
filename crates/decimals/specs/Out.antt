-- Out: "A ball (c, r) at scale F and a number of decimals d from 0 to 9, to a decimal centre and a decimal margin, in
-- counts of 10^-d".
use Rattle.std.specs.Prelude.{◌≡◌, ℕ, ◌+◌, ◌*◌, ◌≤◌, ℤ, pos, nat_abs, ◌-ℤ◌, ◌*ℤ◌}
use Rattle.rules.specs.declared.Ball.{Ball}
use Rattle.rules.specs.Numbers.{Q, top_scale, Round, Up}
use Rattle.rules.specs.Values.{IsBall}
use Rattle.rules.specs.Balls.{ball}
use Rattle.numerals.specs.declared.Decimal.{Decimal}
use Rattle.numerals.specs.Decimals.{decimal}
use Rattle.decimals.specs.Units.{tens, top_places}

-- what may be asked for
pub record Countable (F d : ℕ) (b : Ball) : Type 0 where
  pub scale : F ≤ top_scale
  pub places : d ≤ top_places
  pub legal : IsBall b

-- "c·10^d/Q rounded to nearest with ties towards plus infinity (the floor of (c·10^d + h)/Q)"
abbrev pub out_centre : ℕ → ℕ → ℤ → ℤ
out_centre F d c = Round F (c *ℤ pos (tens d))

-- "what that rounding lost": c·10^d − C·Q
abbrev pub out_lost : ℕ → ℕ → ℤ → ℤ
out_lost F d c = c *ℤ pos (tens d) -ℤ out_centre F d c *ℤ pos (Q F)

abbrev pub out_doubt : ℕ → ℕ → Ball → ℕ
out_doubt F d b = b.margin * tens d + nat_abs (out_lost F d b.centre)

-- "the margin is (r·10^d + what that rounding lost)/Q rounded up, as one Up of the sum"
abbrev pub out : ℕ → ℕ → Ball → Ball
out F d b = ball (out_centre F d b.centre) (Up F (out_doubt F d b))

-- both as decimals
abbrev pub out_number : ℕ → ℕ → Ball → Decimal ℤ
out_number F d b = decimal (out F d b).centre d

abbrev pub out_margin : ℕ → ℕ → Ball → Decimal ℕ
out_margin F d b = decimal (out F d b).margin d

-- nothing is lost: the ball's margin is 0, and its centre is a whole count
pub record NothingLost (F d : ℕ) (b : Ball) : Type 0 where
  pub no_margin : b.margin ≡ 0
  pub whole : b.centre *ℤ pos (tens d) ≡ out_centre F d b.centre *ℤ pos (Q F)
