-- Request f: what the doubles on the chart page assure.
use Rattle.std.specs.Prelude.{false, List, ℕ, pos, nat_abs, length, ◌≡◌}
use Rattle.lists.specs.All.{All}
use Rattle.rules.specs.declared.Ball.{Ball}
use Rattle.rules.specs.Numbers.{Q}
use Rattle.formulas.specs.Readings.{BallReadings}
use Rattle.packed.specs.Meaning as packed
use Rattle.doubles.specs.Doubles.{Means, is_negative, double_bits}
use Rattle.charts.specs.Charts.{ChartLists, HoldDoubles}
use Rattle.assurances.specs.Printed.{Encloses}

-- "the bits, read as sign, significand and power of two, mean that very number", of a ball's centre and of its margin
pub record MeansBall (F : ℕ) (b : Ball) : Type 0 where
  pub centre : Means (double_bits F b.centre) (is_negative b.centre) (nat_abs b.centre) (Q F)
  pub margin : Means (double_bits F (pos b.margin)) false b.margin (Q F)

-- the doubles in front of the lists are n pairs of these balls, each means its ball, and demand 2 holds of the balls
pub record OnChart (bytes : List ℕ) (given : BallReadings) (old new : ChartLists) (n : ℕ) : Type 0 where
  pub balls : List Ball
  pub as_many : length balls ≡ n
  pub drawn : HoldDoubles (packed.meant bytes).header.scale balls old new
  pub exact : All (MeansBall (packed.meant bytes).header.scale) balls
  pub encloses : Encloses bytes given balls
