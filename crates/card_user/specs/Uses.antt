-- A card's use as the code hands it on from test to test.
use Rattle.std.specs.Prelude.{List, ℕ, ◌≤◌, ℤ, pos}
use Rattle.rules.specs.Numbers.{top_scale}
use Rattle.formulas.specs.Readings.{BallReadings}
use Rattle.cards.specs.Using.{Use}
use Rattle.card_user.specs.declared.Card.{Card}
use Rattle.card_user.specs.Tests.{Few}

-- scale and counts, the domain's middles and strays, E and L, the reading balls
abbrev pub brought : ℤ → ℤ → ℤ → BallReadings → List ℕ → List ℕ → BallReadings → Use
brought F m n domain static slopes readings =
    record {
      scale = F;
      inputs = m;
      outputs = n;
      domain = domain;
      static = static;
      slopes = slopes;
      readings = readings;
    }

-- 3 and 4 have passed
pub record Counted (F m n : ℕ) : Type 0 where
  pub scale_small : F ≤ top_scale
  pub few : Few m n
  pub some_output : 1 ≤ n

abbrev pub counted : ℕ → ℕ → ℕ → BallReadings → List ℕ → List ℕ → BallReadings → Use
counted F m n = brought (pos F) (pos m) (pos n)

-- what a card, a domain and balls bring
abbrev pub used : Card → BallReadings → BallReadings → Use
used c domain readings =
    counted c.scale c.inputs c.outputs domain c.static_margins.now c.slopes.now readings
