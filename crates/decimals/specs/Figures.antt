-- Worked figures: out of a ball at a scale in so many decimals, and into one.
use Rattle.std.specs.Prelude.{List, [], ◌∷◌, ℕ, ℤ, pos, negsuc}
use Rattle.rules.specs.declared.Ball.{Ball}
use Rattle.rules.specs.Balls.{ball}
use Rattle.numerals.specs.declared.Decimal.{Decimal}
use Rattle.numerals.specs.Decimals.{decimal}

pub record Counted : Type 0 where
  pub scale : ℕ
  pub decimals : ℕ
  pub units : Ball
  pub must : Ball

abbrev pub counted : ℕ → ℕ → Ball → Ball → Counted
counted F d b c = record { scale = F; decimals = d; units = b; must = c }

-- 9 units give or take 9 at scale 4: 0.5625 and 0.5625, 0.6 and 0.6; 3 give or take 1 at scale 20: 0.0000 and 0.0001. A
-- half goes up, also below zero: 0.5 to 1, -0.5 to 0, -1.5 to -1, each with a margin of 1; a whole count loses nothing
abbrev pub out_figures : List Counted
out_figures =
    counted 4 4 (ball (pos 9) 9) (ball (pos 5625) 5625)
    ∷ counted 4 1 (ball (pos 9) 9) (ball (pos 6) 6)
    ∷ counted 20 4 (ball (pos 3) 1) (ball (pos 0) 1)
    ∷ counted 1 0 (ball (pos 1) 0) (ball (pos 1) 1)
    ∷ counted 1 0 (ball (negsuc 0) 0) (ball (pos 0) 1)
    ∷ counted 1 0 (ball (negsuc 2) 0) (ball (negsuc 0) 1)
    ∷ counted 4 0 (ball (negsuc 15) 0) (ball (negsuc 0) 0)
    ∷ counted 0 9 (ball (pos 7) 0) (ball (pos 7000000000) 0)
    ∷ []

pub record Made : Type 0 where
  pub scale : ℕ
  pub number : Decimal ℤ
  pub margin : Decimal ℕ
  pub must : Ball

abbrev pub made : ℕ → Decimal ℤ → Decimal ℕ → Ball → Made
made F y m b = record { scale = F; number = y; margin = m; must = b }

-- 0.1 give or take 0.02 at scale 4: 1.6 and 0.32 units; 0.25 is 4 units, and nothing is added; a half goes up: 0.5, -0.5
abbrev pub in_figures : List Made
in_figures =
    made 4 (decimal (pos 1) 1) (decimal 2 2) (ball (pos 2) 2)
    ∷ made 4 (decimal (pos 25) 2) (decimal 0 0) (ball (pos 4) 0)
    ∷ made 0 (decimal (pos 5) 1) (decimal 0 0) (ball (pos 1) 1)
    ∷ made 0 (decimal (negsuc 4) 1) (decimal 0 0) (ball (pos 0) 1)
    ∷ made 0 (decimal (negsuc 14) 1) (decimal 1 0) (ball (negsuc 0) 2)
    ∷ []
