-- Request h: what the demands 2 and 3 say of exact arithmetic on the text itself, "taking numbers as written".
use Rattle.std.specs.Prelude.{◌≡◌, List, [], ◌∷◌, ℕ, ℤ, nat_abs, length, get_or}
use Rattle.lists.specs.Joined.{Rel}
use Rattle.rules.specs.declared.Ball.{Ball}
use Rattle.rules.specs.Values.{Fraction, Contains}
use Rattle.formulas.specs.Readings.{BallReadings}
use Rattle.formulas.specs.ExactRun.{nought}
use Rattle.expressions.specs.Compiled.{worth}
use Rattle.text_packing.specs.GivenInText.{IsText}
use Rattle.demands.specs.Demands.{Chosen}

-- with any fractions inside the readings for the letters, what the text says is inside the one ball
pub record AroundText (F m : ℤ) (s : List ℕ) (given : BallReadings) (left : List Ball) : Type 0 where
  pub text : IsText F m s
  pub inside : (xs : List Fraction) → length xs ≡ nat_abs m → Chosen (nat_abs F) given xs
      → Rel (Contains (nat_abs F)) left (worth (λ i. get_or xs i nought) text.says ∷ [])
