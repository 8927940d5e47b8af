-- Request j, the card: what it holds, the margin that it gives a reading, and what that margin must be.
use Rattle.std.specs.Prelude.{◌≡◌, List, [], ◌∷◌, ◌++◌, map, ℕ, zero, suc, ◌+◌, ◌*◌, ◌≤◌, ℤ, pos, nat_abs, ◌-ℤ◌, get_or, take, drop}
use Rattle.lists.specs.Joined.{joined, Rel}
use Rattle.rules.specs.declared.Ball.{Ball}
use Rattle.rules.specs.declared.Matryoshka.{Matryoshka}
use Rattle.rules.specs.Numbers.{Up}
use Rattle.rules.specs.Values.{Fraction, Contains}
use Rattle.rules.specs.Plain.{plain_rule}
use Rattle.rules.specs.Balls.{ball, ball_rule}
use Rattle.rules.specs.Matryoshki.{matryoshka, matryoshka_rule}
use Rattle.rules.specs.Lists.{centres_of, margins_of, no_ball, no_matryoshka}
use Rattle.formulas.specs.Formula.{Formula}
use Rattle.formulas.specs.Run.{finished, run}
use Rattle.formulas.specs.ExactRun.{nought, ExactRun}
use Rattle.cards.specs.Slopes.{all_inputs, slope_run}

-- "a domain with all margins 0": an input's (middle, stray) is a ball, and this is the matryoshka that is admitted
abbrev pub still : Ball → Matryoshka
still d = matryoshka d.centre d.margin 0

-- "a reading ball wholly inside the domain": with its own margin it strays no further from the middle than the stray
-- allows
pub record Inside (domain reading : Ball) : Type 0 where
  pub inside : nat_abs (reading.centre -ℤ domain.centre) + reading.margin ≤ domain.margin

-- "E, the admitted static margin of each output, and a slope L for each output and input"
pub record Card : Type 0 where
  pub static : List ℕ
  pub slopes : List (List ℕ)

abbrev pub card : List ℕ → List (List ℕ) → Card
card es ls = record { static = es; slopes = ls }

-- the outputs', of all values
abbrev pub picked : List ℕ → List Matryoshka → List (List ℕ) → Card
picked os ms ls = card (map (λ o. (get_or ms o no_matryoshka).margin) os) (map (λ o. get_or ls o []) os)

-- the card of a formula over a domain: admission is accepted, then the ball run over (middle, stray), then the slopes
pub record CardOf (f : Formula) (domain : List Ball) (k : Card) : Type 0 where
  pub admits : List Matryoshka
  pub admitted : run (matryoshka_rule f.header.scale) no_matryoshka f.program (map still domain)
      ≡ finished admits
  pub ranges : List Ball
  pub ranged : run (ball_rule f.header.scale) no_ball f.program domain ≡ finished ranges
  pub slopes : List (List ℕ)
  pub sloping : slope_run f.header.scale f.header.inputs ranges f.program
      (all_inputs f.header.scale f.header.inputs) ≡ finished slopes
  pub is_card : k ≡ picked f.results admits slopes

-- "for each input, L·s/Q rounded up", all together
abbrev pub rise : ℕ → List ℕ → List ℕ → ℕ
rise F [] ss = 0
rise F (l ∷ ls) [] = 0
rise F (l ∷ ls) (s ∷ ss) = Up F (l * s) + rise F ls ss

-- "the margin is then E plus, for each input, L·s/Q rounded up"
abbrev pub card_margin : ℕ → List ℕ → ℕ → List ℕ → ℕ
card_margin F ss E ls = E + rise F ls ss

abbrev pub card_margins : ℕ → Card → List ℕ → List ℕ
card_margins F k ss = joined (card_margin F ss) k.static k.slopes

-- "E has n places, L n·m, output by output": the slopes in one list, and the first n rows of m places of such a list
abbrev pub flat : List (List ℕ) → List ℕ
flat [] = []
flat (l ∷ ls) = l ++ flat ls

abbrev pub rows : ℕ → ℕ → List ℕ → List (List ℕ)
rows m zero L = []
rows m (suc n) L = take m L ∷ rows m n (drop m L)

-- the card of n outputs and m inputs in two such lists
abbrev pub card_in : ℕ → ℕ → List ℕ → List ℕ → Card
card_in m n E L = card (take n E) (rows m n L)

-- "Prove that it holds every exact result around the bare answer." The bare answer is the plain run's on the readings'
-- centres; these are the margins of the outputs, in order.
pub record HoldsAround (f : Formula) (margins : List ℕ) (readings : List Ball) : Type 0 where
  pub bare : List ℤ
  pub plain_finishes : run (plain_rule f.header.scale) (pos 0) f.program (centres_of readings) ≡ finished bare
  pub holds : (xs ys : List Fraction) → Rel (Contains f.header.scale) readings xs
      → ExactRun f.header.scale f.program xs ys
      → Rel (Contains f.header.scale) (joined ball (map (λ o. get_or bare o (pos 0)) f.results) margins)
      (map (λ o. get_or ys o nought) f.results)

-- of a card and the readings' own margins
abbrev pub CardHolds : Formula → Card → List Ball → Type 0
CardHolds f k readings = HoldsAround f (card_margins f.header.scale k (margins_of readings)) readings
