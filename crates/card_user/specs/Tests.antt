-- What the tests of a card's use answer, and what each may take for granted.
use Rattle.std.specs.Prelude.{◌≡◌, Bool, ◌&&◌, List, ℕ, ◌*◌, ◌≤◌, leb, ℤ, nat_abs, length, take}
use Rattle.whole.specs.Limits.{is_below}
use Rattle.refusals.specs.Answer.{value}
use Rattle.rules.specs.Numbers.{M}
use Rattle.rules.specs.declared.Ball.{Ball}
use Rattle.rules.specs.Balls.{ball}
use Rattle.readings.specs.declared.Reading.{Reading}
use Rattle.formulas.specs.Readings.{BallReadings}
use Rattle.formulas.specs.Kinds.{ball_kind, tested}
use Rattle.cards.specs.Slopes.{largest}
use Rattle.cards.specs.Using.{is_inside, all_inside}
use Rattle.card_user.specs.declared.Card.{Card}

-- 4, "m .. (0 to 16)", "n .. (1 to 16)"
abbrev pub counts_in : ℤ → ℤ → Bool
counts_in m n = is_below 17 m && (is_below 17 n && leb 1 (nat_abs n))

pub record CountsFit (m n : ℤ) (t : Bool) : Type 0 where
  pub is : t ≡ counts_in m n

-- so few inputs and outputs that n·m is small
pub record Few (m n : ℕ) : Type 0 where
  pub inputs : m ≤ 16
  pub outputs : n ≤ 16

-- 10: lists of these lengths for E, L and the margins
abbrev pub room_in : ℕ → ℕ → ℕ → ℕ → ℕ → Bool
room_in m n static slopes out = leb n static && (leb (n * m) slopes && leb n out)

pub record HasRoom (c : Card) (out : ℕ) (t : Bool) : Type 0 where
  pub is : t ≡ room_in c.inputs c.outputs (length c.static_margins.now) (length c.slopes.now) out

-- E and L are long enough
pub record Holds (c : Card) : Type 0 where
  pub few : Few c.inputs c.outputs
  pub static_there : c.outputs ≤ length c.static_margins.now
  pub slopes_there : c.outputs * c.inputs ≤ length c.slopes.now

-- "a card number is below 0 or over M or a ball isn't inside the domain"
abbrev pub numbers_in : ℕ → ℕ → List ℕ → List ℕ → Bool
numbers_in m n static slopes = leb (largest (take n static)) M && leb (largest (take (n * m) slopes)) M

pub record IsLow (c : Card) (t : Bool) : Type 0 where
  pub is : t ≡ numbers_in c.inputs c.outputs c.static_margins.now c.slopes.now

-- the numbers of a reading of the domain and of a ball that passed 13 to 15
pub record Small (domain given : Reading) : Type 0 where
  pub middle_small : nat_abs domain.centre ≤ M
  pub stray_small : nat_abs domain.margin ≤ M
  pub centre_small : nat_abs given.centre ≤ M
  pub margin_small : nat_abs given.margin ≤ M

-- a reading's ball
abbrev pub ball_of : Reading → Ball
ball_of g = ball g.centre (nat_abs g.margin)

pub record IsInside (domain given : Reading) (t : Bool) : Type 0 where
  pub is : t ≡ is_inside (ball_of domain) (ball_of given)

-- a domain and balls that passed 13 to 15
pub record Passed (m : ℕ) (domain readings : BallReadings) : Type 0 where
  pub inputs_few : m ≤ 16
  pub domain_fits : tested ball_kind m domain ≡ value (ball_kind.values domain)
  pub readings_fit : tested ball_kind m readings ≡ value (ball_kind.values readings)

pub record AllInside (domain readings : BallReadings) (t : Bool) : Type 0 where
  pub is : t ≡ all_inside (ball_kind.values domain) (ball_kind.values readings)
