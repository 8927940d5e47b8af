-- Request j, using a card: each answer, given exactly when, in the order of the tests.
use Rattle.std.specs.Prelude.{◌≡◌, List, ◌⊎◌, ℕ, ◌≤◌, ◌<◌, ℤ, pos, length, get_or, take}
use Rattle.refusals.specs.Answer.{value}
use Rattle.refusals.specs.Places.{Placed, refused_at}
use Rattle.rules.specs.declared.Ball.{Ball}
use Rattle.rules.specs.Numbers.{M}
use Rattle.rules.specs.Lists.{no_ball}
use Rattle.formulas.specs.Readings.{balls_brought, ball_readings, Domain}
use Rattle.formulas.specs.Kinds.{ball_kind, tested}
use Rattle.formulas.specs.Formula.{Formula}
use Rattle.cards.specs.Card.{Card, Inside, flat}
use Rattle.cards.specs.GivenInMaking.{Misread}
use Rattle.cards.specs.Using.{Use, use_inputs, use_outputs, use_slopes, use_margins}

-- a signed number from one limit to the other
pub data InRange (least most : ℕ) : ℤ → Type 0 where
  in_range : {n : ℕ} → least ≤ n → n ≤ most → InRange least most (pos n)

-- F is 0 to 30, m 0 to 16, n 1 to 16
pub record Asked (u : Use) : Type 0 where
  pub scale : InRange 0 30 u.scale
  pub inputs : InRange 0 16 u.inputs
  pub outputs : InRange 1 16 u.outputs

-- the domain has passed 13 to 15
pub record Based (u : Use) : Type 0 where
  pub asked : Asked u
  pub domain : List Ball
  pub domain_fits : tested ball_kind (use_inputs u) u.domain ≡ value domain

-- and so have the balls
pub record Read (u : Use) : Type 0 where
  pub based : Based u
  pub readings : List Ball
  pub readings_fit : tested ball_kind (use_inputs u) u.readings ≡ value readings

-- 10 "for any short list"
abbrev pub ShortUse : Use → ℕ → Type 0
ShortUse u room =
    (length u.static < use_outputs u) ⊎ ((length u.slopes < use_slopes u) ⊎ (room < use_outputs u))

-- one of the first n numbers of a list is over M
pub record OverM (n : ℕ) (l : List ℕ) : Type 0 where
  pub index : ℕ
  pub among : index < n
  pub over : M < get_or l index 0

-- "a ball isn't inside the domain"
pub record OneOutside (m : ℕ) (ds bs : List Ball) : Type 0 where
  pub index : ℕ
  pub among : index < m
  pub outside : Inside (get_or ds index no_ball) (get_or bs index no_ball) → ⊥

-- "a card number is below 0 or over M or a ball isn't inside the domain"
pub data Misfit (u : Use) (ds bs : List Ball) : Type 0 where
  static_over : OverM (use_outputs u) u.static → Misfit u ds bs
  slope_over : OverM (use_slopes u) u.slopes → Misfit u ds bs
  ball_outside : OneOutside (use_inputs u) ds bs → Misfit u ds bs

-- the lists are long enough, and the card and the balls fit
pub record Fits (u : Use) (room : ℕ) : Type 0 where
  pub read : Read u
  pub roomy : ShortUse u room → ⊥
  pub fits : Misfit u read.based.domain read.readings → ⊥

-- "the first output (the place) whose sum passes M"
pub record FirstOver (sums : List ℕ) (k : ℕ) : Type 0 where
  pub among : k < length sums
  pub over : M < get_or sums k 0
  pub none_before : (j : ℕ) → j < k → get_or sums j 0 ≤ M

abbrev pub sums_of : {u : Use} {room : ℕ} → Fits u room → List ℕ
sums_of {u} f = use_margins u f.read.readings

-- "3, 4, 13 to 15 (domain, then balls), 10, then 20 .., then 11"
pub data UseAnswer (u : Use) (room : ℕ) : Placed (List ℕ) → Type 0 where
  three : (InRange 0 30 u.scale → ⊥) → UseAnswer u room (refused_at 3 0)
  four : InRange 0 30 u.scale → (InRange 0 16 u.inputs → ⊥) ⊎ (InRange 1 16 u.outputs → ⊥)
      → UseAnswer u room (refused_at 4 0)
  of_domain : Asked u → {n k : ℕ} → Misread (use_inputs u) (balls_brought u.domain) n k
      → UseAnswer u room (refused_at n k)
  of_balls : Based u → {n k : ℕ} → Misread (use_inputs u) (balls_brought u.readings) n k
      → UseAnswer u room (refused_at n k)
  ten : Read u → ShortUse u room → UseAnswer u room (refused_at 10 0)
  twenty : (r : Read u) → (ShortUse u room → ⊥) → Misfit u r.based.domain r.readings
      → UseAnswer u room (refused_at 20 0)
  eleven : (f : Fits u room) → {k : ℕ} → FirstOver (sums_of f) k → UseAnswer u room (refused_at 11 k)
  margins : (f : Fits u room) → ((k : ℕ) → FirstOver (sums_of f) k → ⊥) → UseAnswer u room (value (sums_of f))

-- a use of the card that was made of this formula over this domain: the same scale and counts, the domain's middles and
-- strays, and the card in front of the two lists
pub record UsesCard (f : Formula) (g : Domain) (k : Card) (u : Use) : Type 0 where
  pub same_scale : u.scale ≡ pos f.header.scale
  pub same_inputs : u.inputs ≡ pos f.header.inputs
  pub same_outputs : u.outputs ≡ pos f.header.outputs
  pub same_domain : u.domain ≡ ball_readings g.middles g.strays
  pub holds_static : take (use_outputs u) u.static ≡ k.static
  pub holds_slopes : take (use_slopes u) u.slopes ≡ flat k.slopes
