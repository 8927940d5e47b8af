-- The three kinds of values that a formula runs on: "plain (bare readings), ball (a centre and a margin each), admit (a
-- matryoshka each)".
use Rattle.std.specs.Prelude.{◌≡◌, List, [], ◌∷◌, ◌++◌, map, ℕ, ◌≤◌, ◌<◌, ℤ, pos, nat_abs, length, get_or, take}
use Rattle.lists.specs.Over.{over, least}
use Rattle.refusals.specs.Answer.{Answer, value, then}
use Rattle.refusals.specs.Places.{Placed}
use Rattle.rules.specs.declared.Ball.{Ball}
use Rattle.rules.specs.declared.Matryoshka.{Matryoshka}
use Rattle.rules.specs.Values.{Allowed, IsBall, IsMatryoshka}
use Rattle.rules.specs.Operation.{Operation}
use Rattle.rules.specs.Plain.{plain_rule}
use Rattle.rules.specs.Balls.{ball_rule}
use Rattle.rules.specs.Matryoshki.{matryoshka_rule}
use Rattle.rules.specs.Lists.{
  balls,
  no_ball,
  BallLists,
  HoldBalls,
  matryoshki,
  no_matryoshka,
  MatryoshkaLists,
  HoldMatryoshki,
}
use Rattle.formulas.specs.Readings.{BallReadings, Domain, Brought}
use Rattle.formulas.specs.Readings.{plain_brought, balls_brought, domain_brought, readings_tested}

pub record Kind : Type 1 where
  pub Value : Type 0
  -- what stands where no value is named
  pub nothing : Value
  pub Legal : Value → Type 0
  pub rule : ℕ → Operation Value → Answer Value
  -- what a caller brings, as readings that are tested, and the values that they stand for
  pub Readings : Type 0
  pub brought : Readings → Brought
  pub values : Readings → List Value
  -- the lists that a caller lends: how many places each has at least, the first values in them, what they hold after
  -- values were written
  pub Lists : Type 0
  pub room : Lists → ℕ
  pub front : ℕ → Lists → List Value
  pub Holds : List Value → Lists → Lists → Type 0

abbrev pub plain_kind : Kind
plain_kind =
    record {
      Value = ℤ;
      nothing = pos 0;
      Legal = Allowed;
      rule = plain_rule;
      Readings = List ℤ;
      brought = plain_brought;
      values = λ xs. xs;
      Lists = List ℤ;
      room = length;
      front = take;
      Holds = λ vs old new. new ≡ over vs old;
    }

abbrev pub ball_kind : Kind
ball_kind =
    record {
      Value = Ball;
      nothing = no_ball;
      Legal = IsBall;
      rule = ball_rule;
      Readings = BallReadings;
      brought = balls_brought;
      values = λ g. balls g.centres (map nat_abs g.margins);
      Lists = BallLists;
      room = λ l. least (length l.centres) (length l.margins);
      front = λ n l. balls (take n l.centres) (take n l.margins);
      Holds = HoldBalls;
    }

abbrev pub matryoshka_kind : Kind
matryoshka_kind =
    record {
      Value = Matryoshka;
      nothing = no_matryoshka;
      Legal = IsMatryoshka;
      rule = matryoshka_rule;
      Readings = Domain;
      brought = domain_brought;
      values = λ g. matryoshki g.middles (map nat_abs g.strays) (map nat_abs g.margins);
      Lists = MatryoshkaLists;
      room = λ l. least (length l.middles) (least (length l.strays) (length l.margins));
      front = λ n l. matryoshki (take n l.middles) (take n l.strays) (take n l.margins);
      Holds = HoldMatryoshki;
    }

-- what stands at place i of the lists
pub record Stands (K : Kind) (i : ℕ) (l : K.Lists) (v : K.Value) : Type 0 where
  pub is : (made : ℕ) → i < made → made ≤ K.room l → v ≡ get_or (K.front made l) i K.nothing

-- what reading i stands for
pub record StandsFor (K : Kind) (i : ℕ) (g : K.Readings) (v : K.Value) : Type 0 where
  pub is : v ≡ get_or (K.values g) i K.nothing

-- a value put at place i, behind those before it
pub record Puts (K : Kind) (i : ℕ) (v : K.Value) (old new : K.Lists) : Type 0 where
  pub holds : K.Holds (K.front i old ++ v ∷ []) old new

-- the m values of what a caller brings, or the refusal
abbrev pub tested : (K : Kind) → ℕ → K.Readings → Placed (List K.Value)
tested K m given = then (readings_tested m (K.brought given)) (λ x. value (K.values given))
