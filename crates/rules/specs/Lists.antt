-- Values kept as one list a part: the lists that a caller lends, the values that stand in them, and what they hold
-- after values were written.
use Rattle.std.specs.Prelude.{◌≡◌, List, map, ℕ, ℤ, pos}
use Rattle.lists.specs.Over.{over}
use Rattle.lists.specs.Joined.{joined}
use Rattle.rules.specs.declared.Ball.{Ball}
use Rattle.rules.specs.declared.Matryoshka.{Matryoshka}
use Rattle.rules.specs.Balls.{ball}
use Rattle.rules.specs.Matryoshki.{matryoshka}

abbrev pub balls : List ℤ → List ℕ → List Ball
balls cs rs = joined ball cs rs

abbrev pub centres_of : List Ball → List ℤ
centres_of vs = map (λ (b : Ball). b.centre) vs

abbrev pub margins_of : List Ball → List ℕ
margins_of vs = map (λ (b : Ball). b.margin) vs

-- what stands where no ball is
abbrev pub no_ball : Ball
no_ball = ball (pos 0) 0

-- a list for the centres and one for the margins
pub record BallLists : Type 0 where
  pub centres : List ℤ
  pub margins : List ℕ

abbrev pub ball_lists : List ℤ → List ℕ → BallLists
ball_lists cs rs = record { centres = cs; margins = rs }

-- the balls over what the lists held
pub record HoldBalls (vs : List Ball) (old new : BallLists) : Type 0 where
  pub centres_hold : new.centres ≡ over (centres_of vs) old.centres
  pub margins_hold : new.margins ≡ over (margins_of vs) old.margins

abbrev pub matryoshki : List ℤ → List ℕ → List ℕ → List Matryoshka
matryoshki cs ss rs = joined (λ c (p : ℕ × ℕ). matryoshka c p.0 p.1) cs (joined (λ s r. (s, r)) ss rs)

abbrev pub middles_of : List Matryoshka → List ℤ
middles_of vs = map (λ (m : Matryoshka). m.middle) vs

abbrev pub strays_of : List Matryoshka → List ℕ
strays_of vs = map (λ (m : Matryoshka). m.stray) vs

abbrev pub static_margins_of : List Matryoshka → List ℕ
static_margins_of vs = map (λ (m : Matryoshka). m.margin) vs

abbrev pub no_matryoshka : Matryoshka
no_matryoshka = matryoshka (pos 0) 0 0

-- a list for the middles, one for the strays and one for the margins
pub record MatryoshkaLists : Type 0 where
  pub middles : List ℤ
  pub strays : List ℕ
  pub margins : List ℕ

abbrev pub matryoshka_lists : List ℤ → List ℕ → List ℕ → MatryoshkaLists
matryoshka_lists cs ss rs = record { middles = cs; strays = ss; margins = rs }

pub record HoldMatryoshki (vs : List Matryoshka) (old new : MatryoshkaLists) : Type 0 where
  pub middles_hold : new.middles ≡ over (middles_of vs) old.middles
  pub strays_hold : new.strays ≡ over (strays_of vs) old.strays
  pub margins_hold : new.margins ≡ over (static_margins_of vs) old.margins
