-- What the tests of the two jobs answer.
use Rattle.std.specs.Prelude.{◌≡◌, Bool, true, false, ◌&&◌, ℕ, ◌≤◌, ◌<◌, leb, ℤ, nat_abs}
use Rattle.std.specs.declared.result.Result.{Result}
use Rattle.std.specs.declared.result.Result.TheVariants.{Ok, Err}
use Rattle.refusals.specs.declared.Refusal.{Refusal}
use Rattle.refusals.specs.declared.Refusal.TheVariants as refusal
use Rattle.whole.specs.Limits.{is_below}
use Rattle.rules.specs.declared.Ball.{Ball}
use Rattle.rules.specs.Numbers.{M}
use Rattle.rules.specs.Values.{ball_reach}

-- a number from 0 on and below a limit, or else a refusal
abbrev pub NaturalIs : ℕ → Refusal → ℤ → Result ℕ Refusal → Type 0
NaturalIs limit why z (Ok n) = (is_below limit z ≡ true) × (n ≡ nat_abs z)
NaturalIs limit why z (Err r) = (is_below limit z ≡ false) × (r ≡ why)

pub record Natural (limit : ℕ) (why : Refusal) (z : ℤ) (r : Result ℕ Refusal) : Type 0 where
  pub is : NaturalIs limit why z r

-- whether a ball's reach is at most M
abbrev pub ReachIs : Ball → Result (Unit {0}) Refusal → Type 0
ReachIs b (Ok u) = ball_reach b ≤ M
ReachIs b (Err r) = (M < ball_reach b) × (r ≡ refusal.BallReach)

pub record InReach (b : Ball) (r : Result (Unit {0}) Refusal) : Type 0 where
  pub is : ReachIs b r

-- whether two lists have a place each
abbrev pub have_places : ℕ → ℕ → Bool
have_places centres margins = leb 1 centres && leb 1 margins

abbrev pub PlacesAre : ℕ → ℕ → Result (Unit {0}) Refusal → Type 0
PlacesAre centres margins (Ok u) = have_places centres margins ≡ true
PlacesAre centres margins (Err r) = (have_places centres margins ≡ false) × (r ≡ refusal.NoRoom)

pub record HavePlaces (centres margins : ℕ) (r : Result (Unit {0}) Refusal) : Type 0 where
  pub are : PlacesAre centres margins r

-- and a third one so many
abbrev pub have_room : ℕ → ℕ → ℕ → ℕ → Bool
have_room bytes text centres margins = leb bytes text && have_places centres margins

abbrev pub RoomIs : ℕ → ℕ → ℕ → ℕ → Result (Unit {0}) Refusal → Type 0
RoomIs bytes text centres margins (Ok u) = have_room bytes text centres margins ≡ true
RoomIs bytes text centres margins (Err r) = (have_room bytes text centres margins ≡ false) × (r ≡ refusal.NoRoom)

pub record HaveRoom (bytes text centres margins : ℕ) (r : Result (Unit {0}) Refusal) : Type 0 where
  pub is : RoomIs bytes text centres margins r
