-- Request j, making a card, in parts: the tests, the admission, the ball run and the slopes in lists that are long enough for
-- every formula, and the outputs' numbers written last.
use Rattle.std.specs.Prelude.{◌≡◌, List, map, ℕ, ◌-◌, ◌*◌, ◌≤◌, ◌<◌, ℤ, pos, nat_abs, length, get_or, take}
use Rattle.lists.specs.Over.{over}
use Rattle.std.specs.declared.result.Result.TheVariants.{Ok, Err}
use Rattle.refusals.specs.declared.Refusal.TheVariants as refusal
use Rattle.refusals.specs.Said.{Reply}
use Rattle.refusals.specs.Places.{Verdict}
use Rattle.refusals.specs.Answer.{value, then}
use Rattle.refusals.specs.Places.{verdict_says}
use Rattle.refusals.specs.Said.{Said, refuses, reply_said}
use Rattle.rules.specs.declared.Ball.{Ball}
use Rattle.rules.specs.declared.Matryoshka.{Matryoshka}
use Rattle.rules.specs.Lists.{balls, static_margins_of}
use Rattle.bits.specs.declared.Cursor.{Cursor}
use Rattle.formulas.specs.declared.Header.{Header}
use Rattle.formulas.specs.Run.{Walk, finished, stopped, run, made_by, walk_end}
use Rattle.formulas.specs.Readings.{Domain, ball_readings}
use Rattle.formulas.specs.Kinds.{Kind, ball_kind, matryoshka_kind, tested}
use Rattle.packed.specs.Meaning.{meant, checked}
use Rattle.walks.specs.Walks.{Walked}
use Rattle.walks.specs.Walks.{AtOutputs, walked_said, StandsAfter}
use Rattle.slope_walk.specs.Grading.{row}
use Rattle.cards.specs.Slopes.{all_inputs, slope_run}
use Rattle.cards.specs.Card.{flat}
use Rattle.cards.specs.Making.{unless, all_still, card_room, card_made}
use Rattle.cards.specs.Lent.{CardLists, static_in, slopes_in, card_said}

-- m+l of the longest formula, and its slopes
abbrev pub all_places : ℕ
all_places = 528

abbrev pub all_slopes : ℕ
all_slopes = 8448

-- ---- the tests

-- "13 to 15", "22 after 15 for a margin that isn't 0 and 10 for any short list"
pub record Tests (h : Header) (g : Domain) (static_room slope_room : ℕ) (v : Verdict) : Type 0 where
  pub says : verdict_says v
      ≡ then (tested matryoshka_kind h.inputs g) (λ ms. then (unless refusal.MarginNotZero (all_still ms)) (λ x.
      unless refusal.NoRoom (card_room h static_room slope_room)))

-- ---- a run of either kind

-- h is the header of the formula in s, the readings fit it, and the lists have room for the values of every formula
pub record Runnable (K : Kind) (s : List ℕ) (h : Header) (g : K.Readings) (work : K.Lists) : Type 0 where
  pub is_formula : checked s ≡ value h
  pub fits : tested K h.inputs g ≡ value (K.values g)
  pub room : all_places ≤ K.room work

abbrev pub walk_on : (K : Kind) → List ℕ → Header → K.Readings → Walk K.Value
walk_on K s h g = run (K.rule h.scale) K.nothing (meant s).program (K.values g)

-- how it ends, and the values that it made
pub record Runs (K : Kind) (s : List ℕ) (h : Header) (g : K.Readings) (old new : K.Lists) (r : Walked) : Type 0 where
  pub says : walked_said r ≡ walk_end h.inputs (walk_on K s h g)
  pub holds : K.Holds (made_by (walk_on K s h g)) old new

-- ---- the admission

-- the formula in s has this header, and the domain fits it
pub record Begun (s : List ℕ) (h : Header) (g : Domain) : Type 0 where
  pub is_formula : checked s ≡ value h
  pub fits : tested matryoshka_kind h.inputs g ≡ value (matryoshka_kind.values g)

pub record Admissible (s : List ℕ) (h : Header) (g : Domain) (margins : List ℕ) : Type 0 where
  pub begun : Begun s h g
  pub margins_room : all_places ≤ length margins

abbrev pub admission : List ℕ → Header → Domain → Walk Matryoshka
admission s h g = walk_on matryoshka_kind s h g

-- how it ends, and the static margins of all values that it made
pub record Admits (s : List ℕ) (h : Header) (g : Domain) (old new : List ℕ) (r : Walked) : Type 0 where
  pub says : walked_said r ≡ walk_end h.inputs (admission s h g)
  pub holds : new ≡ over (static_margins_of (made_by (admission s h g))) old

-- ---- the ball run over (middle, stray), and the slopes

pub record Rangeable (s : List ℕ) (h : Header) (cs ss : List ℤ) : Type 0 where
  pub is_formula : checked s ≡ value h
  pub fits : tested ball_kind h.inputs (ball_readings cs ss) ≡ value (balls cs (map nat_abs ss))

abbrev pub range_walk : List ℕ → Header → List ℤ → List ℤ → Walk Ball
range_walk s h cs ss = walk_on ball_kind s h (ball_readings cs ss)

-- with room for all slopes
pub record Slopable (s : List ℕ) (h : Header) (cs ss : List ℤ) (slopes : List ℕ) : Type 0 where
  pub rangeable : Rangeable s h cs ss
  pub slopes_room : all_slopes ≤ length slopes

abbrev pub slope_walk : List ℕ → Header → List Ball → Walk (List ℕ)
slope_walk s h bs = slope_run h.scale h.inputs bs (meant s).program (all_inputs h.scale h.inputs)

-- the ball run's refusal, or how the slopes end
abbrev pub slopes_end : List ℕ → Header → Walk Ball → Said
slopes_end s h (finished bs) = walk_end h.inputs (slope_walk s h bs)
slopes_end s h (stopped n vs) = refuses n (length vs - h.inputs)

abbrev pub SlopesThere : List ℕ → Header → Walk Ball → List ℕ → List ℕ → Walked → Type 0
SlopesThere s h w old new (Ok d) = new ≡ over (flat (made_by (slope_walk s h (made_by w)))) old
SlopesThere s h w old new (Err e) = Unit {0}

pub record Slopes (s : List ℕ) (h : Header) (cs ss : List ℤ) (old new : List ℕ) (r : Walked) : Type 0 where
  pub says : walked_said r ≡ slopes_end s h (range_walk s h cs ss)
  pub there : SlopesThere s h (range_walk s h cs ss) old new r
  pub stands : StandsAfter s r

-- ---- the outputs' numbers

-- n outputs are named, each of a value that the work list has, and there is room for their numbers
pub record Pickable (os : List ℤ) (n : ℕ) (work out : List ℕ) : Type 0 where
  pub named : n ≤ length os
  pub below : (j : ℕ) → j < n → nat_abs (get_or os j (pos 0)) < all_places
  pub there : all_places ≤ length work
  pub room : n ≤ length out

abbrev pub picked_numbers : List ℤ → ℕ → List ℕ → List ℕ
picked_numbers os n work = map (λ z. get_or work (nat_abs z) 0) (take n os)

-- and so of m slopes each
pub record RowsPickable (os : List ℤ) (n m : ℕ) (work out : List ℕ) : Type 0 where
  pub named : n ≤ length os
  pub outputs_few : n ≤ 16
  pub inputs_few : m ≤ 16
  pub below : (j : ℕ) → j < n → nat_abs (get_or os j (pos 0)) < all_places
  pub there : all_slopes ≤ length work
  pub room : n * m ≤ length out

abbrev pub picked_rows : List ℤ → ℕ → ℕ → List ℕ → List (List ℕ)
picked_rows os n m work = map (λ z. row m (nat_abs z * m) work) (take n os)

-- a card's numbers in work lists, and room for them
pub record Writable (s : List ℕ) (h : Header) (c : Cursor) (margins slopes : List ℕ) (old : CardLists) : Type 0 where
  pub is_formula : checked s ≡ value h
  pub at_outputs : AtOutputs s c
  pub margins_there : all_places ≤ length margins
  pub slopes_there : all_slopes ≤ length slopes
  pub static_room : h.outputs ≤ length old.static
  pub slope_room : h.outputs * h.inputs ≤ length old.slopes

pub record Writes (s : List ℕ) (h : Header) (margins slopes : List ℕ) (old new : CardLists) : Type 0 where
  pub static_written : new.static ≡ over (map (λ o. get_or margins o 0) (meant s).results) old.static
  pub slopes_written : new.slopes ≡ over (flat (map (λ o. row h.inputs (o * h.inputs) slopes) (meant s).results)) old.slopes

-- ---- all of it

-- the tests are passed
pub record Startable (s : List ℕ) (h : Header) (g : Domain) (old : CardLists) : Type 0 where
  pub begun : Begun s h g
  pub static_room : h.outputs ≤ length old.static
  pub slope_room : h.outputs * h.inputs ≤ length old.slopes

pub record Makes (s : List ℕ) (g : Domain) (old new : CardLists) (r : Reply) : Type 0 where
  pub says : reply_said r ≡ card_said (card_made (meant s) (matryoshka_kind.values g))
  pub static_holds : new.static ≡ over (static_in (card_made (meant s) (matryoshka_kind.values g))) old.static
  pub slopes_hold : new.slopes ≡ over (slopes_in (card_made (meant s) (matryoshka_kind.values g))) old.slopes

abbrev pub card_lists : List ℕ → List ℕ → CardLists
card_lists E L = record { static = E; slopes = L }
