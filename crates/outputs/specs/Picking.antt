-- The values that a checked formula's output fields name, picked from the work lists.
use Rattle.std.specs.Prelude.{◌≡◌, List, map, ℕ, ◌≤◌, pos, get_or}
use Rattle.lists.specs.Over.{over}
use Rattle.rules.specs.Lists.{BallLists, MatryoshkaLists}
use Rattle.bits.specs.declared.Cursor.{Cursor}
use Rattle.formulas.specs.Formula.{places}
use Rattle.formulas.specs.Kinds.{Kind}
use Rattle.packed.specs.Meaning.{meant}
use Rattle.walks.specs.Walks.{AtOutputs}

-- the cursor stands at the outputs, of which there are `count`, the work lists have all values and the others room
pub record Pickable (s : List ℕ) (c : Cursor) (count work output : ℕ) : Type 0 where
  pub at_outputs : AtOutputs s c
  pub counts : count ≡ (meant s).header.outputs
  pub few : count ≤ 16
  pub enough : places (meant s).header ≤ work
  pub room : count ≤ output

-- what stands at the places named; d stands where none is
abbrev pub at_places : {A : Type 0} → A → List ℕ → List A → List A
at_places d os work = map (λ o. get_or work o d) os

-- the values that the outputs name, among those that stand in the lists
abbrev pub outputs_in : (K : Kind) → List ℕ → K.Lists → List K.Value
outputs_in K s work = at_places K.nothing (meant s).results (K.front (places (meant s).header) work)

pub record Picks (K : Kind) (s : List ℕ) (work old new : K.Lists) : Type 0 where
  pub holds : K.Holds (outputs_in K s work) old new

-- the same list by list, of balls and of matryoshki
pub record PicksBalls (os : List ℕ) (work old new : BallLists) : Type 0 where
  pub centres_picked : new.centres ≡ over (at_places (pos 0) os work.centres) old.centres
  pub margins_picked : new.margins ≡ over (at_places 0 os work.margins) old.margins

pub record PicksMatryoshki (os : List ℕ) (work old new : MatryoshkaLists) : Type 0 where
  pub middles_picked : new.middles ≡ over (at_places (pos 0) os work.middles) old.middles
  pub strays_picked : new.strays ≡ over (at_places 0 os work.strays) old.strays
  pub margins_picked : new.margins ≡ over (at_places 0 os work.margins) old.margins
