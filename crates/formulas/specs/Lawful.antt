-- What every kind of values keeps.
use Rattle.std.specs.Prelude.{◌≡◌, List, [], ℕ, ◌≤◌, length}
use Rattle.lists.specs.All.{All}
use Rattle.refusals.specs.Refusals.{AtStep}
use Rattle.refusals.specs.Answer.{value, refused}
use Rattle.rules.specs.Operation.{Operation}
use Rattle.formulas.specs.Kinds.{Kind, tested}

-- as many values as were asked for, each legal
pub record Values (K : Kind) (m : ℕ) (vs : List K.Value) : Type 0 where
  pub many : length vs ≡ m
  pub legal : All K.Legal vs

-- its rule's results are legal, tested readings are m legal values, and lists hold what was written
pub record Lawful (K : Kind) : Type 0 where
  pub rule_legal : (F : ℕ) (o : Operation K.Value) {v : K.Value} → K.rule F o ≡ value v → K.Legal v
  pub rule_refused : (F : ℕ) (o : Operation K.Value) {n : ℕ} → K.rule F o ≡ refused n → AtStep n
  pub tested_values : (m : ℕ) (g : K.Readings) {vs : List K.Value} → tested K m g ≡ value vs → Values K m vs
  pub front_many : (n : ℕ) (l : K.Lists) → n ≤ K.room l → length (K.front n l) ≡ n
  pub holds_none : (l : K.Lists) → K.Holds [] l l
  pub holds_front : (n : ℕ) (l : K.Lists) → n ≤ K.room l → K.Holds (K.front n l) l l
  pub holds_over : (vs ws : List K.Value) (old now new : K.Lists) → length vs ≤ length ws → K.Holds vs old now → K.Holds ws now new
      → K.Holds ws old new
  pub front_holds : (vs : List K.Value) (n : ℕ) (old now : K.Lists) → length vs ≡ n → K.Holds vs old now → K.front n now ≡ vs
  pub room_holds : (vs : List K.Value) (old now : K.Lists) → length vs ≤ K.room old → K.Holds vs old now → K.room now ≡ K.room old
  pub holds_one : (vs : List K.Value) (old a b : K.Lists) → K.Holds vs old a → K.Holds vs old b → a ≡ b
