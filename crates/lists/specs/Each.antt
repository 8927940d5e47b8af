-- What holds of every element of a list with its number.
use Rattle.std.specs.Prelude.{List, [], ◌∷◌, ℕ, suc}

-- P of each, the first with number v
pub data Each {A : Type 0} (P : ℕ → A → Type 0) : ℕ → List A → Type 0 where
  none : {v : ℕ} → Each P v []
  one : {v : ℕ} {a : A} {more : List A} → P v a → Each P (suc v) more → Each P v (a ∷ more)
