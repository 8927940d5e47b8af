-- What holds of every element of a list.
use Rattle.std.specs.Prelude.{List, [], ◌∷◌}

pub data All {A : Type 0} (P : A → Type 0) : List A → Type 0 where
  none : All P []
  one : {a : A} {l : List A} → P a → All P l → All P (a ∷ l)
