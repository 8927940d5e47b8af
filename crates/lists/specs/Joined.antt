-- Two lists side by side.
use Rattle.std.specs.Prelude.{List, [], ◌∷◌}

-- one value of each pair, as far as the shorter goes
abbrev pub joined : {A B C : Type 0} → (A → B → C) → List A → List B → List C
joined f [] ys = []
joined f (x ∷ xs) [] = []
joined f (x ∷ xs) (y ∷ ys) = f x y ∷ joined f xs ys

-- two lists as long as each other, related one by one
pub data Rel {A B : Type 0} (R : A → B → Type 0) : List A → List B → Type 0 where
  none : Rel R [] []
  one : {a : A} {b : B} {vs : List A} {ws : List B} → R a b → Rel R vs ws → Rel R (a ∷ vs) (b ∷ ws)
