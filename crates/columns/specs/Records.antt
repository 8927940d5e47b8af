-- The readings as records, read off as two lists, and what a copy of the first of them holds.
use Rattle.std.specs.Prelude.{◌≡◌, List, [], ◌∷◌, ◌++◌, map, ℕ, ◌<◌, ◌≤◌, ℤ, length, take}
use Rattle.columns.specs.declared.MarginsBall.{MarginsBall}
use Rattle.columns.specs.declared.Columns.{Columns}

abbrev pub centre_of : MarginsBall → ℤ
centre_of x = x.centre

abbrev pub margin_of : MarginsBall → ℤ
margin_of x = x.margin

-- as many as there are, up to 17
pub record AtMost17 (n r : ℕ) : Type 0 where
  pub at_most : r ≤ 17
  pub there : r ≤ n
  pub all : r < 17 → r ≡ n

-- the columns begin with these records
pub record Columned (l : Columns) (xs : List MarginsBall) : Type 0 where
  pub counted : l.count ≡ length xs
  pub within : length xs ≤ 17
  pub centres_long : length l.centres ≡ 17
  pub margins_long : length l.margins ≡ 17
  pub centres_are : take (length xs) l.centres ≡ map centre_of xs
  pub margins_are : take (length xs) l.margins ≡ map margin_of xs

-- they are as long as they are counted to be
pub record WithinColumns (l : Columns) : Type 0 where
  pub centres_there : l.count ≤ length l.centres
  pub margins_there : l.count ≤ length l.margins

-- the record comes after those that were there
abbrev pub Added : Columns → MarginsBall → Columns → Type 0
Added l x r = (xs : List MarginsBall) → Columned l xs → Columned r (xs ++ (x ∷ []))
