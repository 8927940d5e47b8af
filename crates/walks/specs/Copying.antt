-- The values of what a caller brings, copied to the front of the work lists.
use Rattle.std.specs.Prelude.{◌≡◌, ℕ, ◌≤◌}
use Rattle.refusals.specs.Answer.{value}
use Rattle.formulas.specs.Kinds.{Kind, tested}

-- the readings have passed, and there is a place for each
pub record Copyable (K : Kind) (m : ℕ) (g : K.Readings) (l : K.Lists) : Type 0 where
  pub passed : tested K m g ≡ value (K.values g)
  pub room : m ≤ K.room l

pub record Copies (K : Kind) (g : K.Readings) (old new : K.Lists) : Type 0 where
  pub holds : K.Holds (K.values g) old new
