-- What `margins` prints, as the code comes to it.
use Rattle.std.specs.Prelude.{List, ℕ, ◌≤◌, length}
use Rattle.lists.specs.Written.{Wrote}
use Rattle.telling.specs.Program.{program_text}

-- the whole answer, inside the list
pub record Prints (input old now : List ℕ) (r : ℕ) : Type 0 where
  pub writes : Wrote (program_text input) 0 old now r
  pub within : r ≤ length now
