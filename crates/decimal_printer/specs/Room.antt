-- Room for a text.
use Rattle.std.specs.Prelude.{List, ℕ, ◌+◌, ◌≤◌, length}

-- "a number of decimals d from 0 to 9", and so many bytes from a place on
pub record Room (bytes d at : ℕ) (out : List ℕ) : Type 0 where
  pub decimals_few : d ≤ 9
  pub there : at + bytes ≤ length out
