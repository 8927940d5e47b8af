-- What is known of reading lines of k numbers before their first column is read, and after the second.
use Rattle.std.specs.Prelude.{◌≡◌, List, ℕ, ◌≤◌, ℤ, length, Some}
use Rattle.rows.specs.Rows.{column_of}

-- at least j numbers on a line, two bytes or more for each of 8192 lines, and room for every answer
pub record Lined (j k : ℕ) (readings out : List ℕ) : Type 0 where
  pub numbers : j ≤ k
  pub short : length readings ≤ 16384
  pub room : 2048 ≤ length out

pub record SecondRead (k : ℕ) (readings : List ℕ) (first second : List ℤ) (out : List ℕ) : Type 0 where
  pub lined : Lined 2 k readings out
  pub first_is : column_of k 0 readings ≡ Some first
  pub second_is : column_of k 1 readings ≡ Some second
