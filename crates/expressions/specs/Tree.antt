-- What a text says: letters, numbers as written, and what is done with them.
use Rattle.std.specs.Prelude.{ℕ}

pub data Tree : Type 0 where
  -- the letter a is input 0
  input : ℕ → Tree
  -- the digits as one number, and how many of them stand after the point
  written : ℕ → ℕ → Tree
  negated : Tree → Tree
  sum : Tree → Tree → Tree
  difference : Tree → Tree → Tree
  product : Tree → Tree → Tree
