-- What a list holds after bytes were written into it from a place on.
use Rattle.std.specs.Prelude.{◌≡◌, List, ◌++◌, ℕ, ◌+◌, ◌≤◌, length, take, drop}

-- the new bytes from place `at` on; before and behind them what it held
abbrev pub written : ℕ → List ℕ → List ℕ → List ℕ
written at new old = take at old ++ new ++ drop (at + length new) old

-- `new` was written from place `at` on, inside the list, and `next` is the place after it
pub record Wrote (new : List ℕ) (at : ℕ) (old now : List ℕ) (next : ℕ) : Type 0 where
  pub room : at + length new ≤ length old
  pub after : next ≡ at + length new
  pub holds : now ≡ written at new old
