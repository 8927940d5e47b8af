-- A signed number from 0 on and below a limit.
use Rattle.std.specs.Prelude.{Bool, false, ◌&&◌, ℕ, leb, ltb, ℤ, pos, negsuc}

abbrev pub is_below : ℕ → ℤ → Bool
is_below limit (pos n) = leb 0 n && ltb n limit
is_below limit (negsuc n) = false
