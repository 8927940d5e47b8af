-- Document 01, "Numbers": the scale, the unit, the limit, and the two ways to round.
use Rattle.std.specs.Prelude.{ℕ, zero, suc, ◌+◌, ◌-◌, ◌/◌, ◌^◌, ℤ, pos, ◌+ℤ◌}
use Rattle.std.specs.Int.Signed.{shr_z}

-- "The scale F is 0 to 30."
abbrev pub top_scale : ℕ
top_scale = 30

-- "One unit is 2^-F. Let Q = 2^F"
abbrev pub Q : ℕ → ℕ
Q F = 2 ^ F

-- "let h = Q/2 when F is at least 1, h = 0 when F is 0"
unfoldable pub h : ℕ → ℕ
h zero = 0
h (suc f) = Q (suc f) / 2

-- "M = 2147483647."
abbrev pub M : ℕ
M = 2147483647

-- the floor of z/q: n/q at z = n, and −(n/q + 1) at z = −(n + 1), where n/q is rounded down
abbrev pub floor : ℤ → ℕ → ℤ
floor z q = shr_z z q

-- "Round(p) = the floor of (p + h)/Q. A tie goes towards plus infinity, for negative p too."
unfoldable pub Round : ℕ → ℤ → ℤ
Round F p = floor (p +ℤ pos (h F)) (Q F)

-- p/q rounded up, for q at least 1
abbrev pub ceiling : ℕ → ℕ → ℕ
ceiling p q = (p + (q - 1)) / q

-- "Up(p) = p/Q rounded up, for p at least 0."
unfoldable pub Up : ℕ → ℕ → ℕ
Up F p = ceiling p (Q F)
