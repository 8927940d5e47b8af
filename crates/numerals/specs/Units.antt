-- Request h: a number "is rounded to units with ties up".
use Rattle.std.specs.Prelude.{Bool, ℕ, ◌+◌, ◌*◌, ◌/◌, ◌^◌, eqb}
use Rattle.rules.specs.Numbers.{Q}

-- v/10^e in units: the floor of v·Q/10^e + 1/2
unfoldable pub units : ℕ → ℕ → ℕ → ℕ
units F v e = (2 * (v * Q F) + 10 ^ e) / (2 * 10 ^ e)

-- nothing was lost
abbrev pub is_exact : ℕ → ℕ → ℕ → Bool
is_exact F v e = eqb (units F v e * 10 ^ e) (v * Q F)
