-- Request f: "the bits, read as sign, significand and power of two, mean that very number", and the double of c/2^F.
use Rattle.std.specs.Prelude.{◌≡◌, Bool, true, false, cond, ℕ, ◌+◌, ◌-◌, ◌*◌, ◌/◌, ◌%◌, ◌^◌, ◌<◌, leb, eqb, Float, ℤ, pos, negsuc}
use Rattle.std.specs.Float.{binary64}
use Rattle.std.specs.Float.Ieee.{of_int, div, to_bits}
use Rattle.rules.specs.Numbers.{Q}

-- IEEE 754, binary64: the sign S is bit 63, the biased exponent E bits 62 to 52, the trailing significand T bits 51 to 0
abbrev pub sign_of : ℕ → Bool
sign_of b = leb (2 ^ 63) b

abbrev pub exponent_of : ℕ → ℕ
exponent_of b = b % 2 ^ 63 / 2 ^ 52

abbrev pub trailing_of : ℕ → ℕ
trailing_of b = b % 2 ^ 52

-- "if E is 0 the significand is T, and otherwise 2^52 + T": the leading bit is not written
abbrev pub significand_of : ℕ → ℕ
significand_of b = cond (eqb (exponent_of b) 0) (trailing_of b) (2 ^ 52 + trailing_of b)

-- the power of two: E − 1075, and −1074 where E is 0; here how far it is above −1074
abbrev pub power_of : ℕ → ℕ
power_of b = exponent_of b - 1

-- the bits mean ± n/d: no infinity and no NaN (E is 2047), that sign, and significand · 2^(power − 1074) is n/d
pub record Means (b : ℕ) (negative : Bool) (n d : ℕ) : Type 0 where
  pub finite : exponent_of b < 2047
  pub sign : sign_of b ≡ negative
  pub size : significand_of b * 2 ^ power_of b * d ≡ n * 2 ^ 1074

abbrev pub is_negative : ℤ → Bool
is_negative (pos n) = false
is_negative (negsuc n) = true

-- c units as a double: c divided by Q, each of them a double
unfoldable pub double : ℕ → ℤ → Float
double F c = div binary64 (of_int binary64 c) (of_int binary64 (pos (Q F)))

-- its 64 bits
abbrev pub double_bits : ℕ → ℤ → ℕ
double_bits F c = to_bits binary64 (double F c)
