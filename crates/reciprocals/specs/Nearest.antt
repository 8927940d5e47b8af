-- A quotient rounded to the nearest whole number, a tie towards plus infinity, and whether it was whole.
use Rattle.std.specs.Prelude.{Bool, cond, ℕ, ◌*◌, ◌%◌, ◌^◌, ◌<◌, eqb, ℤ, pos, nat_abs, neg_ℤ, ◌+ℤ◌, ◌*ℤ◌}
use Rattle.rules.specs.Numbers.{floor}

-- the floor of z/t + 1/2
unfoldable pub nearest : ℤ → ℕ → ℤ
nearest z t = floor (pos 2 *ℤ z +ℤ pos t) (2 * t)

-- 1 unless t divides z
unfoldable pub unless_divides : ℤ → ℕ → ℕ
unless_divides z t = cond (eqb (nat_abs z % t) 0) 0 1

-- a number by its sign and its size
abbrev pub signed : Bool → ℕ → ℤ
signed below n = cond below (neg_ℤ (pos n)) (pos n)

-- what the machine divides
pub record Dividing (p t : ℕ) : Type 0 where
  pub dividend : p < 2 ^ 60
  pub some : 0 < t
  pub most : t < 2 ^ 31
