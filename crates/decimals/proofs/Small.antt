-- No number on the way from a decimal to its ball reaches 2^62. Assumes nothing.
use Prim.Native.Nat.{ℕ, ◌+◌, ◌-◌, ◌*◌, ◌^◌, ◌≤◌, ◌<◌}
use native.Mathlib.Nat.{le_trans, le_of_eq, mul-le-mul, mul-le-mul_left}
use native.Mathlib.Omega.{arith}
use lib.IntN.{ℤ, pos, nat_abs, ◌+ℤ◌, ◌*ℤ◌}
use Rattle.rules.specs.Numbers.{Q}
use Rattle.rules.proofs.Quotients.{ceiling_small}
use Rattle.rounding.proofs.Units.{unit_bound}
use Rattle.whole.proofs.Size.{size_add, size_mul, size_near, size_sub_comm}
use Rattle.numerals.specs.declared.Decimal.{Decimal}
use Rattle.decimals.specs.Units.{tens}
use Rattle.reciprocals.specs.Nearest.{nearest}
use Rattle.decimals.specs.In.{Readable, in_centre, in_margin}
use Rattle.decimals.proofs.Units.{tens_pos, tens_small}
use Rattle.decimals.proofs.In.{nearest_loss, unless_most}

-- the nearest whole number is no larger than what is divided, and one divisor
pub nearest_most : (z : ℤ) (t : ℕ) → 0 < t → nat_abs (nearest z t) ≤ nat_abs z + t
nearest_most z t some =
    omega (
      arith,
      size_near (nearest z t *ℤ pos t) z (le_trans (le_of_eq (size_sub_comm (nearest z t *ℤ pos t) z)) (nearest_loss z t some)),
      size_mul (nearest z t) (pos t),
      mul-le-mul_left (nat_abs (nearest z t)) some,
    )

pub record InFits (F : ℕ) (y : Decimal ℤ) (m : Decimal ℕ) : Type 0 where
  pub scaled : nat_abs (y.count *ℤ pos (Q F)) < 2 ^ 60
  pub doubled : nat_abs (pos 2 *ℤ (y.count *ℤ pos (Q F)) +ℤ pos (tens y.places)) < 2 ^ 62
  pub centre : nat_abs (in_centre F y) < 2 ^ 61
  pub widened : m.count * Q F + (tens m.places - 1) < 2 ^ 61
  pub margin : in_margin F y m < 2 ^ 61

pub in_fits : {F : ℕ} {y : Decimal ℤ} {m : Decimal ℕ} → Readable F y m → InFits F y m
in_fits {F} {y} {m} k =
    record {
      scaled = omega (arith, scaled);
      doubled = omega (arith, scaled, size_add (pos 2 *ℤ z) (pos (tens y.places)), size_mul (pos 2) z, tens_small k.places);
      centre = omega (arith, scaled, nearest_most z (tens y.places) (tens_pos y.places), tens_small k.places);
      widened = omega (arith, widened, tens_small k.margin_places);
      margin = omega (arith, widened, ceiling_small (m.count * Q F) (tens_pos m.places), unless_most z (tens y.places));
    }
  where
    z : ℤ
    z = y.count *ℤ pos (Q F)

    scaled : nat_abs (y.count *ℤ pos (Q F)) ≤ (10 ^ 9 - 1) * 2 ^ 30
    scaled = le_trans (le_of_eq (size_mul y.count (pos (Q F)))) (mul-le-mul {n₂ = 10 ^ 9 - 1} (omega (arith, k.number)) (unit_bound k.scale))

    widened : m.count * Q F ≤ (10 ^ 9 - 1) * 2 ^ 30
    widened = mul-le-mul {n₂ = 10 ^ 9 - 1} (omega (arith, k.margin)) (unit_bound k.scale)
