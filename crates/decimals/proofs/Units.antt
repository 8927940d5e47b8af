-- Change of unit: what lies within r/w of c/u lies within R/v of C/v where R covers both the old margin and what C lost. Assumes nothing.
use mathlib.Core.Path.{refl}
use mathlib.Core.List.{[], ◌∷◌}
use Prim.Native.Nat.{ℕ, ◌+◌, ◌*◌, ◌^◌, ◌≤◌, ◌<◌}
use native.Mathlib.Nat.{mul-le-mul_right, le_of_mul-le-mul_right, mul-pos}
use native.Mathlib.Omega.{arith}
use lib.IntN.{ℤ, pos, nat_abs, ◌-ℤ◌, ◌*ℤ◌}
use lib.Pow.{pow_pos}
use Rattle.rules.specs.declared.Ball.{Ball}
use Rattle.rules.specs.Numbers.{Q}
use Rattle.rules.specs.Values.{Fraction, Contains}
use Rattle.whole.proofs.Ring.{ring, ◌⊕◌, ◌⊖◌, ◌⊗◌, x₀, x₁, x₂, x₃, x₄, x₅}
use Rattle.whole.proofs.Size.{size_by, size_add, size_mul}
use Rattle.numerals.proofs.Rounding.{ten_pos, ten_most}
use Rattle.numerals.specs.declared.Decimal.{Decimal}
use Rattle.decimals.specs.Units.{tens, top_places, Within}

pub tens_pos : (d : ℕ) → 0 < tens d
tens_pos = ten_pos

pub tens_small : {d : ℕ} → d ≤ top_places → tens d ≤ 10 ^ 9
tens_small = ten_most

-- n/e lies within r/w of c/u
pub record Around (u w : ℕ) (c : ℤ) (r : ℕ) (x : Fraction) : Type 0 where
  pub near : nat_abs (x.numerator *ℤ pos u -ℤ c *ℤ pos x.denominator) * w ≤ r * (u * x.denominator)

-- how far n/e is from c/u, from C/v, and these from each other, each times both denominators
abbrev miss : Fraction → ℕ → ℤ → ℤ
miss x u c = x.numerator *ℤ pos u -ℤ c *ℤ pos x.denominator

abbrev lost : ℕ → ℤ → ℕ → ℤ → ℤ
lost u c v C = c *ℤ pos v -ℤ C *ℤ pos u

split : (x : Fraction) (u v : ℕ) (c C : ℤ) → nat_abs (miss x v C) * u ≤ nat_abs (miss x u c) * v + nat_abs (lost u c v C) * x.denominator
split x u v c C =
    omega (
      arith,
      size_mul (miss x v C) (pos u),
      size_mul (miss x u c) (pos v),
      size_mul (lost u c v C) (pos x.denominator),
      size_by {n = nat_abs (miss x u c *ℤ pos v) + nat_abs (lost u c v C *ℤ pos x.denominator)}
          (ring (x.numerator ∷ c ∷ C ∷ pos u ∷ pos v ∷ pos x.denominator ∷ [])
          ((x₀ ⊗ x₄ ⊖ x₂ ⊗ x₅) ⊗ x₃) ((x₀ ⊗ x₃ ⊖ x₁ ⊗ x₅) ⊗ x₄ ⊕ (x₁ ⊗ x₄ ⊖ x₂ ⊗ x₃) ⊗ x₅) refl)
          (size_add (miss x u c *ℤ pos v) (lost u c v C *ℤ pos x.denominator)),
    )

-- where number and margin have one unit, a factor of it goes out
pub to_around : {v : ℕ} {C : ℤ} {R : ℕ} {x : Fraction}
    → nat_abs (x.numerator *ℤ pos v -ℤ C *ℤ pos x.denominator) ≤ R * x.denominator → Around v v C R x
to_around {v} {R = R} {x = x} l = record { near = omega (arith, mul-le-mul_right v l) }

pub from_around : {v : ℕ} {C : ℤ} {R : ℕ} {x : Fraction} → 0 < v → Around v v C R x
    → nat_abs (x.numerator *ℤ pos v -ℤ C *ℤ pos x.denominator) ≤ R * x.denominator
from_around {v} {R = R} {x = x} some p =
    le_of_mul-le-mul_right {k = v} (omega (arith, p.near)) some

-- the lemma of both directions
pub moved : {u w v : ℕ} {c C : ℤ} {r R : ℕ} {x : Fraction} → 0 < u → 0 < w
    → r * v * u + nat_abs (c *ℤ pos v -ℤ C *ℤ pos u) * w ≤ R * (u * w) → Around u w c r x → Around v v C R x
moved {u} {w} {v} {c} {C} {r} {R} {x} lu lw covers around = to_around near
  where
    e : ℕ
    e = x.denominator

    n : ℕ
    n = nat_abs (miss x v C)

    m : ℕ
    m = nat_abs (miss x u c)

    l : ℕ
    l = nat_abs (lost u c v C)

    near : n ≤ R * e
    near =
        le_of_mul-le-mul_right {k = u * w}
        (omega (
          arith,
          mul-le-mul_right w (split x u v c C),
          mul-le-mul_right v around.near,
          mul-le-mul_right e covers,
        ))
        (mul-pos lu lw)

-- so do a ball, and a decimal with its margin
pub contains_around : (F : ℕ) {b : Ball} {x : Fraction} → Contains F b x → Around (Q F) (Q F) b.centre b.margin x
contains_around F p = to_around p.near

pub around_contains : (F : ℕ) {b : Ball} {x : Fraction} → Around (Q F) (Q F) b.centre b.margin x → Contains F b x
around_contains F p = record { near = from_around (pow_pos F) p }

pub within_around : {y : Decimal ℤ} {m : Decimal ℕ} {x : Fraction} → Within y m x → Around (tens y.places) (tens m.places) y.count m.count x
within_around p = record { near = p.near }

pub around_within : {y : Decimal ℤ} {m : Decimal ℕ} {x : Fraction} → Around (tens y.places) (tens m.places) y.count m.count x → Within y m x
around_within p = record { near = p.near }
