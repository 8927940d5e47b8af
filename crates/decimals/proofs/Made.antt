-- `ball_of` on 64 bits: every part fits, and the machine holds what the rule says. Assumes nothing.
use mathlib.Core.Path.{◌≡◌, ◌∙◌, ap, ap₂}
use mathlib.Core.List.{[], ◌∷◌}
use Prim.Native.Nat.{ℕ, ◌+◌, ◌*◌, ◌/◌, ◌%◌, ◌^◌, ◌≤◌, min}
use native.Mathlib.Nat.{mul-le-mul}
use native.Mathlib.Omega.{arith}
use lib.IntN.{ℤ, pos, nat_abs, ◌*ℤ◌}
use lib.Signed.{lt_z}
use mir.Syntax.{w64}
use mir.Val.{SFits, Fits, to_z}
use Rattle.rules.specs.Numbers.{Q, ceiling}
use Rattle.rules.specs.Balls.{ball}
use Rattle.rounding.proofs.Units.{unit_bound}
use Rattle.whole.proofs.Machine.{back, back_is, fits, held_is}
use Rattle.whole.proofs.Ring.{◌⊗◌, x₀, x₁}
use Rattle.whole.proofs.Size.{Within, more, none}
use Rattle.reciprocals.specs.Nearest.{Dividing, nearest, unless_divides, signed}
use Rattle.reciprocals.proofs.Inverses.{ceiling_is}
use Rattle.reciprocals.proofs.Quotients.{signed_is}
use Rattle.numerals.proofs.Rounding.{ten_some}
use Rattle.numerals.specs.declared.Decimal.{Decimal}
use Rattle.decimals.specs.Units.{tens}
use Rattle.decimals.specs.In.{Readable, in_margin, into}
use Rattle.decimals.proofs.Units.{tens_small}
use Rattle.decimals.proofs.Small.{in_fits}

-- the number y, give or take m, q being a unit
module _ {F : ℕ} {y : Decimal ℤ} {m : Decimal ℕ} (k : Readable F y m) {q : ℕ} (unit : q ≡ Q F) where
  unit_small : q ≤ 2 ^ 30
  unit_small = omega (arith, unit_bound k.scale)

  bounds : Within (y.count ∷ pos q ∷ []) (10 ^ 9 ∷ 2 ^ 30 ∷ [])
  bounds = let l : nat_abs y.count ≤ 10 ^ 9 = omega (arith, k.number) in more l (more unit_small none)

  pub product_fits : SFits w64 (back y.count *ℤ to_z w64 q)
  product_fits = fits bounds (x₀ ⊗ x₁) tt

  -- y·Q, as the machine makes it
  product_is : back (back y.count *ℤ to_z w64 q) ≡ y.count *ℤ pos (Q F)
  product_is = held_is bounds (x₀ ⊗ x₁) tt ∙ ap (λ (n : ℕ). y.count *ℤ pos n) unit

  pub widened_fits : Fits w64 (m.count * q)
  widened_fits =
      let l : m.count ≤ 10 ^ 9 = omega (arith, k.margin) in
      record { fits = omega (arith, mul-le-mul {n₂ = 10 ^ 9} l unit_small) }

  -- y·Q and its power of ten
  module _ {s t : ℕ} (size : s ≡ nat_abs (back (back y.count *ℤ to_z w64 q))) (ten : t ≡ tens y.places) where
    size_is : s ≡ nat_abs (y.count *ℤ pos (Q F))
    size_is = size ∙ ap nat_abs product_is

    pub number_divides : Dividing s t
    number_divides =
        record {
          dividend = rw size_is (in_fits k).scaled;
          some = ten_some y.places ten;
          most = omega (arith, ten, tens_small k.places);
        }

    number_is : signed (lt_z (back (back y.count *ℤ to_z w64 q)) (pos 0)) s ≡ y.count *ℤ pos (Q F)
    number_is = rw (size, signed_is (back (back y.count *ℤ to_z w64 q))) product_is

    -- and m·Q and its own
    module _ {u : ℕ} (margin_ten : u ≡ tens m.places) {w n : ℕ} (wide : w ≡ m.count * q / u + min 1 (m.count * q % u))
        (more_is : n ≡ unless_divides (signed (lt_z (back (back y.count *ℤ to_z w64 q)) (pos 0)) s) t) where
      margin_is : w + n ≡ in_margin F y m
      margin_is =
          ap₂ (λ (a b : ℕ). a + b)
          (wide ∙ ceiling_is (m.count * q) (ten_some m.places margin_ten) ∙ ap₂ (λ (a b : ℕ). ceiling (m.count * a) b) unit margin_ten)
          (more_is ∙ ap₂ unless_divides number_is ten)

      pub margin_fits : Fits w64 (w + n)
      margin_fits = record { fits = omega (arith, margin_is, (in_fits k).margin) }

      pub ball_made : {c : ℤ} → c ≡ nearest (signed (lt_z (back (back y.count *ℤ to_z w64 q)) (pos 0)) s) t → ball (back c) (w + n) ≡ into F y m
      ball_made e =
          ap₂ ball (ap back (e ∙ ap₂ nearest number_is ten) ∙ back_is _ (omega (arith, (in_fits k).centre))) margin_is
