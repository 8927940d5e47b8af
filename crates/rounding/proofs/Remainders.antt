-- What rounding drops is the low bits of p + h; and how far two numbers are apart. Assumes nothing.
use mathlib.Core.Path.{◌≡◌, refl, sym, ◌∙◌, ap, ap₂, subst, subst₂}
use mathlib.Core.List.{[], ◌∷◌}
use Prim.Native.Nat.{ℕ, suc, ◌+◌, ◌-◌, ◌*◌, ◌/◌, ◌%◌, ◌^◌, ◌≤◌, ◌<◌}
use native.Mathlib.Nat.{mod-lt, div-le_self}
use native.Mathlib.Omega.{arith}
use lib.Bits.{bit_and, and_mask}
use lib.Dec.{T}
use lib.IntN.{ℤ, pos, negsuc, nat_abs, ◌+ℤ◌, ◌-ℤ◌, ◌*ℤ◌, +ℤ-neg_ℤ_cancel}
use lib.Pow.{pow-add, pow_pos}
use lib.Signed.{non_neg, quot_z}
use mir.Syntax.{w64}
use mir.Val.{SFits, Fits, of_z, to_z}
use Rattle.rules.specs.Numbers.{M, Q, h, top_scale, Round}
use Rattle.rules.proofs.Rounding.{round_drops}
use Rattle.whole.proofs.Ring.{ring, lit, ◌⊕◌, ◌⊖◌, ◌⊗◌, x₀, x₁, x₂, x₃}
use Rattle.whole.proofs.Size.{more, none, bounded, size_neg, size_add, size_sub_comm}
use Rattle.whole.proofs.Machine.{back, back_is, held_is, fits, fits_size}
use Rattle.rounding.proofs.Units.{unit_bound, half_bound}

pub apart_above : {x y : ℕ} → y ≤ x → x - y ≡ nat_abs (pos x -ℤ pos y)
apart_above {x} {y} l =
    let d = x - y in
    let whole : d + y ≡ x = omega arith in
    sym (ap (λ (n : ℕ). nat_abs (pos n -ℤ pos y)) (sym whole) ∙ ap nat_abs (+ℤ-neg_ℤ_cancel (pos d) (pos y)))

pub apart_below : {x y : ℕ} → x < y → y - x ≡ nat_abs (pos x -ℤ pos y)
apart_below {x} {y} l = apart_above (let k : x ≤ y = omega arith in k) ∙ size_sub_comm (pos y) (pos x)

-- the bits of a number, read as natural, are some units further up: none, or 2^64
record FurtherUp (F : ℕ) (z : ℤ) : Type 0 where
  units : ℕ
  is : pos (of_z w64 z) ≡ z +ℤ pos units *ℤ pos (Q F)

further_up : {F : ℕ} → F ≤ top_scale → (z : ℤ) → nat_abs z < 2 ^ 63 → FurtherUp F z
further_up {F} l (pos a) small = record { units = 0; is = ring (pos a ∷ pos (Q F) ∷ []) x₀ (x₀ ⊕ lit (pos 0) ⊗ x₁) refl }
further_up {F} l (negsuc a) small =
    let d = 2 ^ 64 - suc a in
    let back_up : d + suc a ≡ 2 ^ 64 = omega arith in
    let whole : 64 ≡ 64 - F + F = omega arith in
    record {
      units = 2 ^ (64 - F);
      is =
          sym (+ℤ-neg_ℤ_cancel (pos d) (pos (suc a))) ∙ ap (λ (n : ℕ). pos n +ℤ negsuc a) back_up
          ∙ ring (pos (2 ^ 64) ∷ negsuc a ∷ []) (x₀ ⊕ x₁) (x₁ ⊕ x₀) refl
          ∙ ap (λ (n : ℕ). negsuc a +ℤ pos n) (ap (λ (i : ℕ). 2 ^ i) whole ∙ pow-add 2 (64 - F) F);
    }

quotient_size : (z : ℤ) (u : ℕ) → nat_abs (quot_z z (pos u)) ≤ nat_abs z
quotient_size (pos a) u = div-le_self a u
quotient_size (negsuc a) u = subst (λ (n : ℕ). n ≤ suc a) (sym (size_neg (pos (suc a / u)))) (div-le_self (suc a) u)

pub half_added_fits : (p : ℤ) (n : ℕ) → nat_abs p ≤ M * M → n ≤ 2 ^ 30 → SFits w64 (back p +ℤ back (pos n))
half_added_fits p n f g = fits {ρ = p ∷ pos n ∷ []} (more f (more g none)) (x₀ ⊕ x₁) tt

-- the low bits of p + h
module _ (F : ℕ) (p : ℤ) (n u : ℕ) (f : nat_abs p ≤ M * M) (l : F ≤ top_scale) (is_half : n ≡ h F) (is_unit : u ≡ Q F) where
  half_small : n ≤ 2 ^ 30
  half_small = omega (arith, half_bound l)

  unit_small : u ≤ 2 ^ 30
  unit_small = omega (arith, unit_bound l)

  -- `%` by a unit is defined too, and is refused for what it leaves
  pub some_unit : 0 < u
  some_unit = omega (arith, pow_pos F)

  pub quotient_fits : SFits w64 (quot_z (back (back p +ℤ back (pos n))) (back (pos u)))
  quotient_fits =
      let near = more f (more half_small none) in
      let sum = held_is {ρ = p ∷ pos n ∷ []} near (x₀ ⊕ x₁) tt in
      let unit = back_is (pos u) (omega (arith, unit_small)) in
      let least = bounded {ρ = p ∷ pos n ∷ []} near (x₀ ⊕ x₁) in
      subst₂ (λ (x y : ℤ). SFits w64 (quot_z x y)) (sym sum) (sym unit) (fits_size (omega (arith, quotient_size (p +ℤ pos n) u, least)))

  pub unit_casts : SFits w64 (pos u)
  unit_casts = fits_size (omega (arith, unit_small))

  pub mask_fits : SFits w64 (back (pos u) -ℤ pos 1)
  mask_fits = fits {ρ = pos u ∷ []} (more unit_small none) (x₀ ⊖ lit (pos 1)) tt

  added : back p +ℤ back (pos n) ≡ p +ℤ pos (h F)
  added = ap₂ (λ (x y : ℤ). x +ℤ y) (back_is p (omega arith)) (back_is (pos n) (omega (arith, half_small)) ∙ ap pos is_half)

  mask : back (pos u) -ℤ pos 1 ≡ pos (Q F - 1)
  mask =
      let one_less : Q F - 1 + 1 ≡ u = omega (arith, some_unit) in
      ap (λ (z : ℤ). z -ℤ pos 1) (back_is (pos u) (omega (arith, unit_small)) ∙ ap pos (sym one_less)) ∙ +ℤ-neg_ℤ_cancel (pos (Q F - 1)) (pos 1)

  abbrev low : ℕ
  low = of_z w64 (p +ℤ pos (h F)) % Q F

  low_small : low < 2 ^ 30
  low_small = omega (arith, mod-lt (of_z w64 (p +ℤ pos (h F))) (pow_pos F), unit_bound l)

  masked : to_z w64 (bit_and (of_z w64 (back p +ℤ back (pos n))) (of_z w64 (back (pos u) -ℤ pos 1))) ≡ pos low
  masked =
      ap (to_z w64) (ap₂ (λ (x y : ℤ). bit_and (of_z w64 x) (of_z w64 y)) added mask ∙ and_mask (of_z w64 (p +ℤ pos (h F))) F)
      ∙ back_is (pos low) (omega (arith, low_small))

  pub masked_natural : T (non_neg (to_z w64 (bit_and (of_z w64 (back p +ℤ back (pos n))) (of_z w64 (back (pos u) -ℤ pos 1)))))
  masked_natural = subst (λ (z : ℤ). T (non_neg z)) (sym masked) tt

  pub masked_fits : Fits w64 (nat_abs (to_z w64 (bit_and (of_z w64 (back p +ℤ back (pos n))) (of_z w64 (back (pos u) -ℤ pos 1)))))
  masked_fits = record { fits = subst (λ (z : ℤ). nat_abs z < 2 ^ 64) (sym masked) (omega (arith, low_small)) }

  pub dropped : pos (nat_abs (to_z w64 (bit_and (of_z w64 (back p +ℤ back (pos n))) (of_z w64 (back (pos u) -ℤ pos 1)))))
      ≡ p +ℤ pos (h F) -ℤ Round F p *ℤ pos (Q F)
  dropped =
      let up = further_up l (p +ℤ pos (h F)) (omega (arith, size_add p (pos (h F)), half_bound l)) in
      ap (λ (z : ℤ). pos (nat_abs z)) masked ∙ round_drops F p up.units (of_z w64 (p +ℤ pos (h F))) up.is

-- what was dropped, and h, are as far apart as rounding lost
pub lost_apart : (F : ℕ) (p : ℤ) {r n : ℕ} → pos r ≡ p +ℤ pos (h F) -ℤ Round F p *ℤ pos (Q F) → n ≡ h F
    → nat_abs (pos r -ℤ pos n) ≡ nat_abs (p -ℤ Round F p *ℤ pos (Q F))
lost_apart F p e w =
    ap nat_abs
    (ap₂ (λ (z : ℤ) (i : ℕ). z -ℤ pos i) e w
    ∙ ring (p ∷ pos (h F) ∷ Round F p ∷ pos (Q F) ∷ []) (x₀ ⊕ x₁ ⊖ x₂ ⊗ x₃ ⊖ x₁) (x₀ ⊖ x₂ ⊗ x₃) refl)
