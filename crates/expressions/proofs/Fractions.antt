-- Fractions that are the same number give such fractions, and are in the same balls. Assumes nothing.
use mathlib.Core.Path.{◌≡◌, refl, sym, ◌∙◌, ap, ap₂}
use mathlib.Core.List.{[], ◌∷◌}
use Prim.Native.Nat.{ℕ, ◌*◌}
use native.Mathlib.Nat.{mul-le-mul_right, le_of_mul-le-mul_right}
use native.Mathlib.Omega.{arith}
use lib.IntN.{ℤ, pos, neg_ℤ, nat_abs, ◌+ℤ◌, ◌-ℤ◌, ◌*ℤ◌}
use Rattle.rules.specs.declared.Ball.{Ball}
use Rattle.rules.specs.Numbers.{Q}
use Rattle.rules.specs.Values.{Fraction, Contains}
use Rattle.whole.proofs.Laws.{neg_mulℤ}
use Rattle.whole.proofs.Size.{size_mul}
use Rattle.whole.proofs.Ring.{ring, ◌⊕◌, ◌⊖◌, ◌⊗◌, x₀, x₁, x₂, x₃, x₄, x₅}
use Rattle.expressions.specs.Compiled.{Same, minus, plus, less, by}

pub minus_same : {x y : Fraction} → Same x y → Same (minus x) (minus y)
minus_same {x} {y} p =
    record {
      crosswise =
          neg_mulℤ x.numerator (pos y.denominator) ∙ ap neg_ℤ p.crosswise ∙ sym (neg_mulℤ y.numerator (pos x.denominator));
    }

module _ {x x' y y' : Fraction} (p : Same x x') (q : Same y y') where
  abbrev xd : ℤ
  xd = pos x.denominator

  abbrev xd' : ℤ
  xd' = pos x'.denominator

  abbrev yd : ℤ
  yd = pos y.denominator

  abbrev yd' : ℤ
  yd' = pos y'.denominator

  pub plus_same : Same (plus x y) (plus x' y')
  plus_same =
      record {
        crosswise =
            ring (x.numerator ∷ xd ∷ y.numerator ∷ yd ∷ xd' ∷ yd' ∷ []) ((x₀ ⊗ x₃ ⊕ x₂ ⊗ x₁) ⊗ (x₄ ⊗ x₅)) ((x₀ ⊗ x₄) ⊗ (x₃ ⊗ x₅) ⊕ (x₂ ⊗ x₅) ⊗ (x₁ ⊗ x₄)) refl
            ∙ ap₂ (λ (a b : ℤ). a *ℤ (yd *ℤ yd') +ℤ b *ℤ (xd *ℤ xd')) p.crosswise q.crosswise
            ∙ ring (x'.numerator ∷ xd' ∷ y'.numerator ∷ yd' ∷ xd ∷ yd ∷ []) ((x₀ ⊗ x₄) ⊗ (x₅ ⊗ x₃) ⊕ (x₂ ⊗ x₅) ⊗ (x₄ ⊗ x₁)) ((x₀ ⊗ x₃ ⊕ x₂ ⊗ x₁) ⊗ (x₄ ⊗ x₅)) refl;
      }

  pub less_same : Same (less x y) (less x' y')
  less_same =
      record {
        crosswise =
            ring (x.numerator ∷ xd ∷ y.numerator ∷ yd ∷ xd' ∷ yd' ∷ []) ((x₀ ⊗ x₃ ⊖ x₂ ⊗ x₁) ⊗ (x₄ ⊗ x₅)) ((x₀ ⊗ x₄) ⊗ (x₃ ⊗ x₅) ⊖ (x₂ ⊗ x₅) ⊗ (x₁ ⊗ x₄)) refl
            ∙ ap₂ (λ (a b : ℤ). a *ℤ (yd *ℤ yd') -ℤ b *ℤ (xd *ℤ xd')) p.crosswise q.crosswise
            ∙ ring (x'.numerator ∷ xd' ∷ y'.numerator ∷ yd' ∷ xd ∷ yd ∷ []) ((x₀ ⊗ x₄) ⊗ (x₅ ⊗ x₃) ⊖ (x₂ ⊗ x₅) ⊗ (x₄ ⊗ x₁)) ((x₀ ⊗ x₃ ⊖ x₂ ⊗ x₁) ⊗ (x₄ ⊗ x₅)) refl;
      }

  pub by_same : Same (by x y) (by x' y')
  by_same =
      record {
        crosswise =
            ring (x.numerator ∷ y.numerator ∷ xd' ∷ yd' ∷ []) ((x₀ ⊗ x₁) ⊗ (x₂ ⊗ x₃)) ((x₀ ⊗ x₂) ⊗ (x₁ ⊗ x₃)) refl
            ∙ ap₂ (λ (a b : ℤ). a *ℤ b) p.crosswise q.crosswise
            ∙ ring (x'.numerator ∷ y'.numerator ∷ xd ∷ yd ∷ []) ((x₀ ⊗ x₂) ⊗ (x₁ ⊗ x₃)) ((x₀ ⊗ x₁) ⊗ (x₂ ⊗ x₃)) refl;
      }

-- a ball that contains a fraction contains every fraction that is the same number
pub contains_same : (F : ℕ) {b : Ball} {x y : Fraction} → Contains F b x → Same x y → Contains F b y
contains_same F {b} {x} {y} p q =
    record {
      near =
          le_of_mul-le-mul_right {k = x.denominator}
          (omega (
            arith,
            size_mul (y.numerator *ℤ pos (Q F) -ℤ b.centre *ℤ pos y.denominator) (pos x.denominator),
            size_mul (x.numerator *ℤ pos (Q F) -ℤ b.centre *ℤ pos x.denominator) (pos y.denominator),
            ap nat_abs crossed,
            mul-le-mul_right y.denominator p.near,
            regroup b.margin x.denominator y.denominator,
          ))
          x.at_least_one;
    }
  where
    crossed : (y.numerator *ℤ pos (Q F) -ℤ b.centre *ℤ pos y.denominator) *ℤ pos x.denominator ≡ (x.numerator *ℤ pos (Q F) -ℤ b.centre *ℤ pos x.denominator) *ℤ pos y.denominator
    crossed =
        ring (y.numerator ∷ pos (Q F) ∷ b.centre ∷ pos y.denominator ∷ pos x.denominator ∷ []) ((x₀ ⊗ x₁ ⊖ x₂ ⊗ x₃) ⊗ x₄) ((x₀ ⊗ x₄) ⊗ x₁ ⊖ x₂ ⊗ x₃ ⊗ x₄) refl
        ∙ ap (λ (z : ℤ). z *ℤ pos (Q F) -ℤ b.centre *ℤ pos y.denominator *ℤ pos x.denominator) (sym q.crosswise)
        ∙ ring (x.numerator ∷ pos (Q F) ∷ b.centre ∷ pos y.denominator ∷ pos x.denominator ∷ []) ((x₀ ⊗ x₃) ⊗ x₁ ⊖ x₂ ⊗ x₃ ⊗ x₄) ((x₀ ⊗ x₁ ⊖ x₂ ⊗ x₄) ⊗ x₃) refl

    regroup : (r m n : ℕ) → r * m * n ≡ r * n * m
    regroup r m n = ap nat_abs (ring (pos r ∷ pos m ∷ pos n ∷ []) (x₀ ⊗ x₁ ⊗ x₂) (x₀ ⊗ x₂ ⊗ x₁) refl)
