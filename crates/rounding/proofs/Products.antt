-- A product of two centres and its rounding on 64 bits: every part fits, and the machine holds what the rules say. Assumes nothing.
use mathlib.Core.Path.{◌≡◌, sym, ◌∙◌, ap, ap₂, subst}
use Prim.Native.Nat.{ℕ, ◌+◌, ◌*◌, ◌^◌, ◌≤◌}
use native.Mathlib.Nat.{le_trans, le-mul_of_pos_right}
use native.Mathlib.Omega.{arith}
use lib.IntN.{ℤ, pos, nat_abs, ◌*ℤ◌}
use lib.Pow.{pow_pos}
use Rattle.rules.specs.Numbers.{M, Q, h, top_scale, Round}
use Rattle.rules.proofs.Rounding.{round_loss}
use Rattle.whole.proofs.Ring.{◌⊗◌, x₀, x₁}
use Rattle.whole.proofs.Size.{bounded, size_mul, size_near, size_sub_comm}
use Rattle.whole.proofs.Machine.{back, back_is, held_is}
use Rattle.rounding.proofs.Units.{half_bound}
use Rattle.rounding.proofs.Linear.{two}

-- a centre that was kept is as it was
pub kept : (a : ℤ) → nat_abs a ≤ M → back a ≡ a
kept a p = back_is a (omega arith)

pub kept_size : (a : ℤ) → nat_abs a ≤ M → nat_abs (back a) ≤ M
kept_size a p = subst (λ (z : ℤ). nat_abs z ≤ M) (sym (kept a p)) p

pub kept_product : (a b : ℤ) → nat_abs a ≤ M → nat_abs b ≤ M → back a *ℤ back b ≡ a *ℤ b
kept_product a b p q = ap₂ (λ (x y : ℤ). x *ℤ y) (kept a p) (kept b q)

pub product_size : (a b : ℤ) → nat_abs a ≤ M → nat_abs b ≤ M → nat_abs (a *ℤ b) ≤ M * M
product_size a b p q = bounded (two a b p q) (x₀ ⊗ x₁)

pub product_held : (a b : ℤ) → nat_abs a ≤ M → nat_abs b ≤ M → back (back a *ℤ back b) ≡ a *ℤ b
product_held a b p q = held_is (two a b p q) (x₀ ⊗ x₁) tt

pub product_held_size : (a b : ℤ) → nat_abs a ≤ M → nat_abs b ≤ M → nat_abs (back (back a *ℤ back b)) ≤ M * M
product_held_size a b p q = subst (λ (z : ℤ). nat_abs z ≤ M * M) (sym (product_held a b p q)) (product_size a b p q)

-- the rounded product, times Q
pub rounded_size : {F : ℕ} (p : ℤ) → F ≤ top_scale → nat_abs p ≤ M * M → nat_abs (Round F p *ℤ pos (Q F)) ≤ M * M + 2 ^ 30
rounded_size {F} p f l =
    le_trans
    (size_near (Round F p *ℤ pos (Q F)) p (subst (λ (n : ℕ). n ≤ h F) (size_sub_comm p (Round F p *ℤ pos (Q F))) (round_loss F p)))
    (omega (arith, half_bound f))

pub round_size : {F : ℕ} (p : ℤ) → F ≤ top_scale → nat_abs p ≤ M * M → nat_abs (Round F p) ≤ M * M + 2 ^ 30
round_size {F} p f l =
    le_trans (le-mul_of_pos_right (nat_abs (Round F p)) (pow_pos F))
    (subst (λ (n : ℕ). n ≤ M * M + 2 ^ 30) (size_mul (Round F p) (pos (Q F))) (rounded_size p f l))

-- the rounded product, kept
pub round_held : {F : ℕ} (f : F ≤ top_scale) (a b : ℤ) {r : ℤ} → nat_abs a ≤ M → nat_abs b ≤ M → r ≡ Round F (a *ℤ b) → back r ≡ Round F (a *ℤ b)
round_held {F} f a b p q e =
    ap back e ∙ back_is (Round F (a *ℤ b)) (omega (arith, round_size (a *ℤ b) f (product_size a b p q)))
