-- A step that divides: what a test of 17 says of the operand, and the centre as the machine keeps it. Assumes nothing.
use mathlib.Core.Path.{◌≡◌, sym, ◌∙◌, ap, subst}
use Prim.Native.Nat.{ℕ, ◌≤◌, ◌<◌}
use native.Mathlib.Omega.{arith}
use lib.IntN.{ℤ, nat_abs}
use Rattle.rules.specs.Numbers.{M}
use Rattle.rules.specs.Reciprocals.{top_reciprocal_scale, Inverse, inexact}
use Rattle.rules.proofs.Reciprocal.{inexact_most}
use Rattle.rules.proofs.Quotients.{T_most, inverse_size}
use Rattle.whole.proofs.Machine.{back, back_is}

-- a centre that was kept is as it was
pub kept : (a : ℤ) → nat_abs a ≤ M → back a ≡ a
kept a p = back_is a (omega arith)

-- n is the size of a, as the code takes it
module _ (a : ℤ) {n : ℕ} (most : nat_abs a ≤ M) (size : n ≡ nat_abs (back a)) where
  pub size_is : n ≡ nat_abs a
  size_is = size ∙ ap nat_abs (kept a most)

  pub kept_most : nat_abs (back a) ≤ M
  kept_most = subst (λ (z : ℤ). nat_abs z ≤ M) (sym (kept a most)) most

  pub kept_some : {d : ℕ} → d < n → 0 < nat_abs (back a)
  kept_some l = omega (arith, size)

  module _ (F : ℕ) (scaled : F ≤ top_reciprocal_scale) where
    pub centre_held : {z : ℤ} → 0 < n → z ≡ Inverse F (back a) → back z ≡ Inverse F a
    centre_held l e =
        ap back (e ∙ ap (Inverse F) (kept a most))
        ∙ back_is (Inverse F a) (omega (arith, inverse_size F a (omega (arith, size_is)), T_most F scaled))

    pub inexact_held : {m : ℕ} → m ≡ inexact F (back a) → m ≡ inexact F a
    inexact_held e = e ∙ ap (inexact F) (kept a most)

    pub missed_most : {m : ℕ} → m ≡ inexact F (back a) → m ≤ 1
    missed_most e = omega (arith, e, inexact_most F (back a))
