-- A test of a signed number, in the code's shape. Assumes nothing.
use mathlib.Core.Path.{◌≡◌, refl, sym, ◌∙◌, ap, ap₂, subst}
use mathlib.Core.Bool.{Bool, true, false, ◌&&◌}
use Prim.Native.Nat.{ℕ, ◌+◌, ◌-◌, ◌≤◌}
use native.Mathlib.Omega.{arith}
use borrow.Author.Tests.{leb-true, leb-false, le-leb, lt-leb}
use lib.Dec.{leb}
use lib.IntN.{ℤ, pos, negsuc, nat_abs}
use lib.Signed.{le_z}
use mir.Syntax.{w64}
use mir.Val.{SFits}
use mir.ValLaws.{to_z-of_z}
use Rattle.whole.proofs.Cases.{never}
use Rattle.whole.proofs.Machine.{back}
use Rattle.rules.specs.Numbers.{M}
use Rattle.packed.specs.Items.{margin}
use Rattle.packing.specs.Slots.{encoded}
use Rattle.packing.specs.Packing.{fits}
use Rattle.packing.proofs.Formats.{twos_complement_encoded}
use Rattle.fitting.specs.Sizes.{coefficient_fits}

-- a sum within M, as a part within what the other leaves
shifted : (n r : ℕ) → n ≤ M → leb (n + r) M ≡ leb r (M - n)
shifted n r l = by_test (leb (n + r) M) refl
  where
    by_test : (t : Bool) → leb (n + r) M ≡ t → t ≡ leb r (M - n)
    by_test true e = let a = leb-true (n + r) M e in sym (le-leb r (M - n) (omega arith))
    by_test false e = let a = leb-false (n + r) M e in sym (lt-leb r (M - n) (omega arith))

-- ---- a centre and its margin

module _ (c r : ℤ) (fc : SFits w64 c) (fr : SFits w64 r) {n : ℕ} (size_is : n ≡ nat_abs (back c)) where
  size : n ≡ nat_abs c
  size = size_is ∙ ap nat_abs (to_z-of_z w64 c fc)

  pub reach_asked : {k : ℕ} → le_z (pos 0) (back r) ≡ true → n ≤ M → k ≡ nat_abs (back r) → leb k (M - n) ≡ coefficient_fits c r
  reach_asked {k} e l kr =
      by_sign r (subst (λ (x : ℤ). le_z (pos 0) x ≡ true) (to_z-of_z w64 r fr) e) (kr ∙ ap nat_abs (to_z-of_z w64 r fr))
    where
      allowed : nat_abs c ≤ M
      allowed = subst (λ (m : ℕ). m ≤ M) size l

      by_sign : (r : ℤ) → le_z (pos 0) r ≡ true → k ≡ nat_abs r → leb k (M - n) ≡ coefficient_fits c r
      by_sign (pos r) e kr =
          ap₂ (λ (i m : ℕ). leb i (M - m)) kr size
          ∙ sym
          (ap (λ (t : Bool). t && fits (margin (encoded c)) (pos r)) (le-leb (nat_abs c) M allowed)
          ∙ ap (λ (z : ℤ). leb (nat_abs z + r) M) (twos_complement_encoded c allowed)
          ∙ shifted (nat_abs c) r allowed)
      by_sign (negsuc r) e kr = never (sym e)
