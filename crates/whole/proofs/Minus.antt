-- 0 less a number without a sign, as the machine computes it. Assumes nothing.
use mathlib.Core.Path.{◌≡◌, refl, sym, ◌∙◌, ap, subst}
use Prim.Native.Nat.{ℕ, zero, suc, ◌^◌, ◌<◌}
use native.Mathlib.Omega.{arith}
use lib.IntN.{pos, neg_ℤ, nat_abs, ◌-ℤ◌, +ℤ_idl}
use mir.Syntax.{w64}
use mir.Val.{SFits, to_z}
use mir.ValLaws.{to_z_pos, to_z-of_z}
use Rattle.whole.proofs.Machine.{back, fits_size}

pub size_minus : (n : ℕ) → nat_abs (neg_ℤ (pos n)) ≡ n
size_minus zero = refl
size_minus (suc n) = refl

module _ {n : ℕ} (l : n < 2 ^ 63) where
  pub count_fits : SFits w64 (pos n)
  count_fits = fits_size l

  minus_is : pos 0 -ℤ to_z w64 n ≡ neg_ℤ (pos n)
  minus_is = ap (λ z. pos 0 -ℤ z) (to_z_pos w64 n l) ∙ +ℤ_idl (neg_ℤ (pos n))

  pub minus_fits : SFits w64 (pos 0 -ℤ to_z w64 n)
  minus_fits = subst (SFits w64) (sym minus_is) (fits_size (omega (arith, size_minus n)))

  pub minus_back : back (pos 0 -ℤ to_z w64 n) ≡ neg_ℤ (pos n)
  minus_back = to_z-of_z w64 (pos 0 -ℤ to_z w64 n) minus_fits ∙ minus_is
