-- Whether a signed number is from 0 on and below a limit, in the code's shape, and what is known of one that is. Assumes
-- nothing.
use mathlib.Core.Path.{◌≡◌, refl, sym, ◌∙◌, ap, subst}
use mathlib.Core.Bool.{Bool, true, false, not, ◌&&◌}
use Prim.Native.Nat.{ℕ, suc, ◌^◌, ◌≤◌, ◌<◌}
use native.Mathlib.Omega.{arith}
use borrow.Author.Tests.{ltb-true, not-false}
use lib.Dec.{T, leb, ltb, leb-zero}
use lib.IntN.{ℤ, pos, negsuc, nat_abs}
use lib.Signed.{lt_z, non_neg}
use mir.Syntax.{w32, w64}
use mir.Val.{SFits, Fits}
use mir.ValLaws.{to_z-of_z}
use Rattle.whole.specs.Limits.{is_below}
use Rattle.whole.proofs.Cases.{never, both}
use Rattle.whole.proofs.Machine.{back}

pub negative_out : (limit : ℕ) (z : ℤ) → SFits w64 z → lt_z (back z) (pos 0) ≡ true → false ≡ is_below limit z
negative_out limit z f e = by_sign z (subst (λ (x : ℤ). lt_z x (pos 0) ≡ true) (to_z-of_z w64 z f) e)
  where
    by_sign : (z : ℤ) → lt_z z (pos 0) ≡ true → false ≡ is_below limit z
    by_sign (pos n) e = absurd (let l = ltb-true n 0 e in omega arith)
    by_sign (negsuc n) e = refl

pub natural_below : (limit : ℕ) (z : ℤ) {n : ℕ} → SFits w64 z → lt_z (back z) (pos 0) ≡ false → n ≡ nat_abs (back z)
    → ltb n limit ≡ is_below limit z
natural_below limit z {n} f e k =
    by_sign z (subst (λ (x : ℤ). lt_z x (pos 0) ≡ false) (to_z-of_z w64 z f) e) (k ∙ ap nat_abs (to_z-of_z w64 z f))
  where
    by_sign : (z : ℤ) → lt_z z (pos 0) ≡ false → n ≡ nat_abs z → ltb n limit ≡ is_below limit z
    by_sign (pos n) e k = ap (λ (i : ℕ). ltb i limit) k ∙ sym (ap (λ (t : Bool). t && ltb n limit) (leb-zero n))
    by_sign (negsuc n) e k = never e

-- what the code asked of a number as the machine keeps it
pub asked : (limit : ℕ) {z : ℤ} {t u : Bool} → SFits w64 z → t ≡ is_below limit (back z) → t ≡ u → is_below limit z ≡ u
asked limit {z} f e k = ap (is_below limit) (sym (to_z-of_z w64 z f)) ∙ sym e ∙ k

-- a number that passed
pub record Natural (limit : ℕ) (z : ℤ) : Type 0 where
  pub is : pos (nat_abs z) ≡ z
  pub sign : T (non_neg z)
  pub small : nat_abs z < limit

pub natural : (limit : ℕ) (z : ℤ) → is_below limit z ≡ true → Natural limit z
natural limit (pos n) e = record { is = refl; sign = tt; small = ltb-true n limit (both (leb 0 n) (ltb n limit) e).1 }
natural limit (negsuc n) e = never (sym e)

-- and as the code passes it on
module _ (limit : ℕ) {z : ℤ} {t : Bool} (f : SFits w64 z) (e : t ≡ is_below limit (back z)) (good : not t ≡ false) where
  pub passed : Natural limit (back z)
  passed = natural limit (back z) (sym e ∙ not-false t good)

  pub passed_natural : T (non_neg (back z))
  passed_natural = passed.sign

pub passed_most : (top : ℕ) {z : ℤ} {t : Bool} → SFits w64 z → t ≡ is_below (suc top) (back z) → not t ≡ false → nat_abs (back z) ≤ top
passed_most top f e good = let l = (passed (suc top) f e good).small in omega arith

pub passed_fits : (limit : ℕ) (small : limit ≤ 2 ^ 32) {z : ℤ} {t : Bool} → SFits w64 z → t ≡ is_below limit (back z) → not t ≡ false
    → Fits w32 (nat_abs (back z))
passed_fits limit small f e good = let l = (passed limit f e good).small in record { fits = omega arith }
