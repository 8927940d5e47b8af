-- The code's tests of one reading are the rules'. Assumes nothing.
use mathlib.Core.Path.{◌≡◌, sym, ◌∙◌, ap}
use mathlib.Core.Bool.{Bool, true, false, not}
use mathlib.Core.Logic.{inl, inr}
use Prim.Native.Nat.{ℕ, ◌+◌, zero-le}
use native.Mathlib.Omega.{arith}
use borrow.Author.Tests.{le-ltb, leb-true, leb-false, not-true, not-false}
use lib.Dec.{leb}
use lib.IntN.{ℤ, pos, negsuc, nat_abs}
use lib.Signed.{lt_z}
use mir.Syntax.{w64}
use mir.Val.{SFits}
use mir.ValLaws.{to_z-of_z}
use Rattle.whole.proofs.Machine.{back, size_back}
use Rattle.rules.specs.Numbers.{M}
use Rattle.refusals.specs.declared.Refusal.TheVariants.{NegativeMargin, ReadingTooLarge}
use Rattle.std.specs.declared.result.Result.TheVariants.{Ok, Err}
use Rattle.refusals.specs.Places.{because, at_place}
use Rattle.formulas.specs.Readings.{reading}
use Rattle.formulas.specs.GivenInRuns.{BelowZero, Negative, Bad}
use Rattle.formulas.proofs.Judging.{negative_judged, large_judged, good_judged}
use Rattle.readings.specs.Judges.{Judges}

bare_sign : (z : ℤ) → SFits w64 z → {t : Bool} → lt_z (back z) (pos 0) ≡ t → lt_z z (pos 0) ≡ t
bare_sign z f e = ap (λ (x : ℤ). lt_z x (pos 0)) (sym (to_z-of_z w64 z f)) ∙ e

below_zero : (z : ℤ) → lt_z z (pos 0) ≡ true → BelowZero z
below_zero (pos n) e = absurd (let z : ◌≡◌ {A = ℕ} 0 1 = let t = sym (le-ltb n 0 zero-le) ∙ e in cc in omega arith)
below_zero (negsuc n) e = tt

at_least_zero : (z : ℤ) → lt_z z (pos 0) ≡ false → BelowZero z → ⊥
at_least_zero (pos n) e b = b
at_least_zero (negsuc n) e b = let z : ◌≡◌ {A = ℕ} 0 1 = cc in omega arith

-- the four ways to come out of the tests
module _ {c s r : ℤ} {at : ℕ} where
  pub told_stray : SFits w64 s → lt_z (back s) (pos 0) ≡ true → Judges (reading c s r) at (Err (because NegativeMargin at))
  told_stray f t = record { says = sym (ap (at_place at) (negative_judged (reading c s r) (inl (below_zero s (bare_sign s f t))))) }

  pub told_margin : SFits w64 r → lt_z (back r) (pos 0) ≡ true → Judges (reading c s r) at (Err (because NegativeMargin at))
  told_margin f t = record { says = sym (ap (at_place at) (negative_judged (reading c s r) (inr (below_zero r (bare_sign r f t))))) }

module _ {c s r : ℤ} (fs : SFits w64 s) (fr : SFits w64 r) (fc : SFits w64 c) (ts : lt_z (back s) (pos 0) ≡ false)
    (tr : lt_z (back r) (pos 0) ≡ false) {a b d : ℕ} (p : a ≡ nat_abs (back c)) (q : b ≡ nat_abs (back s)) (w : d ≡ nat_abs (back r)) where
  neither : Negative (reading c s r) → ⊥
  neither (inl n) = at_least_zero s (bare_sign s fs ts) n
  neither (inr n) = at_least_zero r (bare_sign r fr tr) n

  same : a + b + d ≡ nat_abs c + nat_abs s + nat_abs r
  same = omega (arith, p ∙ size_back c fc.sfits, q ∙ size_back s fs.sfits, w ∙ size_back r fr.sfits)

  module _ {fits : Bool} (e : fits ≡ leb (a + b + d) M) {at : ℕ} where
    pub told_large : not fits ≡ true → Judges (reading c s r) at (Err (because ReadingTooLarge at))
    told_large n =
        let l = leb-false (a + b + d) M (sym e ∙ not-true fits n) in
        record { says = sym (ap (at_place at) (large_judged (reading c s r) neither (omega (arith, same)))) }

    pub told_good : not fits ≡ false → Judges (reading c s r) at (Ok tt)
    told_good t = record { says = sym (ap (at_place at) (good_judged (reading c s r) sound)) }
      where
        sound : Bad (reading c s r) → ⊥
        sound (inl n) = neither n
        sound (inr l) = omega (arith, same, leb-true (a + b + d) M (sym e ∙ not-false fits t))
