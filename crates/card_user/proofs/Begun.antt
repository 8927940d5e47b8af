-- The tests of the scale and of the counts of a card's use, in the code's shape. Assumes nothing.
use mathlib.Core.Path.{◌≡◌, sym, ◌∙◌, ap, subst}
use mathlib.Core.Bool.{Bool, true, false, not, ◌&&◌}
use mathlib.Core.List.{List}
use Prim.Native.Nat.{ℕ, ◌≤◌}
use native.Mathlib.Omega.{arith}
use borrow.Author.Tests.{leb-true}
use lib.Dec.{leb}
use lib.IntN.{ℤ, nat_abs}
use lib.ListN.{length}
use mir.Syntax.{w64}
use mir.Val.{SFits}
use mir.ValLaws.{to_z-of_z}
use Rattle.std.specs.declared.result.Result.TheVariants.{Err}
use Rattle.refusals.specs.Places.{because}
use Rattle.whole.specs.Limits.{is_below}
use Rattle.whole.proofs.Cases.{both}
use Rattle.whole.proofs.Machine.{back}
use Rattle.whole.proofs.Limits.{asked, Natural, natural, passed}
use Rattle.refusals.specs.declared.Refusal.TheVariants as refusal
use Rattle.refusals.specs.Said.{Reply}
use Rattle.formulas.specs.Readings.{BallReadings}
use Rattle.cards.specs.Lent.{UseKept}
use Rattle.card_user.specs.Tests.{counts_in, CountsFit}
use Rattle.card_user.specs.Uses.{brought, Counted, counted}
use Rattle.card_user.proofs.Stepwise.{scale_refused, counts_refused}
use Rattle.card_user.proofs.Kept.{kept_refused}

-- ---- counts that passed, as the code passes them on

record Counts (m n : ℤ) : Type 0 where
  inputs : Natural 17 m
  outputs : Natural 17 n
  some_output : 1 ≤ nat_abs n

counts : {m n : ℤ} {t : Bool} → CountsFit m n t → t ≡ true → Counts m n
counts {m} {n} {t} told e =
    let first = both (is_below 17 m) (is_below 17 n && leb 1 (nat_abs n)) (sym told.is ∙ e) in
    let second = both (is_below 17 n) (leb 1 (nat_abs n)) first.1 in
    record { inputs = natural 17 m first.0; outputs = natural 17 n second.0; some_output = leb-true 1 (nat_abs n) second.1 }

-- ---- 3 and 4, then the rest

module _ {F : ℤ} (f : SFits w64 F) {t : Bool} (scale_asked : t ≡ is_below 31 (back F)) where
  pub no_scale : {m n : ℤ} {d b : BallReadings} {E L old : List ℕ} → t ≡ false → UseKept (brought F m n d E L b) old old (Err (because refusal.Scale 0))
  no_scale {m} {n} {d} {b} {E} {L} {old} e =
      kept_refused refusal.Scale 0 (scale_refused (brought F m n d E L b) (length old) (asked 31 f scale_asked e))

  module _ (scale_passed : t ≡ true) {m n : ℤ} (g : SFits w64 m) (h : SFits w64 n) {v : Bool} (counts_told : CountsFit (back m) (back n) v) where
    -- the same of the numbers that the caller brought
    counts_are : {w : Bool} → v ≡ w → counts_in m n ≡ w
    counts_are e =
        sym (λ i. counts_in (to_z-of_z w64 m g i) (to_z-of_z w64 n h i)) ∙ sym counts_told.is ∙ e

    pub no_counts : {d b : BallReadings} {E L old : List ℕ} → v ≡ false → UseKept (brought F m n d E L b) old old (Err (because refusal.Count 0))
    no_counts {d} {b} {E} {L} {old} e =
        kept_refused refusal.Count 0
        (counts_refused (brought F m n d E L b) (length old) (asked 31 f scale_asked scale_passed) (counts_are e))

    module _ (counts_passed : v ≡ true) where
      pub begun : Counted (nat_abs (back F)) (nat_abs (back m)) (nat_abs (back n))
      begun =
          let c = counts counts_told counts_passed in
          record {
            scale_small = omega (arith, (passed 31 f scale_asked (ap not scale_passed)).small);
            few = record { inputs = omega (arith, c.inputs.small); outputs = omega (arith, c.outputs.small) };
            some_output = c.some_output;
          }

      pub used_so : {d b : BallReadings} {E L old new : List ℕ} {r : Reply}
          → UseKept (counted (nat_abs (back F)) (nat_abs (back m)) (nat_abs (back n)) d E L b) old new r → UseKept (brought F m n d E L b) old new r
      used_so {d} {b} {E} {L} {old} {new} {r} k =
          subst (λ u. UseKept u old new r)
          (λ i. brought (((passed 31 f scale_asked (ap not scale_passed)).is ∙ to_z-of_z w64 F f) i)
          (((counts counts_told counts_passed).inputs.is ∙ to_z-of_z w64 m g) i)
          (((counts counts_told counts_passed).outputs.is ∙ to_z-of_z w64 n h) i) d E L b) k
