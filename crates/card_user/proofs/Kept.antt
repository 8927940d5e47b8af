-- What a card's use leaves, from the tests as the code makes them. Assumes nothing.
use mathlib.Core.Path.{◌≡◌, sym, ◌∙◌, ap}
use mathlib.Core.Bool.{Bool, true, false, ◌&&◌}
use mathlib.Core.List.{List}
use Prim.Native.Nat.{ℕ, ◌*◌, ◌≤◌}
use native.Mathlib.Omega.{arith}
use borrow.Author.Tests.{leb-true, le-leb}
use lib.Dec.{leb}
use lib.IntN.{pos}
use lib.ListN.{length, take}
use Rattle.std.specs.declared.result.Result.TheVariants.{Ok, Err}
use Rattle.refusals.specs.Places.{because}
use Rattle.refusals.specs.declared.Refused.{Refused}
use Rattle.whole.specs.Limits.{is_below}
use Rattle.whole.proofs.Cases.{both}
use Rattle.lists.specs.Over.{over}
use Rattle.refusals.specs.declared.Refusal.{Refusal}
use Rattle.refusals.specs.declared.Refusal.TheVariants as refusal
use Rattle.refusals.specs.Said.{Reply}
use Rattle.refusals.specs.Places.{Verdict}
use Rattle.refusals.specs.Answer.{value, then}
use Rattle.refusals.specs.Places.{refuse_at, verdict_says}
use Rattle.rules.specs.Numbers.{M}
use Rattle.formulas.specs.Readings.{BallReadings, balls_brought}
use Rattle.formulas.specs.Kinds.{ball_kind, tested}
use Rattle.readings.specs.Judges.{JudgesAll}
use Rattle.cards.specs.Slopes.{largest}
use Rattle.cards.specs.Card.{card_in, card_margins}
use Rattle.cards.specs.Using.{Use, use_card, all_inside}
use Rattle.cards.specs.GivenInUsing.{in_range}
use Rattle.cards.specs.Lent.{margins_in, use_said, UseKept}
use Rattle.cards.proofs.Tests.{first_fails, second_fails, both_pass, range_below}
use Rattle.card_user.specs.declared.Card.{Card}
use Rattle.card_user.specs.Tests.{counts_in, room_in, HasRoom, Holds, Passed, AllInside, numbers_in, IsLow}
use Rattle.card_user.specs.Sums.{Summable, output_sums, sums_answer, Puts}
use Rattle.card_user.specs.Uses.{Counted, used}
use Rattle.card_user.proofs.Inside.{margins_long, margins_are, margin_low}
use Rattle.card_user.proofs.Stepwise.{domain_refused, balls_refused, room_refused, card_refused, card_used}

-- nothing is written
pub kept_refused : {u : Use} {old : List ℕ} (q : Refusal) (k : ℕ) → use_card u (length old) ≡ refuse_at q k → UseKept u old old (Err (because q k))
kept_refused {u} {old} q k e = record { says = sym (ap use_said e); holds = sym (ap (λ a. over (margins_in a) old) e) }

-- a scale and counts that passed do so as signed numbers
scale_so : {F m n : ℕ} → Counted F m n → is_below 31 (pos F) ≡ true
scale_so {F} c = range_below 30 (in_range {n = F} (omega arith) c.scale_small)

counts_so : {F m n : ℕ} → Counted F m n → counts_in (pos m) (pos n) ≡ true
counts_so {F} {m} {n} c =
    both_pass (range_below 16 (in_range {n = m} (omega arith) c.few.inputs))
    (both_pass (range_below 16 (in_range {n = n} (omega arith) c.few.outputs)) (le-leb 1 n c.some_output))

-- ---- 13 to 15

-- what the tests of readings say
told : {m : ℕ} (g : BallReadings) {v w : Verdict} → JudgesAll m (balls_brought g) v → v ≡ w
    → tested ball_kind m g ≡ then (verdict_says w) (λ x. value (ball_kind.values g))
told g j e = ap (λ a. then a (λ x. value (ball_kind.values g))) (sym j.says ∙ ap verdict_says e)

module _ (c : Card) (k : Counted c.scale c.inputs c.outputs) {d b : BallReadings} {v : Verdict} (j : JudgesAll c.inputs (balls_brought d) v) where
  pub domain_misread : {old : List ℕ} {e : Refused} → v ≡ Err e → UseKept (used c d b) old old (Err e)
  domain_misread {old} {e} f =
      kept_refused e.why e.place (domain_refused (used c d b) (length old) (scale_so k) (counts_so k) (told d j f))

  module _ (domain_passed : v ≡ Ok tt) {w : Verdict} (i : JudgesAll c.inputs (balls_brought b) w) where
    pub balls_misread : {old : List ℕ} {e : Refused} → w ≡ Err e → UseKept (used c d b) old old (Err e)
    balls_misread {old} {e} f =
        kept_refused e.why e.place
        (balls_refused (used c d b) (length old) (scale_so k) (counts_so k) (told d j domain_passed) (told b i f))

    pub both_passed : w ≡ Ok tt → Passed c.inputs d b
    both_passed e = record { inputs_few = k.few.inputs; domain_fits = told d j domain_passed; readings_fit = told b i e }

-- ---- lists that are long enough, and a card that fits

-- 10, 20, then the margins
module _ (c : Card) (k : Counted c.scale c.inputs c.outputs) {d b : BallReadings} (p : Passed c.inputs d b) (old : List ℕ)
    {t : Bool} (room_told : HasRoom c (length old) t) where
  pub no_room : t ≡ false → UseKept (used c d b) old old (Err (because refusal.NoRoom 0))
  no_room e =
      kept_refused refusal.NoRoom 0
      (room_refused (used c d b) (length old) (scale_so k) (counts_so k) p.domain_fits p.readings_fit (sym room_told.is ∙ e))

  module _ (room_there : t ≡ true) where
    room_is : room_in c.inputs c.outputs (length c.static_margins.now) (length c.slopes.now) (length old) ≡ true
    room_is = sym room_told.is ∙ room_there

    behind : (leb (c.outputs * c.inputs) (length c.slopes.now) ≡ true) × (leb c.outputs (length old) ≡ true)
    behind =
        both (leb (c.outputs * c.inputs) (length c.slopes.now)) (leb c.outputs (length old))
        (both (leb c.outputs (length c.static_margins.now)) _ room_is).1

    pub out_there : c.outputs ≤ length old
    out_there = leb-true _ _ behind.1

    pub holds : Holds c
    holds =
        record {
          few = k.few;
          static_there = leb-true _ _ (both (leb c.outputs (length c.static_margins.now)) _ room_is).0;
          slopes_there = leb-true _ _ behind.0;
        }

    module _ {u : Bool} (low_told : IsLow c u) where
      misfits : numbers_in c.inputs c.outputs c.static_margins.now c.slopes.now && all_inside (ball_kind.values d) (ball_kind.values b) ≡ false
          → UseKept (used c d b) old old (Err (because refusal.CardMisfit 0))
      misfits e =
          kept_refused refusal.CardMisfit 0
          (card_refused (used c d b) (length old) (scale_so k) (counts_so k) p.domain_fits p.readings_fit room_is e)

      pub misfit_low : u ≡ false → UseKept (used c d b) old old (Err (because refusal.CardMisfit 0))
      misfit_low e = misfits (first_fails _ (sym low_told.is ∙ e))

      module _ (low : u ≡ true) {w : Bool} (inside_told : AllInside d b w) where
        numbers_low : numbers_in c.inputs c.outputs c.static_margins.now c.slopes.now ≡ true
        numbers_low = sym low_told.is ∙ low

        pub misfit_inside : w ≡ false → UseKept (used c d b) old old (Err (because refusal.CardMisfit 0))
        misfit_inside e = misfits (second_fails _ (sym inside_told.is ∙ e))

        module _ (inside : w ≡ true) where
          each : (leb (largest (take c.outputs c.static_margins.now)) M ≡ true) × (leb (largest (take (c.outputs * c.inputs) c.slopes.now)) M ≡ true)
          each = both _ _ numbers_low

          pub summable : Summable c b.margins
          summable =
              record {
                scale_small = k.scale_small;
                holds = holds;
                static_small = leb-true _ _ each.0;
                slopes_small = leb-true _ _ each.1;
                margins_there = margins_long c.inputs b p.readings_fit;
                margins_small = margin_low c.inputs b p.readings_fit;
              }

          used_so : use_card (used c d b) (length old) ≡ sums_answer (output_sums c b.margins)
          used_so =
              card_used (used c d b) (length old) (scale_so k) (counts_so k) p.domain_fits p.readings_fit room_is
              (both_pass numbers_low (sym inside_told.is ∙ inside))
              ∙ ap (λ ss. sums_answer (card_margins c.scale (card_in c.inputs c.outputs c.static_margins.now c.slopes.now) ss))
              (margins_are c.inputs b p.readings_fit)

          pub margins_put : {new : List ℕ} {a : Reply} → Puts c b.margins old new a → UseKept (used c d b) old new a
          margins_put q = record { says = q.says ∙ sym (ap use_said used_so); holds = q.holds ∙ sym (ap (λ b. over (margins_in b) old) used_so) }
