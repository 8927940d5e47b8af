-- The two jobs on lent lists: a card that one wrote and the other read is honest. Assumes nothing.
use mathlib.Core.Path.{◌≡◌, refl, sym, ◌∙◌, ap, subst}
use mathlib.Core.List.{List}
use Prim.Native.Nat.{ℕ, ◌*◌}
use lib.ListN.{length, take}
use Rattle.lists.specs.Over.{over}
use Rattle.lists.proofs.Over.{over_front}
use Rattle.std.specs.declared.result.Result.TheVariants.{Ok}
use Rattle.refusals.specs.Answer.{Answer, value, refused}
use Rattle.refusals.specs.Places.{Placed}
use Rattle.refusals.specs.Said.{answered}
use Rattle.refusals.proofs.Answers.{same_value}
use Rattle.refusals.proofs.OneReply.{never_both}
use Rattle.formulas.specs.Formula.{Formula, WellFormed}
use Rattle.formulas.specs.Readings.{BallReadings, Domain}
use Rattle.formulas.specs.Kinds.{ball_kind}
use Rattle.cards.specs.Card.{Card, flat, HoldsAround}
use Rattle.cards.specs.GivenInUsing.{UsesCard}
use Rattle.cards.specs.Lent.{CardLists, static_in, slopes_in, card_said, lent_card, CardKept, margins_in, use_said, UseKept, use_of}
use Rattle.cards.proofs.Using.{use_sums_long}
use Rattle.cards.proofs.Honest.{CardMade, card_made_by, passed_of, formula_of, CardFits, card_fits, used_by, card_honest}

-- what is told of outputs is a value's
card_done : {x : Placed Card} {n : ℕ} → answered n ≡ card_said x → (k : Card) × (x ≡ value k)
card_done {x} e = by_answer x e
  where
    by_answer : (x : Placed Card) {n : ℕ} → answered n ≡ card_said x → (k : Card) × (x ≡ value k)
    by_answer (value k) e = (k, refl)
    by_answer (refused w) e = absurd (never_both e)

use_done : {x : Placed (List ℕ)} {n : ℕ} → answered n ≡ use_said x → (rs : List ℕ) × (x ≡ value rs)
use_done {x} e = by_answer x e
  where
    by_answer : (x : Placed (List ℕ)) {n : ℕ} → answered n ≡ use_said x → (rs : List ℕ) × (x ≡ value rs)
    by_answer (value rs) e = (rs, refl)
    by_answer (refused w) e = absurd (never_both e)

module _ (a : Answer Formula) (g : Domain) {f : Formula} (means : a ≡ value f) (well : WellFormed f) {old new : CardLists} where
  -- the card that was made stands in front of the two lists
  pub kept_uses : {k : Card} → lent_card a g old ≡ value k → {i : ℕ} → CardKept a g old new (Ok i) → (bs : BallReadings)
      → UsesCard f g k (use_of f g new bs)
  kept_uses {k} e kept bs =
      record {
        same_scale = refl;
        same_inputs = refl;
        same_outputs = refl;
        same_domain = refl;
        holds_static =
            ap (take f.header.outputs) (kept.static_holds ∙ ap (λ x. over (static_in x) old.static) e)
            ∙ over_front k.static old.static (fits.static_long ∙ ap (λ (f : Formula). f.header.outputs) same);
        holds_slopes =
            ap (take (f.header.outputs * f.header.inputs)) (kept.slopes_hold ∙ ap (λ x. over (slopes_in x) old.slopes) e)
            ∙ over_front (flat k.slopes) old.slopes (fits.slopes_long ∙ ap (λ (f : Formula). f.header.outputs * f.header.inputs) same);
      }
    where
      er : ℕ
      er = length old.static

      lr : ℕ
      lr = length old.slopes

      c : CardMade a g er lr k
      c = card_made_by a g er lr e

      same : formula_of a g er lr c ≡ f
      same = same_value (sym (passed_of a g er lr c).means ∙ means)

      fits : CardFits a g er lr c (subst WellFormed (sym same) well)
      fits = card_fits a g er lr c (subst WellFormed (sym same) well)

  -- one job says that a card was made, the other that margins were given: the first n of them hold every exact result around the bare answer
  pub lent_honest : {i : ℕ} → CardKept a g old new (Ok i) → (bs : BallReadings) {out now : List ℕ} {j : ℕ} → UseKept (use_of f g new bs) out now (Ok j)
      → HoldsAround f (take f.header.outputs now) (ball_kind.values bs)
  lent_honest kept bs {out} {now} given =
      let c = card_done kept.says in
      let r = use_done given.says in
      let x = used_by r.1 in
      subst (λ (rs : List ℕ). HoldsAround f rs (ball_kind.values bs))
      (sym
      (ap (take f.header.outputs) (given.holds ∙ ap (λ x. over (margins_in x) out) r.1)
      ∙ over_front r.0 out (ap length x.gives ∙ use_sums_long x.fits)))
      (card_honest a g (length old.static) (length old.slopes) means well c.1 (kept_uses c.1 kept bs) (length out) r.1)
