-- Making a card allows one outcome, and each answer is given exactly when. Assumes nothing.
use mathlib.Core.Path.{◌≡◌, sym, ◌∙◌, ap}
use lib.ListN.{length}
use Rattle.lists.specs.Over.{over}
use Rattle.refusals.specs.Said.{Reply}
use Rattle.refusals.specs.Answer.{Answer}
use Rattle.refusals.specs.Places.{Placed}
use Rattle.refusals.specs.Said.{reply_said}
use Rattle.refusals.proofs.OneReply.{one_reply}
use Rattle.formulas.specs.Formula.{Formula}
use Rattle.formulas.specs.Readings.{Domain}
use Rattle.cards.specs.Card.{Card}
use Rattle.cards.specs.GivenInMaking.{CardAnswer}
use Rattle.cards.specs.Lent.{CardLists, static_in, slopes_in, card_said, lent_card, CardKept}
use Rattle.cards.proofs.Making.{job_answers, answers_job}

pub card_one_outcome : {a : Answer Formula} {g : Domain} {old new₁ new₂ : CardLists} (r t : Reply) → CardKept a g old new₁ r
    → CardKept a g old new₂ t → (r ≡ t) × (new₁ ≡ new₂)
card_one_outcome r t x y = (
  one_reply r t (x.says ∙ sym y.says),
  λ i. record {
    static = (x.static_holds ∙ sym y.static_holds) i;
    slopes = (x.slopes_hold ∙ sym y.slopes_hold) i;
  },
)

-- the answer that is given, and that it is told and written
pub record AnswerKept (a : Answer Formula) (g : Domain) (old new : CardLists) (r : Reply) : Type 0 where
  pub answer : Placed Card
  pub given : CardAnswer a g (length old.static) (length old.slopes) answer
  pub says : reply_said r ≡ card_said answer
  pub static_holds : new.static ≡ over (static_in answer) old.static
  pub slopes_hold : new.slopes ≡ over (slopes_in answer) old.slopes

module _ {a : Answer Formula} {g : Domain} {old new : CardLists} {r : Reply} where
  pub kept_given : CardKept a g old new r → AnswerKept a g old new r
  kept_given x =
      record {
        answer = lent_card a g old;
        given = job_answers a g (length old.static) (length old.slopes);
        says = x.says;
        static_holds = x.static_holds;
        slopes_hold = x.slopes_hold;
      }

  pub given_kept : AnswerKept a g old new r → CardKept a g old new r
  given_kept x =
      let e = sym (answers_job a g (length old.static) (length old.slopes) x.given) in
      record {
        says = x.says ∙ ap card_said e;
        static_holds = x.static_holds ∙ ap (λ (k : Placed Card). over (static_in k) old.static) e;
        slopes_hold = x.slopes_hold ∙ ap (λ (k : Placed Card). over (slopes_in k) old.slopes) e;
      }
