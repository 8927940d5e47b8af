-- "Every other refusal has place 0": of the two jobs too. Assumes nothing.
use mathlib.Core.Path.{◌≡◌, refl, sym, ap, subst}
use mathlib.Core.List.{List}
use mathlib.Core.Logic.{◌⊎◌, inl, inr}
use Prim.Native.Nat.{ℕ}
use Rattle.refusals.specs.Answer.{Answer, refused}
use Rattle.refusals.specs.Places.{Where, Placed, HasPlace}
use Rattle.refusals.specs.Refusals.{out_of_reach, divided_by_zero}
use Rattle.refusals.proofs.Answers.{no_value, refused_same}
use Rattle.formulas.specs.Formula.{Formula}
use Rattle.formulas.specs.Readings.{Brought, Domain}
use Rattle.formulas.specs.Kinds.{Kind}
use Rattle.formulas.specs.GivenInRuns.{Terms}
use Rattle.cards.specs.Card.{Card}
use Rattle.cards.specs.Making.{card_job}
use Rattle.cards.specs.Using.{Use, use_card}
use Rattle.cards.specs.GivenInMaking.{Misread, thirteen, fourteen, fifteen, MetInRun, seventeen, CardAnswer, unread, misread, twenty_two, ten}
use Rattle.cards.specs.GivenInMaking.{of_admission, of_that_ball_run, made}
use Rattle.cards.specs.GivenInMaking as making
use Rattle.cards.specs.GivenInUsing.{UseAnswer}
use Rattle.cards.specs.GivenInUsing as given
use Rattle.cards.proofs.Making.{job_answers}
use Rattle.cards.proofs.Using.{use_answers}

-- a refusal that has a place, or place 0
abbrev Stands : Where → Type 0
Stands w = HasPlace w.number ⊎ (w.place ≡ 0)

abbrev at : ℕ → ℕ → Where
at n k = record { number = n; place = k }

misread_stands : {m : ℕ} {b : Brought} {n k : ℕ} → Misread m b n k → Stands (at n k)
misread_stands (thirteen o) = inr refl
misread_stands (fourteen c low n) = inl HasPlace.negative
misread_stands (fifteen c low n l) = inl HasPlace.too_large

met_stands : {K : Kind} {T : Terms K} {f : Formula} {values : List K.Value} {n k : ℕ} → MetInRun K T f values n k → Stands (at n k)
met_stands (seventeen c z) = inl (HasPlace.instruction divided_by_zero)
met_stands (making.MetInRun.eleven c z l) = inl (HasPlace.instruction out_of_reach)

told : {A : Type 0} {v w : Where} → ◌≡◌ {A = Placed A} (refused v) (refused w) → Stands v → Stands w
told e s = subst Stands (refused_same e) s

card_stands : {a : Answer Formula} {g : Domain} {er lr : ℕ} {x : Placed Card} {w : Where} → CardAnswer a g er lr x → x ≡ refused w → Stands w
card_stands (unread u) e = told e (inr refl)
card_stands (misread r m) e = told e (misread_stands m)
card_stands (twenty_two p o) e = told e (inr refl)
card_stands (ten p d s) e = told e (inr refl)
card_stands (of_admission r m) e = told e (met_stands m)
card_stands (of_that_ball_run r m) e = told e (met_stands m)
card_stands (making.CardAnswer.eleven r c t) e = told e (inl (HasPlace.instruction out_of_reach))
card_stands (made r ls s) e = absurd (no_value (sym e))

use_stands : {u : Use} {room : ℕ} {x : Placed (List ℕ)} {w : Where} → UseAnswer u room x → x ≡ refused w → Stands w
use_stands (given.three d) e = told e (inr refl)
use_stands (given.four s d) e = told e (inr refl)
use_stands (given.of_domain k m) e = told e (misread_stands m)
use_stands (given.of_balls b m) e = told e (misread_stands m)
use_stands (given.ten r s) e = told e (inr refl)
use_stands (given.twenty r d m) e = told e (inr refl)
use_stands (given.eleven f o) e = told e (inl (HasPlace.instruction out_of_reach))
use_stands (given.margins f d) e = absurd (no_value (sym e))

elsewhere_none : {w : Where} → Stands w → (HasPlace w.number → ⊥) → w.place ≡ 0
elsewhere_none (inl p) d = absurd (d p)
elsewhere_none (inr z) d = z

pub card_place : (a : Answer Formula) (g : Domain) (er lr : ℕ) {w : Where} → card_job a g er lr ≡ refused w → (HasPlace w.number → ⊥) → w.place ≡ 0
card_place a g er lr e d = elsewhere_none (card_stands (job_answers a g er lr) e) d

-- of a use's 11 the place is the output's
pub use_place : (u : Use) (room : ℕ) {w : Where} → use_card u room ≡ refused w → (HasPlace w.number → ⊥) → w.place ≡ 0
use_place u room e d = elsewhere_none (use_stands (use_answers u room) e) d
