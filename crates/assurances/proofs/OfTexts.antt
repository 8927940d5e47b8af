-- The demands 2 and 3 for a formula that was packed from a text: exact arithmetic on the text itself. Assumes nothing.
use mathlib.Core.Path.{◌≡◌, refl, sym, ◌∙◌, ap, subst}
use mathlib.Core.List.{List, [], ◌∷◌, map}
use Prim.Native.Nat.{ℕ}
use lib.IntN.{ℤ, nat_abs}
use lib.ListN.{length, take, get_or}
use Rattle.lists.specs.Joined.{Rel, none, one}
use Rattle.std.specs.declared.result.Result.TheVariants.{Ok}
use Rattle.refusals.specs.Said.{Reply}
use Rattle.refusals.specs.Answer.{value}
use Rattle.refusals.proofs.Answers.{same_value}
use Rattle.rules.specs.declared.Ball.{Ball}
use Rattle.rules.specs.Values.{Fraction, Contains}
use Rattle.rules.specs.Lists.{balls}
use Rattle.formulas.specs.Formula.{Formula}
use Rattle.formulas.specs.Readings.{BallReadings, Domain}
use Rattle.formulas.specs.Kinds.{plain_kind, ball_kind, matryoshka_kind}
use Rattle.formulas.specs.Job.{Lent, Kept}
use Rattle.formulas.specs.ExactRun.{nought, ExactRun}
use Rattle.packed.specs.Meaning.{formula}
use Rattle.expressions.specs.Compiled.{worth, Same}
use Rattle.expressions.proofs.Fractions.{contains_same}
use Rattle.text_packing.specs.TextPacking.{PacksText}
use Rattle.text_packing.specs.GivenInText.{IsText, formula_in, AmongResults, HoldsText}
use Rattle.text_packing.proofs.Left.{text_held}
use Rattle.demands.specs.Demands.{Chosen, exact_outputs, Honest, InDomain, LongEnough, Admitted}
use Rattle.assurances.specs.OfTexts.{AroundText}

-- what contains the one exact output contains the number that it is
around : (F : ℕ) (f : Formula) (ys : List Fraction) {x : Fraction} {left : List Ball} (o : ℕ) → f.results ≡ o ∷ [] → Same (get_or ys o nought) x
    → Rel (Contains F) left (exact_outputs f ys) → Rel (Contains F) left (x ∷ [])
around F f ys {x} {left} o e q r = same (subst (λ os. Rel (Contains F) left (map (λ k. get_or ys k nought) os)) e r)
  where
    same : {left : List Ball} → Rel (Contains F) left (get_or ys o nought ∷ []) → Rel (Contains F) left (x ∷ [])
    same (one p none) = one (contains_same F p q) none

-- what is said of every choice inside the readings
abbrev AllInside : BallReadings → List Ball → Formula → Type 0
AllInside given left f =
    (xs ys : List Fraction) → Chosen f.header.scale given xs → ExactRun f.header.scale f.program xs ys
    → Rel (Contains f.header.scale) left (exact_outputs f ys)

-- the formula that a demand speaks of is the text's
around_text : {F m : ℤ} {s places : List ℕ} {n : ℕ} {given : BallReadings} {left : List Ball} → HoldsText F m s places n
    → (f : Formula) → formula (take n places) ≡ value f → AllInside given left f → AroundText F m s given left
around_text {F} {given = given} {left} h f e inside =
    let all = subst (AllInside given left) (same_value (sym e ∙ h.means)) inside in
    record {
      text = h.text;
      inside = λ xs l c.
          let a = h.exact xs l in
          around (nat_abs F) (formula_in h.text) a.all a.output a.one_output a.is (all xs a.all c a.runs);
    }

-- demand 2: a text packed, its bytes run as balls
pub honest_text : {F m : ℤ} {s old new : List ℕ} {n : ℕ} → PacksText F m s old new (Ok n)
    → {given : BallReadings} {left : Lent ball_kind} {k : ℕ} → Honest (take n new) given left k
    → AroundText F m s given (ball_kind.front k left.output)
honest_text p d = around_text (text_held p) d.meant d.means d.outputs_inside

-- demand 3: a text packed, its bytes admitted and run plainly on readings within the domain
pub admitted_text : {F m : ℤ} {s old new : List ℕ} {n : ℕ} → PacksText F m s old new (Ok n)
    → {d : Domain} {left : Lent matryoshka_kind} {k : ℕ} (a : Admitted (take n new) d left k) {g : BallReadings} → InDomain d g
    → (before : Lent plain_kind) {after : Lent plain_kind} (r : Reply) → LongEnough plain_kind a.meant.header before
    → Kept plain_kind (formula (take n new)) g.centres before after r
    → AroundText F m s g (balls (take k after.output) (take k left.output.margins))
admitted_text p a i before r l k = around_text (text_held p) a.meant a.means (a.answers_close i before r l k)
