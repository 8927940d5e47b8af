-- The sums, made aside, and put in front of a list. Assumes nothing.
use mathlib.Core.Path.{◌≡◌, sym, ◌∙◌, ap, ap₂}
use mathlib.Core.List.{List, ◌++◌, map}
use Prim.Native.Nat.{ℕ}
use lib.IntN.{ℤ, nat_abs}
use lib.ListN.{length, take, drop}
use Rattle.lists.specs.Over.{over}
use Rattle.lists.proofs.Over.{over_front}
use Rattle.std.specs.declared.result.Result.TheVariants.{Ok}
use Rattle.refusals.specs.Places.{Verdict}
use Rattle.refusals.specs.Answer.{value, then}
use Rattle.refusals.specs.Places.{verdict_says}
use Rattle.refusals.specs.Said.{answered}
use Rattle.cards.specs.Lent.{margins_in, use_said}
use Rattle.cards.proofs.Flat.{card_margins_long}
use Rattle.card_user.specs.Sums.{Summable, output_sums, SumsUp, sums_answer, Puts}
use Rattle.card_user.specs.declared.Card.{Card}

module _ {c : Card} {rs : List ℤ} {old : List ℕ} (p : Summable c rs) where
  module _ {zeros aside : List ℕ} {v : Verdict} (u : SumsUp c rs zeros aside v) where
    pub sums_put : {front : List ℕ} → v ≡ Ok tt → front ≡ take c.outputs aside → Puts c rs old (front ++ drop c.outputs old) (Ok c.outputs)
    sums_put {front} e f =
        record {
          says = sym (ap use_said answer ∙ ap answered long);
          holds =
              ap₂ (λ (l : List ℕ) (n : ℕ). l ++ drop n old) (f ∙ first) (sym long)
              ∙ sym (ap (λ a. over (margins_in a) old) answer);
        }
      where
        long : length (output_sums c rs) ≡ c.outputs
        long = card_margins_long c.scale c.inputs c.outputs c.static_margins.now c.slopes.now (map nat_abs rs) p.holds.static_there

        answer : sums_answer (output_sums c rs) ≡ value (output_sums c rs)
        answer = ap (λ a. then a (λ w. value (output_sums c rs))) (sym u.says ∙ ap verdict_says e)

        first : take c.outputs aside ≡ output_sums c rs
        first = ap (take c.outputs) (u.holds e) ∙ over_front (output_sums c rs) zeros long
