-- What `explain` answers is what the request's words ask for, and no other answer is. Assumes nothing.
use mathlib.Core.Path.{◌≡◌, refl, sym, ◌∙◌, ap, subst}
use mathlib.Core.List.{List}
use Prim.Native.Nat.{ℕ, ◌<◌}
use native.Mathlib.Nat.{le_refl}
use Rattle.refusals.specs.declared.Refusal.{Refusal}
use Rattle.refusals.specs.Answer.{Answer, value, refused}
use Rattle.std.specs.declared.result.Result.{Result}
use Rattle.std.specs.declared.result.Result.TheVariants.{Ok, Err}
use Rattle.refusals.specs.declared.Refused.{Refused}
use Rattle.refusals.specs.Places.{Where, Placed}
use Rattle.refusals.proofs.OneReply.{refusal_of, number_back}
use Rattle.formulas.specs.Formula.{Formula}
use Rattle.formulas.specs.Readings.{Domain}
use Rattle.packed.specs.Meaning.{formula}
use Rattle.packed.proofs.WellFormed.{accepted_well_formed}
use Rattle.shrinking.specs.Parts.{all_parts}
use Rattle.shrinking.specs.Explained.{Explanation, nothing_to_explain, admitted_to, never_admitted}
use Rattle.shrinking.specs.GivenInExplaining.{LongEnough, Explains, barred, admitted_itself, largest, none}
use Rattle.shrinking.proofs.Explained.{explanation_explains, explains_explanation}
use Rattle.explaining.specs.declared.Explained.{Explained}
use Rattle.explaining.specs.declared.Explained.TheVariants as explained
use Rattle.explaining.specs.Explaining.{where_met, explained_says, ExplainsDomain}

module _ {s : List ℕ} {g : Domain} {r : Result Explained Refused} {work output : ℕ} (long : LongEnough work output) where
  -- each answer "given exactly when", about the admit job in lists that are long enough
  pub explain_exactly : ExplainsDomain s g r → Explains (formula s) g work output (explained_says r)
  explain_exactly x =
      subst (Explains (formula s) g work output) (sym x.says) (explanation_explains (λ f e. accepted_well_formed s e) long)

  pub exactly_explain : Explains (formula s) g work output (explained_says r) → ExplainsDomain s g r
  exactly_explain e = record { says = sym (explains_explanation (λ f m. accepted_well_formed s m) long e) }

-- a part that is told is one of 0 to 255
abbrev PartBelow : Placed Explanation → Type 0
PartBelow (value (admitted_to t w)) = t < all_parts
PartBelow (value nothing_to_explain) = Unit {0}
PartBelow (value (never_admitted w)) = Unit {0}
PartBelow (refused w) = Unit {0}

part_below : {a : Answer Formula} {g : Domain} {work output : ℕ} {x : Placed Explanation} → Explains a g work output x → PartBelow x
part_below (barred b) = tt
part_below (admitted_itself a) = tt
part_below (largest l a r m) = l
part_below (none r m) = tt

pub part_told : {s : List ℕ} {g : Domain} {t : ℕ} {e : Refused} → ExplainsDomain s g (Ok (explained.AdmittedTo t e)) → t < all_parts
part_told {t = t} {e = e} x =
    part_below (explain_exactly {r = Ok (explained.AdmittedTo t e)} (record { for_values = le_refl 528; for_outputs = le_refl 16 }) x)

-- what is said stands for one answer
abbrev met_at : Where → Refused
met_at w = record { why = refusal_of w.number; place = w.place }

abbrev answer_of : Placed Explanation → Result Explained Refused
answer_of (refused w) = Err (met_at w)
answer_of (value nothing_to_explain) = Ok explained.Nothing
answer_of (value (admitted_to t w)) = Ok (explained.AdmittedTo t (met_at w))
answer_of (value (never_admitted w)) = Ok (explained.NeverAdmitted (met_at w))

met_back : (e : Refused) → met_at (where_met e) ≡ e
met_back e = ap (λ (q : Refusal). record { why = q; place = e.place }) (number_back e.why)

answer_back : (r : Result Explained Refused) → answer_of (explained_says r) ≡ r
answer_back (Err e) = ap Err (met_back e)
answer_back (Ok explained.Nothing) = refl
answer_back (Ok (explained.AdmittedTo t e)) = ap (λ (m : Refused). Ok (explained.AdmittedTo t m)) (met_back e)
answer_back (Ok (explained.NeverAdmitted e)) = ap (λ (m : Refused). Ok (explained.NeverAdmitted m)) (met_back e)

-- two answers that the contract allows are equal
pub explain_one_outcome : {s : List ℕ} {g : Domain} (r t : Result Explained Refused) → ExplainsDomain s g r → ExplainsDomain s g t → r ≡ t
explain_one_outcome r t a b = sym (answer_back r) ∙ ap answer_of (a.says ∙ sym b.says) ∙ answer_back t
