-- What C sees of request i: the answer as a struct of numbers.
use Rattle.std.specs.Prelude.{◌≡◌, List, ℕ, ◌<◌}
use Rattle.std.specs.declared.result.Result.{Result}
use Rattle.std.specs.declared.result.Result.TheVariants.{Ok, Err}
use Rattle.refusals.specs.declared.Refused.{Refused}
use Rattle.refusals.specs.Answer.{value, refused}
use Rattle.refusals.specs.Places.{Placed}
use Rattle.formulas.specs.Readings.{Domain}
use Rattle.packed.specs.Meaning.{formula}
use Rattle.shrinking.specs.Parts.{all_parts}
use Rattle.shrinking.specs.Explained.{Explanation, nothing_to_explain, admitted_to, never_admitted, explanation}
use Rattle.shrinking.specs.GivenInExplaining.{Explains}
use Rattle.explaining.specs.declared.Explained.{Explained}
use Rattle.explaining.specs.declared.Explained.TheVariants as explained
use Rattle.explain_door.specs.declared.MarginsExplanation.{MarginsExplanation}

abbrev pub margins_explanation : Placed Explanation → MarginsExplanation
margins_explanation (refused w) = record { refusal = w.number; answer = 0; parts = 0; met = 0; place = w.place }
margins_explanation (value nothing_to_explain) = record { refusal = 0; answer = 1; parts = 0; met = 0; place = 0 }
margins_explanation (value (admitted_to t w)) =
    record { refusal = 0; answer = 2; parts = t; met = w.number; place = w.place }
margins_explanation (value (never_admitted w)) =
    record { refusal = 0; answer = 3; parts = 0; met = w.number; place = w.place }

-- a part is one of 0 to 255
abbrev pub PartFits : Result Explained Refused → Type 0
PartFits (Ok (explained.AdmittedTo t e)) = t < all_parts
PartFits (Ok explained.Nothing) = Unit {0}
PartFits (Ok (explained.NeverAdmitted e)) = Unit {0}
PartFits (Err e) = Unit {0}

pub record ExplainDoor (s : List ℕ) (g : Domain) (r : MarginsExplanation) : Type 0 where
  pub tells : r ≡ margins_explanation (explanation (formula s) g)

-- what it assures: the request's words about the admit job, in lists that are long enough
pub record DoorExplains (s : List ℕ) (g : Domain) (work output : ℕ) (r : MarginsExplanation) : Type 0 where
  pub answer : Placed Explanation
  pub told : r ≡ margins_explanation answer
  pub explains : Explains (formula s) g work output answer
