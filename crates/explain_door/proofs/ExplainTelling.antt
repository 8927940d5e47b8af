-- What C is told is what `explain` answers; two outcomes that the door allows are equal; what each answer assures. Assumes nothing.
use mathlib.Core.Path.{◌≡◌, sym, ◌∙◌}
use mathlib.Core.List.{List}
use Prim.Native.Nat.{ℕ}
use Rattle.std.specs.declared.result.Result.{Result}
use Rattle.std.specs.declared.result.Result.TheVariants.{Ok, Err}
use Rattle.refusals.specs.declared.Refused.{Refused}
use Rattle.formulas.specs.Readings.{Domain}
use Rattle.packed.specs.Meaning.{formula}
use Rattle.packed.proofs.WellFormed.{accepted_well_formed}
use Rattle.shrinking.specs.Explained.{explanation}
use Rattle.shrinking.specs.GivenInExplaining.{LongEnough}
use Rattle.shrinking.proofs.Explained.{explanation_explains}
use Rattle.explaining.specs.declared.Explained.{Explained}
use Rattle.explaining.specs.declared.Explained.TheVariants as explained
use Rattle.explaining.specs.Explaining.{ExplainsDomain}
use Rattle.explaining.proofs.Exactly.{part_told}
use Rattle.explain_door.specs.declared.MarginsExplanation.{MarginsExplanation}
use Rattle.explain_door.specs.ExplainDoors.{PartFits, ExplainDoor, DoorExplains}

pub part_fits : (r : Result Explained Refused) {s : List ℕ} {g : Domain} → ExplainsDomain s g r → PartFits r
part_fits (Ok (explained.AdmittedTo t e)) x = part_told x
part_fits (Ok explained.Nothing) x = tt
part_fits (Ok (explained.NeverAdmitted e)) x = tt
part_fits (Err e) x = tt

-- two outcomes that the door allows are equal
pub explain_door_one_outcome : {s : List ℕ} {g : Domain} {r t : MarginsExplanation} → ExplainDoor s g r → ExplainDoor s g t → r ≡ t
explain_door_one_outcome a b = a.tells ∙ sym b.tells

-- whatever `margins_explain` tells
pub honest_explanation : {s : List ℕ} {g : Domain} {work output : ℕ} {r : MarginsExplanation} → LongEnough work output → ExplainDoor s g r
    → DoorExplains s g work output r
honest_explanation {s} {g} long d =
    record { answer = explanation (formula s) g; told = d.tells; explains = explanation_explains (λ f e. accepted_well_formed s e) long }
