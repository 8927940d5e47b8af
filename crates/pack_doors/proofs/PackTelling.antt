-- What C is told of packing and of reading back. Assumes nothing.
use mathlib.Core.Path.{◌≡◌, ◌∙◌, ap, subst}
use mathlib.Core.List.{List}
use Prim.Native.Nat.{ℕ, ◌≤◌}
use lib.IntN.{ℤ}
use mir.Syntax.{w64}
use mir.Val.{SFits}
use mir.ValLaws.{to_z-of_z}
use Rattle.std.specs.declared.result.Result.TheVariants.{Ok, Err}
use Rattle.whole.proofs.Machine.{back}
use Rattle.refusals.specs.Said.{Reply}
use Rattle.refusals.specs.Said.{reply_said}
use Rattle.checking.specs.CheckAnswers.{Checked}
use Rattle.checking.specs.CheckAnswers.{check_answer}
use Rattle.packing.specs.Raw.{RawFormula, Parts, handed}
use Rattle.packing.specs.PackAnswers.{Packs, Unpacks}
use Rattle.packing.proofs.Left.{packed_bytes_few, read_limits}
use Rattle.replies.specs.declared.MarginsFormula.{MarginsFormula}
use Rattle.replies.specs.declared.MarginsPacked.{MarginsPacked}
use Rattle.replies.specs.Doors.{margins_formula, margins_packed, outputs_told, CheckedInLimits}
use Rattle.replies.proofs.Telling.{few_told}
use Rattle.pack_doors.specs.PackDoors.{PackDoor, UnpackDoor}

pub bytes_few : (q : Reply) {given : RawFormula} {old new : List ℕ} → Packs given old new q → outputs_told (reply_said q) ≤ 4248
bytes_few q {given} {old} {new} p = few_told 4248 q (λ n e. packed_bytes_few (subst (Packs given old new) e p))

-- the scale and m as the machine keeps them
pub told_packed : (F m : ℤ) (p : Parts) {old new : List ℕ} {q : Reply} {r : MarginsPacked} → SFits w64 F → SFits w64 m
    → Packs (handed (back F) (back m) p) old new q → r ≡ margins_packed (reply_said q) → PackDoor (handed F m p) old new r
told_packed F m p {old} {new} {q} fF fm k e =
    let g = subst (λ (given : RawFormula). Packs given old new q) (λ i. handed (to_z-of_z w64 F fF i) (to_z-of_z w64 m fm i) p) k in
    record { tells = e ∙ ap margins_packed g.says; writes = g.writes }

module _ {s : List ℕ} {old new : Parts} where
  pub unpacked_limits : (c : Checked) → Unpacks s old new (check_answer c) → CheckedInLimits c
  unpacked_limits (Ok h) u = read_limits u
  unpacked_limits (Err r) u = tt

  pub told_unpacked : (c : Checked) {r : MarginsFormula} → Unpacks s old new (check_answer c)
      → r ≡ margins_formula (check_answer c) → UnpackDoor s old new r
  told_unpacked c u e =
      record { tells = e ∙ ap margins_formula u.says; unpacks = subst (Unpacks s old new) u.says u }
