-- What C is told of packing a text; two outcomes that the door allows are equal. Assumes nothing.
use mathlib.Core.Path.{◌≡◌, sym, ◌∙◌, ap, subst}
use mathlib.Core.List.{List}
use Prim.Native.Nat.{ℕ, ◌≤◌}
use lib.IntN.{ℤ}
use mir.Syntax.{w64}
use mir.Val.{SFits}
use Rattle.whole.proofs.Machine.{back}
use Rattle.refusals.specs.Said.{Reply}
use Rattle.refusals.specs.Said.{reply_said}
use Rattle.replies.specs.declared.MarginsPacked.{MarginsPacked}
use Rattle.replies.specs.Doors.{margins_packed, outputs_told}
use Rattle.replies.proofs.Telling.{few_told}
use Rattle.text_packing.specs.TextPacking.{PacksText}
use Rattle.text_packer.proofs.Started.{packed_so}
use Rattle.text_packing.proofs.Left.{text_bytes_few}
use Rattle.text_door.specs.TextDoors.{TextDoor}

pub bytes_few : (q : Reply) {F m : ℤ} {s old new : List ℕ} → PacksText F m s old new q → outputs_told (reply_said q) ≤ 4248
bytes_few q {F} {m} {s} {old} {new} p = few_told 4248 q (λ n e. text_bytes_few (subst (PacksText F m s old new) e p))

pub told_text : {F m : ℤ} {s old new : List ℕ} {q : Reply} {r : MarginsPacked} → SFits w64 F → SFits w64 m → PacksText (back F) (back m) s old new q
    → r ≡ margins_packed (reply_said q) → TextDoor F m s old new r
told_text f g k e = let p = packed_so f g k in record { tells = e ∙ ap margins_packed p.says; writes = p.writes }

pub text_door_one_outcome : {F m : ℤ} {s old new₁ new₂ : List ℕ} {r t : MarginsPacked} → TextDoor F m s old new₁ r → TextDoor F m s old new₂ t
    → (r ≡ t) × (new₁ ≡ new₂)
text_door_one_outcome a b = (a.tells ∙ sym b.tells, a.writes ∙ sym b.writes)
