-- Two outcomes that a door of packing or of reading back allows are equal. Assumes nothing.
use mathlib.Core.Path.{◌≡◌, sym, ◌∙◌}
use mathlib.Core.List.{List}
use Prim.Native.Nat.{ℕ}
use Rattle.packing.specs.Raw.{RawFormula, Parts}
use Rattle.replies.specs.declared.MarginsFormula.{MarginsFormula}
use Rattle.replies.specs.declared.MarginsPacked.{MarginsPacked}
use Rattle.pack_doors.specs.PackDoors.{PackDoor, UnpackDoor}

pub pack_door_one_outcome : {given : RawFormula} {old new₁ new₂ : List ℕ} {r t : MarginsPacked} → PackDoor given old new₁ r
    → PackDoor given old new₂ t → (r ≡ t) × (new₁ ≡ new₂)
pack_door_one_outcome a b = (a.tells ∙ sym b.tells, a.writes ∙ sym b.writes)

pub unpack_door_one_outcome : {s : List ℕ} {old new₁ new₂ : Parts} {r t : MarginsFormula} → UnpackDoor s old new₁ r
    → UnpackDoor s old new₂ t → (r ≡ t) × (new₁ ≡ new₂)
unpack_door_one_outcome a b = (
  a.tells ∙ sym b.tells,
  λ i. record {
    codes = (a.unpacks.writes_codes ∙ sym b.unpacks.writes_codes) i;
    firsts = (a.unpacks.writes_firsts ∙ sym b.unpacks.writes_firsts) i;
    seconds = (a.unpacks.writes_seconds ∙ sym b.unpacks.writes_seconds) i;
    outputs = (a.unpacks.writes_outputs ∙ sym b.unpacks.writes_outputs) i;
  },
)
