-- A formula that passed its tests, written into a list with room for it.
use Rattle.std.specs.Prelude.{◌≡◌, List, ℕ, ◌≤◌, length}
use Rattle.lists.specs.Written.{Wrote}
use Rattle.refusals.specs.Answer.{value}
use Rattle.writing.specs.Bytes.{whole_bytes}
use Rattle.packing.specs.Raw.{RawFormula, formula_of}
use Rattle.packing.specs.Slots.{raw_slots, slots_width, packed_bytes}
use Rattle.packing.specs.Packing.{slots_tested}

pub record Writable (given : RawFormula) (out : List ℕ) : Type 0 where
  pub passed : slots_tested (raw_slots given) ≡ value tt
  pub room : whole_bytes (slots_width (raw_slots given)) ≤ length out

pub record WritesFormula (given : RawFormula) (old new : List ℕ) (r : ℕ) : Type 0 where
  pub wrote : Wrote (packed_bytes (formula_of given)) 0 old new r
