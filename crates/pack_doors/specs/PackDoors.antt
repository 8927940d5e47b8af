-- What C sees of the packer and of reading back: the reply's number where Rattle has an enum; the lists are theirs.
use Rattle.std.specs.Prelude.{◌≡◌, List, ℕ, length}
use Rattle.lists.specs.Over.{over}
use Rattle.packing.specs.Raw.{RawFormula, Parts}
use Rattle.packing.specs.Packing.{pack_into}
use Rattle.packing.specs.Unpacking.{unpack_into}
use Rattle.packing.specs.PackAnswers.{packed_said, packed_front, unpacked_header, Unpacks}
use Rattle.replies.specs.declared.MarginsFormula.{MarginsFormula}
use Rattle.replies.specs.declared.MarginsPacked.{MarginsPacked}
use Rattle.replies.specs.Doors.{margins_formula, margins_packed}

pub record PackDoor (given : RawFormula) (old new : List ℕ) (r : MarginsPacked) : Type 0 where
  pub tells : r ≡ margins_packed (packed_said (pack_into (length old) given))
  pub writes : new ≡ over (packed_front (pack_into (length old) given)) old

pub record UnpackDoor (s : List ℕ) (old new : Parts) (r : MarginsFormula) : Type 0 where
  pub tells : r ≡ margins_formula (unpacked_header (unpack_into old s))
  pub unpacks : Unpacks s old new (unpacked_header (unpack_into old s))
