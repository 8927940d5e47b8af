-- What C sees of packing a text: the reply's number where Rattle has an enum, and every place of the buffer.
use Rattle.std.specs.Prelude.{◌≡◌, List, ℕ, ℤ, length}
use Rattle.lists.specs.Over.{over}
use Rattle.replies.specs.declared.MarginsPacked.{MarginsPacked}
use Rattle.replies.specs.Doors.{margins_packed}
use Rattle.text_packing.specs.TextPacking.{text_into, text_said, text_front}

pub record TextDoor (F m : ℤ) (s old new : List ℕ) (r : MarginsPacked) : Type 0 where
  pub tells : r ≡ margins_packed (text_said (text_into (length old) F m s))
  pub writes : new ≡ over (text_front (text_into (length old) F m s)) old
