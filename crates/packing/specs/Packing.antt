-- Request a, the packer: its tests in the order in which the fields would be written, and what it writes.
use Rattle.std.specs.Prelude.{Bool, true, false, cond, List, [], ◌∷◌, ℕ, leb, ℤ, pos, negsuc, nat_abs, length}
use Rattle.refusals.specs.declared.Refusal.TheVariants as refusal
use Rattle.refusals.specs.Answer.{Answer, value, refuse, then}
use Rattle.rules.specs.Numbers.{M}
use Rattle.formulas.specs.Formula.{Formula}
use Rattle.packed.specs.Items.{FieldKind, version, scale, inputs, instructions}
use Rattle.packed.specs.Items.{outputs, code, constant, operand, centre, margin, small_scale}
use Rattle.packed.specs.Items.{permitted, complaint}
use Rattle.packing.specs.Raw.{RawFormula, formula_of}
use Rattle.packing.specs.Slots.{Slot, raw_slots, packed_bytes}

-- who gives a field's number, and how: the packer itself, or the caller, from 0 on or of either sign
pub data Sort : Type 0 where
  fixed natural signed : Sort

abbrev pub sort : FieldKind → Sort
sort version = fixed
sort scale = natural
sort inputs = natural
sort instructions = natural
sort outputs = natural
sort code = natural
sort constant = signed
sort (operand v) = natural
sort centre = signed
sort (margin c) = natural
sort (small_scale F) = natural

-- what a field may be given: a number from 0 on that the reader permits; or one whose size is at most M, "7 also for a
-- constant that 32 bits can't hold", and for −2^31; a margin that is permitted makes a reach of at most M
abbrev pub fits_as : Sort → FieldKind → ℤ → Bool
fits_as fixed k z = true
fits_as natural k (pos n) = permitted k n
fits_as natural k (negsuc n) = false
fits_as signed k z = leb (nat_abs z) M

abbrev pub fits : FieldKind → ℤ → Bool
fits k = fits_as (sort k) k

-- "3 to 7 as in document 01, tested in the order in which the fields would be written"; "16 at reading or packing,
-- right after the code"
abbrev pub slots_tested : List Slot → Answer (Unit {0})
slots_tested [] = value tt
slots_tested (s ∷ ss) = cond (fits s.kind s.number) (slots_tested ss) (refuse (complaint s.kind))

unfoldable pub pack : RawFormula → Answer Formula
pack r = then (slots_tested (raw_slots r)) (λ u. value (formula_of r))

-- "then 10 when the buffer is too short": what a packer into so many bytes writes
unfoldable pub pack_into : ℕ → RawFormula → Answer (List ℕ)
pack_into room r =
    then (pack r) (λ f. cond (leb (length (packed_bytes f)) room) (value (packed_bytes f)) (refuse refusal.NoRoom))
