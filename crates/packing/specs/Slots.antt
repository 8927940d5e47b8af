-- The fields of a packed formula in the order in which they are written, each with its kind and the number that it is
-- to hold; and their bytes.
use Rattle.std.specs.Prelude.{List, [], ◌∷◌, ◌++◌, map, ℕ, zero, suc, ◌+◌, ◌-◌, ◌^◌, ℤ, pos, negsuc, nat_abs, length}
use Rattle.bits.specs.Bits.{to_bits}
use Rattle.writing.specs.Bytes.{bytes_of}
use Rattle.formulas.specs.Formula.{Formula, places}
use Rattle.packed.specs.Items.{FieldKind, version, scale, inputs, instructions, outputs}
use Rattle.packed.specs.Items.{code, constant, operand, centre, margin, small_scale, width}
use Rattle.packing.specs.Raw.{RawInstruction, RawFormula, count, raw_of}

-- as a field holds it: "in two's complement" of 32 bits; a number from 0 on is itself
abbrev pub encoded : ℤ → ℕ
encoded (pos n) = n
encoded (negsuc n) = 2 ^ 32 - suc n

pub record Slot : Type 0 where
  pub kind : FieldKind
  pub number : ℤ

abbrev pub slot : FieldKind → ℤ → Slot
slot k z = record { kind = k; number = z }

-- "version 7 .., scale 5, inputs m 5 .., instructions l 10 .., outputs n 5"
abbrev pub header_slots : ℤ → ℤ → ℤ → ℕ → List Slot
header_slots F m l n =
    slot version (pos 1) ∷ slot scale F ∷ slot inputs m ∷ slot instructions l ∷ slot outputs (pos n) ∷ []

-- what follows a code in an instruction that makes value v of a formula of scale F: one case for each code, and nothing
-- after a code that is none
abbrev pub argument_slots : ℕ → ℕ → ℤ → ℤ → ℤ → List Slot
argument_slots F v (pos zero) a b = slot constant a ∷ []
argument_slots F v (pos (suc zero)) a b = slot (operand v) a ∷ []
argument_slots F v (pos (suc (suc zero))) a b = slot (operand v) a ∷ slot (operand v) b ∷ []
argument_slots F v (pos (suc (suc (suc zero)))) a b = slot (operand v) a ∷ slot (operand v) b ∷ []
argument_slots F v (pos (suc (suc (suc (suc zero))))) a b = slot (operand v) a ∷ slot (operand v) b ∷ []
argument_slots F v (pos (suc (suc (suc (suc (suc zero)))))) a b = slot centre a ∷ slot (margin (encoded a)) b ∷ []
argument_slots F v (pos (suc (suc (suc (suc (suc (suc zero))))))) a b =
    slot (small_scale F) (pos 0) ∷ slot (operand v) a ∷ []
argument_slots F v (pos (suc (suc (suc (suc (suc (suc (suc k)))))))) a b = []
argument_slots F v (negsuc k) a b = []

abbrev pub instruction_slots : ℕ → ℕ → RawInstruction → List Slot
instruction_slots F v r = slot code r.code ∷ argument_slots F v r.code r.first r.second

abbrev pub output_slots : ℕ → ℕ → ℤ → List Slot
output_slots v j o = slot (operand v) o ∷ []

-- those of several, one after another, the first with number v
abbrev pub several_slots : {A : Type 0} → (ℕ → A → List Slot) → ℕ → List A → List Slot
several_slots s v [] = []
several_slots s v (a ∷ l) = s v a ++ several_slots s (suc v) l

-- "instruction k, from 0, makes value m+k"; an output names "a value below m+l"
abbrev pub program_slots : ℕ → ℕ → List RawInstruction → List Slot
program_slots F m rs = several_slots (instruction_slots F) m rs

abbrev pub result_slots : ℕ → List ℤ → List Slot
result_slots v os = several_slots (output_slots v) 0 os

-- of what is handed over: its header, its instructions and its outputs
abbrev pub header_of : RawFormula → List Slot
header_of r = header_slots r.scale r.inputs (count r) (length r.results)

abbrev pub program_of : RawFormula → List Slot
program_of r = program_slots (nat_abs r.scale) (nat_abs r.inputs) r.program

abbrev pub results_of : RawFormula → List Slot
results_of r = result_slots (nat_abs r.inputs + length r.program) r.results

unfoldable pub raw_slots : RawFormula → List Slot
raw_slots r = header_of r ++ (program_of r ++ results_of r)

-- of a formula
unfoldable pub fields_of : Formula → List Slot
fields_of f =
    header_slots (pos f.header.scale) (pos f.header.inputs) (pos f.header.instructions) f.header.outputs
    ++ (program_slots f.header.scale f.header.inputs (map raw_of f.program)
    ++ result_slots (places f.header) (map pos f.results))

abbrev pub slots_bits : List Slot → List ℕ
slots_bits [] = []
slots_bits (s ∷ ss) = to_bits (width s.kind) (encoded s.number) ++ slots_bits ss

abbrev pub slots_width : List Slot → ℕ
slots_width [] = 0
slots_width (s ∷ ss) = width s.kind + slots_width ss

unfoldable pub packed_bytes : Formula → List ℕ
packed_bytes f = bytes_of (slots_bits (fields_of f))
