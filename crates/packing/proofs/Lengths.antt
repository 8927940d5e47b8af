-- How many bits fields take, and how many bytes a formula takes at most. Assumes nothing.
use mathlib.Core.Path.{◌≡◌, refl, ◌∙◌, ap, ap₂}
use mathlib.Core.List.{List, [], ◌∷◌, ◌++◌, map}
use Prim.Native.Nat.{ℕ, zero, suc, ◌+◌, ◌*◌, ◌≤◌}
use native.Mathlib.Omega.{arith}
use lib.IntN.{ℤ, pos, negsuc}
use lib.ListN.{length, length-append, length-map}
use Rattle.bits.specs.Bits.{to_bits}
use Rattle.bits.proofs.Digits.{length_to_bits}
use Rattle.writing.specs.Bytes.{whole_bytes}
use Rattle.writing.proofs.Bits.{length_bytes_of}
use Rattle.formulas.specs.Formula.{Formula, places, WellFormed}
use Rattle.packed.specs.Items.{width}
use Rattle.packed.specs.Format.{widest}
use Rattle.packing.specs.Raw.{RawInstruction, raw, raw_of}
use Rattle.packing.specs.Slots.{Slot, encoded, instruction_slots, output_slots, several_slots}
use Rattle.packing.specs.Slots.{program_slots, result_slots, fields_of, slots_bits, slots_width, packed_bytes}

pub length_slots_bits : (ss : List Slot) → length (slots_bits ss) ≡ slots_width ss
length_slots_bits [] = refl
length_slots_bits (s ∷ ss) =
    length-append (to_bits (width s.kind) (encoded s.number)) (slots_bits ss)
    ∙ ap₂ (λ (m n : ℕ). m + n) (length_to_bits (width s.kind) (encoded s.number)) (length_slots_bits ss)

pub width_append : (ss ts : List Slot) → slots_width (ss ++ ts) ≡ slots_width ss + slots_width ts
width_append [] ts = omega arith
width_append (s ∷ ss) ts = omega (arith, width_append ss ts)

pub instruction_wide : (F v : ℕ) (c a b : ℤ) → slots_width (instruction_slots F v (raw c a b)) ≤ widest
instruction_wide F v (pos zero) a b = omega arith
instruction_wide F v (pos (suc zero)) a b = omega arith
instruction_wide F v (pos (suc (suc zero))) a b = omega arith
instruction_wide F v (pos (suc (suc (suc zero)))) a b = omega arith
instruction_wide F v (pos (suc (suc (suc (suc zero))))) a b = omega arith
instruction_wide F v (pos (suc (suc (suc (suc (suc zero)))))) a b = omega arith
instruction_wide F v (pos (suc (suc (suc (suc (suc (suc zero))))))) a b = omega arith
instruction_wide F v (pos (suc (suc (suc (suc (suc (suc (suc k)))))))) a b = omega arith
instruction_wide F v (negsuc k) a b = omega arith

pub program_wide : (F m : ℕ) (rs : List RawInstruction) → slots_width (program_slots F m rs) ≤ widest * length rs
program_wide F m [] = omega arith
program_wide F m (r ∷ rs) =
    omega (
      arith,
      width_append (instruction_slots F m r) (program_slots F (suc m) rs),
      instruction_wide F m r.code r.first r.second,
      program_wide F (suc m) rs,
    )

pub results_wide : (v j : ℕ) (os : List ℤ) → slots_width (several_slots (output_slots v) j os) ≡ 10 * length os
results_wide v j [] = refl
results_wide v j (o ∷ os) = omega (arith, results_wide v (suc j) os)

pub packed_long : (f : Formula) → length (packed_bytes f) ≡ whole_bytes (slots_width (fields_of f))
unfolding packed_bytes
packed_long f = length_bytes_of (slots_bits (fields_of f)) ∙ ap whole_bytes (length_slots_bits (fields_of f))

-- (32 + 512·66 + 16·10) / 8
pub packed_few : (f : Formula) → WellFormed f → length (packed_bytes f) ≤ 4248
unfolding fields_of
packed_few f w =
    let program = program_slots f.header.scale f.header.inputs (map raw_of f.program) in
    let results = result_slots (places f.header) (map pos f.results) in
    omega (
      arith,
      packed_long f,
      width_append program results,
      program_wide f.header.scale f.header.inputs (map raw_of f.program),
      results_wide (places f.header) 0 (map pos f.results),
      length-map f.program raw_of,
      length-map f.results pos,
      w.program_long,
      w.results_long,
      w.limits.instructions_few,
      w.limits.outputs_few,
    )
