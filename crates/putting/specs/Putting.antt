-- Fields put by a writer of bits, one after another: what is asked, and what is left.
use Rattle.std.specs.Prelude.{◌≡◌, true, List, ◌++◌, ℕ, ◌+◌, ◌*◌, ◌≤◌, ◌<◌, ℤ, length}
use Rattle.lists.specs.Written.{Wrote}
use Rattle.refusals.specs.Answer.{value}
use Rattle.writing.specs.declared.Writer.{Writer}
use Rattle.writing.specs.Pending.{Pending}
use Rattle.packing.specs.Raw.{RawInstruction, RawFormula}
use Rattle.packing.specs.Slots.{Slot, header_of, instruction_slots, program_slots, result_slots}
use Rattle.packing.specs.Slots.{slots_bits, slots_width}
use Rattle.packing.specs.Packing.{slots_tested}

-- a writer has written all these bits to the front of a list that held `old`
pub record Written (all old now : List ℕ) (w : Writer) : Type 0 where
  pub bytes : List ℕ
  pub wrote : Wrote bytes 0 old now w.at
  pub pending : Pending all bytes w.count w.held

-- these fields passed, and there is room for their bits
pub record Puttable (ss : List Slot) (w : Writer) (out : List ℕ) : Type 0 where
  pub passed : slots_tested ss ≡ value tt
  pub few : w.count < 32
  pub room : 8 * w.at + w.count + slots_width ss ≤ 8 * length out

-- these fields were put behind what was written
pub record PutsSlots (ss : List Slot) (w : Writer) (old new : List ℕ) (r : Writer) : Type 0 where
  pub onward : (all base : List ℕ) → Written all base old w → Written (all ++ slots_bits ss) base new r
  pub place : 8 * r.at + r.count ≡ 8 * w.at + w.count + slots_width ss
  pub few : r.count < 32

-- nothing is written yet
abbrev pub fresh : Writer
fresh = record { at = 0; count = 0; held = 0 }

pub record HeaderPuttable (given : RawFormula) (out : List ℕ) : Type 0 where
  pub passed : slots_tested (header_of given) ≡ value tt
  pub room : 32 ≤ 8 * length out

pub record PutsHeader (given : RawFormula) (old new : List ℕ) (r : Writer) : Type 0 where
  pub puts : PutsSlots (header_of given) fresh old new r

-- an instruction, whatever value it makes, and at whatever scale that is permitted
pub record InstructionPuttable (i : RawInstruction) (w : Writer) (out : List ℕ) : Type 0 where
  pub scale : ℕ
  pub makes : ℕ
  pub low : makes ≤ 1024
  pub puttable : Puttable (instruction_slots scale makes i) w out

pub record PutsInstruction (i : RawInstruction) (w : Writer) (old new : List ℕ) (r : Writer) : Type 0 where
  pub puts : (F v : ℕ) → PutsSlots (instruction_slots F v i) w old new r

-- all instructions, whatever value the first of them makes
pub record ProgramPuttable (given : RawFormula) (w : Writer) (out : List ℕ) : Type 0 where
  pub scale : ℕ
  pub makes : ℕ
  pub as_long : given.as_long ≡ true
  pub low : makes + length given.program ≤ 1024
  pub puttable : Puttable (program_slots scale makes given.program) w out

pub record PutsProgram (given : RawFormula) (w : Writer) (old new : List ℕ) (r : Writer) : Type 0 where
  pub puts : (F m : ℕ) → PutsSlots (program_slots F m given.program) w old new r

-- all outputs, however many values there are
pub record ResultsPuttable (outputs : List ℤ) (w : Writer) (out : List ℕ) : Type 0 where
  pub values : ℕ
  pub low : values ≤ 1024
  pub puttable : Puttable (result_slots values outputs) w out

pub record PutsResults (outputs : List ℤ) (w : Writer) (old new : List ℕ) (r : Writer) : Type 0 where
  pub puts : (v : ℕ) → PutsSlots (result_slots v outputs) w old new r
