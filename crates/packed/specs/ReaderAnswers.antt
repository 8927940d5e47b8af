-- What each case of the reader's answers stands for, over the bytes that were read.
use Rattle.std.specs.Prelude.{◌≡◌, Bool, true, false, cond, List, ℕ, ◌+◌, ◌*◌, ◌^◌, ◌≤◌, ◌<◌, eqb, length, take}
use Rattle.std.specs.declared.result.Result.{Result}
use Rattle.std.specs.declared.result.Result.TheVariants.{Ok, Err}
use Rattle.refusals.specs.declared.Refusal.{Refusal}
use Rattle.refusals.specs.declared.Refusal.TheVariants as refusal
use Rattle.refusals.specs.Answer.{Answer, value, refuse}
use Rattle.bits.specs.declared.Cursor.{Cursor}
use Rattle.bits.specs.Bits.{number}
use Rattle.bits.specs.Reader.{Read}
use Rattle.bits.specs.Fields.{before}
use Rattle.formulas.specs.declared.Instruction.{Instruction}
use Rattle.formulas.specs.declared.Instruction.TheVariants.{Add, Subtract, Multiply}
use Rattle.packed.specs.Items.{twos_complement, read}
use Rattle.packed.specs.Format.{instruction, wide, widest}
use Rattle.packed.specs.declared.coefficient.Centred.{Centred}
use Rattle.packed.specs.declared.Decoded.{Decoded}
use Rattle.packed.specs.declared.loaded.Loaded.{Loaded}
use Rattle.packed.specs.declared.loaded.Taken.{Taken}
use Rattle.packed.specs.Loading.{place_of, left, taken, Carries}

-- an instruction and the place after it, or the refusal
abbrev pub InstructionRead : Type 0
InstructionRead = Result Decoded Refusal

abbrev pub instruction_answer : List ℕ → InstructionRead → Answer (Read Instruction)
instruction_answer s (Ok d) = value (record { got = d.instruction; left = before s d.next })
instruction_answer s (Err r) = refuse r

-- the cursor after an instruction stands where its bits end
abbrev pub InstructionPast : Cursor → InstructionRead → Type 0
InstructionPast c (Ok d) = d.next.at ≡ c.at + wide d.instruction
InstructionPast c (Err r) = Unit {0}

-- an instruction that makes value v of a formula of scale F was read
pub record Instructed (s : List ℕ) (F v : ℕ) (c : Cursor) (r : InstructionRead) : Type 0 where
  pub answers : instruction_answer s r ≡ read (instruction F v) (before s c)
  pub past : InstructionPast c r

-- the same from where a loaded cursor stands
pub record InstructedFrom (s : List ℕ) (F v : ℕ) (l : Loaded) (r : InstructionRead) : Type 0 where
  pub is : Instructed s F v (place_of l) r

-- the same of an instruction that is for every scale
pub record ReadBelow (s : List ℕ) (v : ℕ) (l : Loaded) (r : InstructionRead) : Type 0 where
  pub is : (F : ℕ) → InstructedFrom s F v l r

-- and names no value, whichever value it makes
pub record ReadFrom (s : List ℕ) (l : Loaded) (r : InstructionRead) : Type 0 where
  pub is : (v : ℕ) → ReadBelow s v l r

-- the instruction that a code from 2 to 4 makes of two operands
abbrev pub combined : ℕ → ℕ → ℕ → Instruction
combined code i j = cond (eqb code 2) (Add i j) (cond (eqb code 3) (Subtract i j) (Multiply i j))

-- ---- its fields, one after another

abbrev pub code_taken : Loaded → Taken
code_taken l = taken 3 l

abbrev pub constant_taken : Loaded → Taken
constant_taken l = taken 32 (code_taken l).rest

-- the margin behind a centre: one load does not hold both
abbrev pub margin_bits : List ℕ → Loaded → List ℕ
margin_bits s l = left s (constant_taken l).rest

abbrev pub first_taken : Loaded → Taken
first_taken l = taken 10 (code_taken l).rest

abbrev pub second_taken : Loaded → Taken
second_taken l = taken 10 (first_taken l).rest

-- the bytes reach to where a cursor stands
pub record Reaches (s : List ℕ) (l : Loaded) : Type 0 where
  pub is : l.at ≤ 8 * length s

-- a code 0 is there
pub record ZeroCode (s : List ℕ) (l : Loaded) : Type 0 where
  pub near : l.at ≤ 2 ^ 30
  pub carries : Carries s l 57
  pub code_there : Reaches s (code_taken l).rest
  pub is_zero : (code_taken l).field ≡ 0

-- and its constant
pub record Zeroth (s : List ℕ) (l : Loaded) : Type 0 where
  pub near : l.at ≤ 2 ^ 30
  pub carries : Carries s l 57
  pub is_zero : (code_taken l).field ≡ 0
  pub constant_there : Reaches s (constant_taken l).rest

-- a code from 1 to 4 is there
pub record Named (s : List ℕ) (l : Loaded) : Type 0 where
  pub near : l.at ≤ 2 ^ 30
  pub carries : Carries s l 57
  pub code_there : Reaches s (code_taken l).rest
  pub some : 1 ≤ (code_taken l).field
  pub most : (code_taken l).field < 5

-- and every operand that it asks for
pub record Operands (s : List ℕ) (v : ℕ) (l : Loaded) : Type 0 where
  pub named : Named s l
  pub first_there : Reaches s (first_taken l).rest
  pub second_there : 2 ≤ (code_taken l).field → (first_taken l).field < v → Reaches s (second_taken l).rest

-- a code from 5 on is there
pub record Beyond (s : List ℕ) (l : Loaded) : Type 0 where
  pub near : l.at ≤ 2 ^ 30
  pub carries : Carries s l 57
  pub code_there : Reaches s (code_taken l).rest
  pub from_five : 5 ≤ (code_taken l).field

-- a code 5 is there
pub record Fifth (s : List ℕ) (l : Loaded) : Type 0 where
  pub near : l.at ≤ 2 ^ 30
  pub carries : Carries s l 57
  pub code_there : Reaches s (code_taken l).rest
  pub is_five : (code_taken l).field ≡ 5

-- a code 6 is there
pub record Sixth (s : List ℕ) (l : Loaded) : Type 0 where
  pub near : l.at ≤ 2 ^ 30
  pub carries : Carries s l 57
  pub code_there : Reaches s (code_taken l).rest
  pub is_six : (code_taken l).field ≡ 6

-- a constant with a margin, both fields of which are there
pub record WithMargin (s : List ℕ) (l : Loaded) : Type 0 where
  pub near : l.at ≤ 2 ^ 30
  pub carries : Carries s l 57
  pub reaches : l.at + widest ≤ 8 * length s

-- they are these
pub record IsCentred (s : List ℕ) (l : Loaded) (r : Centred) : Type 0 where
  pub centre_is : r.centre ≡ twos_complement (constant_taken l).field
  pub margin_is : r.margin ≡ number (take 31 (margin_bits s l))

-- whether the bytes end inside an operand before another refusal is due
abbrev pub CutShort : List ℕ → ℕ → Loaded → Bool → Type 0
CutShort s v l true = ReadBelow s v l (Err refusal.Ended)
CutShort s v l false = Operands s v l
