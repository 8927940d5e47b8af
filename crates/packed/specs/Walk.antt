-- Walking a checked formula: what stands at a cursor is an instruction that can be read, and decoding gives that
-- instruction.
use Rattle.std.specs.Prelude.{◌≡◌, List, ℕ, ◌+◌}
use Rattle.refusals.specs.Answer.{value}
use Rattle.bits.specs.declared.Cursor.{Cursor}
use Rattle.bits.specs.Reader.{Read}
use Rattle.bits.specs.Fields.{before}
use Rattle.formulas.specs.declared.Instruction.{Instruction}
use Rattle.packed.specs.declared.loaded.Loaded.{Loaded}
use Rattle.packed.specs.Loading.{place_of}
use Rattle.packed.specs.Items.{read}
use Rattle.packed.specs.Format.{instruction, wide}

-- an instruction stands at the cursor
pub record Readable (s : List ℕ) (c : Cursor) : Type 0 where
  pub scale : ℕ
  pub below : ℕ
  pub all : Read Instruction
  pub reads : read (instruction scale below) (before s c) ≡ value all

-- i is that instruction, and d stands after it
pub record Decodes (s : List ℕ) (c : Cursor) (i : Instruction) (d : Cursor) : Type 0 where
  pub decoded : (F v : ℕ) (x : Read Instruction) → read (instruction F v) (before s c) ≡ value x
      → (i ≡ x.got) × (before s d ≡ x.left)
  pub stands : d.at ≡ c.at + wide i

-- the same from where a loaded cursor stands
pub record DecodesFrom (s : List ℕ) (l : Loaded) (i : Instruction) (d : Cursor) : Type 0 where
  pub is : Decodes s (place_of l) i d
