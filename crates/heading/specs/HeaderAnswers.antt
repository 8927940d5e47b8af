-- What passing the header gives, over the bytes that were read.
use Rattle.std.specs.Prelude.{◌≡◌, List, ℕ, ◌+◌, ◌-◌, ◌*◌, ◌/◌, ◌%◌, ◌^◌, ◌≤◌, length}
use Rattle.std.specs.declared.result.Result.{Result}
use Rattle.std.specs.declared.result.Result.TheVariants.{Ok, Err}
use Rattle.refusals.specs.declared.Refusal.{Refusal}
use Rattle.refusals.specs.Answer.{value, refuse}
use Rattle.bits.specs.declared.Cursor.{Cursor}
use Rattle.bits.specs.Bits.{bits}
use Rattle.bits.specs.Fields.{before}
use Rattle.formulas.specs.declared.Header.{Header}
use Rattle.formulas.specs.Formula.{InLimits}
use Rattle.packed.specs.Items.{read}
use Rattle.packed.specs.Format.{header}

-- a header's limits, and where the cursor stands after it
pub record WellHeaded (h : Header) (c : Cursor) : Type 0 where
  pub limits : InLimits h
  pub past : c.at ≡ 32

-- the field of w bits that starts o bits on in 64
abbrev pub field_at : ℕ → ℕ → ℕ → ℕ
field_at x o w = x / 2 ^ (64 - (o + w)) % 2 ^ w

-- w bits are there from a cursor on
pub record There (s : List ℕ) (c : Cursor) (w : ℕ) : Type 0 where
  pub is : c.at + w ≤ 8 * length s

-- the header that 64 bits begin with
abbrev pub header_of : ℕ → Header
header_of x =
    record {
      scale = field_at x 7 5;
      inputs = field_at x 12 5;
      instructions = field_at x 17 10;
      outputs = field_at x 27 5;
    }

pub record HeaderRefused (s : List ℕ) (r : Refusal) : Type 0 where
  pub is : read header (bits s) ≡ refuse r

pub record HeaderWhole (s : List ℕ) (x : ℕ) (c : Cursor) : Type 0 where
  pub is : read header (bits s) ≡ value (record { got = header_of x; left = before s c })
  pub well : WellHeaded (header_of x) c

-- the place after what was passed, or the refusal
abbrev pub Passed : Type 0
Passed = Result Cursor Refusal

-- what passing the header gave, where x is ahead of the first bit
abbrev pub HeaderPassed : List ℕ → ℕ → Passed → Type 0
HeaderPassed s x (Ok c) = HeaderWhole s x c
HeaderPassed s x (Err r) = HeaderRefused s r
