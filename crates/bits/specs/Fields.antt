-- What the code's answer to taking a field stands for, over the bytes that it reads.
use Rattle.std.specs.Prelude.{◌≡◌, List, ℕ, ◌+◌, ◌-◌, ◌*◌, ◌/◌, ◌%◌, ◌^◌, ◌≤◌, ◌<◌, length, take, drop}
use Rattle.std.specs.declared.option.Option.{Option}
use Rattle.std.specs.declared.option.Option.TheVariants.{None, Some}
use Rattle.refusals.specs.declared.Refusal.TheVariants as refusal
use Rattle.refusals.specs.Answer.{Answer, value, refuse}
use Rattle.bits.specs.declared.Cursor.{Cursor}
use Rattle.bits.specs.Bits.{bits, number, window_number}
use Rattle.bits.specs.Reader.{Read}

-- the bits that a cursor has before it
abbrev pub before : List ℕ → Cursor → List ℕ
before s c = drop c.at (bits s)

-- a field and the cursor past it, or the bytes ended inside it
abbrev pub Field : Type 0
Field = Option (ℕ × Cursor)

abbrev pub field_answer : List ℕ → Field → Answer (Read ℕ)
field_answer s (Some (n, c)) = value (record { got = n; left = before s c })
field_answer s None = refuse refusal.Ended

-- where a cursor stands after a field of w bits, which is below 2^w
abbrev pub Advanced : Cursor → ℕ → Field → Type 0
Advanced c w (Some (n, d)) = (d.at ≡ c.at + w) × (n < 2 ^ w)
Advanced c w None = Unit {0}

-- the eight bytes from the one that a cursor stands in, moved up until its bit is on top; past the end they are 0
abbrev pub ahead_of : List ℕ → Cursor → ℕ
ahead_of s c = window_number s (c.at / 8) * 2 ^ (c.at % 8) % 2 ^ 64

-- x has the first of these bits on top: a field that starts o bits on and ends within n is cut out of x by its place
abbrev pub Ahead : ℕ → List ℕ → ℕ → Type 0
Ahead n bs x =
    (o w : ℕ) → 1 ≤ w → o + w ≤ n → o + w ≤ length bs → x / 2 ^ (64 - (o + w)) % 2 ^ w ≡ number (take w (drop o bs))

-- a field of w bits ends at a place that the bytes reach, with eight bytes up to it
pub record EndsAt (s : List ℕ) (end w : ℕ) : Type 0 where
  pub some : 1 ≤ w
  pub narrow : w ≤ 32
  pub eight_there : 64 ≤ end
  pub near : end ≤ 2 ^ 32
  pub reaches : end ≤ 8 * length s

-- every field of up to 57 bits lies in eight bytes, whatever bit it starts at
pub record IsAhead (s : List ℕ) (c : Cursor) (r : ℕ) : Type 0 where
  pub is : r ≡ ahead_of s c
  pub fields : Ahead 57 (before s c) r
