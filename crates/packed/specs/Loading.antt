-- A cursor with the bits that it has loaded, and taking a field off it.
use Rattle.std.specs.Prelude.{◌≡◌, List, ℕ, ◌+◌, ◌-◌, ◌*◌, ◌/◌, ◌%◌, ◌^◌, ◌<◌}
use Rattle.bits.specs.declared.Cursor.{Cursor}
use Rattle.bits.specs.Fields.{before, ahead_of, Ahead}
use Rattle.packed.specs.declared.loaded.Loaded.{Loaded}
use Rattle.packed.specs.declared.loaded.Taken.{Taken}

abbrev pub place_of : Loaded → Cursor
place_of l = record { at = l.at }

-- the bits that it has before it
abbrev pub left : List ℕ → Loaded → List ℕ
left s l = before s (place_of l)

-- the topmost w bits, and the cursor past them
abbrev pub taken : ℕ → Loaded → Taken
taken w l =
    record { field = l.ahead / 2 ^ (64 - w); rest = record { at = l.at + w; ahead = l.ahead * 2 ^ w % 2 ^ 64 } }

-- the next n bits before it are on top of what it has loaded
pub record Carries (s : List ℕ) (l : Loaded) (n : ℕ) : Type 0 where
  pub fields : Ahead n (left s l) l.ahead
  pub small : l.ahead < 2 ^ 64

pub record Loads (s : List ℕ) (c : Cursor) (l : Loaded) : Type 0 where
  pub is : l ≡ record { at = c.at; ahead = ahead_of s c }
  pub carries : Carries s l 57
