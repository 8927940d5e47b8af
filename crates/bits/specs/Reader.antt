-- A reader takes something from the front of some bits, or refuses.
use Rattle.std.specs.Prelude.{Bool, true, false, cond, List, ℕ, leb, length, take, drop}
use Rattle.refusals.specs.declared.Refusal.TheVariants as refusal
use Rattle.refusals.specs.Answer.{Answer, value, refused, refuse}
use Rattle.bits.specs.Bits.{number}

-- what was taken, and the bits that are left
pub record Read (A : Type 0) : Type 0 where
  pub got : A
  pub left : List ℕ

abbrev pub Reader : Type 0 → Type 0
Reader A = List ℕ → Answer (Read A)

-- a test that must pass, and the refusal where it does not
abbrev pub require : Bool → ℕ → Reader (Unit {0})
require true n bs = value (record { got = tt; left = bs })
require false n bs = refused n

-- a field of w bits; "1: the bytes end inside a field"
unfoldable pub field : ℕ → Reader ℕ
field w bs =
    cond (leb w (length bs)) (value (record { got = number (take w bs); left = drop w bs })) (refuse refusal.Ended)
