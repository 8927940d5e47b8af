-- A writer of bits: the bytes that it has given out, and the low bits of a number, which are still to be given out.
use Rattle.std.specs.Prelude.{◌≡◌, List, [], ◌∷◌, ◌++◌, ℕ, zero, suc, ◌+◌, ◌*◌, ◌/◌, ◌%◌, ◌^◌, ◌≤◌, ◌<◌, length}
use Rattle.lists.specs.Written.{Wrote}
use Rattle.bits.specs.Bits.{to_bits, bits}
use Rattle.writing.specs.declared.Writer.{Writer}
use Rattle.writing.specs.Bytes.{pad, whole_bytes, AreBytes}

-- all the bits so far: those of the bytes given out, then the low c bits of x
pub record Pending (all : List ℕ) (out : List ℕ) (c x : ℕ) : Type 0 where
  pub so_far : bits out ++ to_bits c x ≡ all
  pub bytes : AreBytes out

-- so many bytes, from the top of the 8·k + c low bits of x
abbrev pub given_out : ℕ → ℕ → ℕ → List ℕ
given_out zero c x = []
given_out (suc k) c x = x / 2 ^ (8 * k + c) % 256 ∷ given_out k c x

-- what is pending at the end, with zeros below it up to the end of a byte
abbrev pub last_bytes : ℕ → ℕ → List ℕ
last_bytes c x = given_out (whole_bytes c) 0 (x * 2 ^ pad c)

-- the bits of a writer with the low `width` bits of n below them, in a word
abbrev pub joined_bits : Writer → ℕ → ℕ → ℕ
joined_bits w width n = w.held * 2 ^ width % 2 ^ 64 + n

-- a number of so many bits may be put: it is that small, and there is room for its bits
pub record MayPut (w : Writer) (width n : ℕ) (out : List ℕ) : Type 0 where
  pub narrow : width ≤ 32
  pub fits : n < 2 ^ width
  pub few : w.count < 32
  pub room : 8 * w.at + w.count + width ≤ 8 * length out

-- what is pending may be closed
pub record MayFinish (w : Writer) (out : List ℕ) : Type 0 where
  pub few : w.count < 32
  pub room : 8 * w.at + w.count ≤ 8 * length out

-- a field of so many bits was put: the bytes are given out as soon as four are full
pub record Puts (w : Writer) (width n : ℕ) (old new : List ℕ) (r : Writer) : Type 0 where
  pub wrote :
      Wrote (given_out (4 * ((w.count + width) / 32)) ((w.count + width) % 32) (joined_bits w width n)) w.at
      old new r.at
  pub counts : r.count ≡ (w.count + width) % 32
  pub holds : r.held ≡ joined_bits w width n
