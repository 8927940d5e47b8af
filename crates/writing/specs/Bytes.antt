-- Document 01, "The packed formula", the other way round: bits, "most significant bit first, with no gap", as bytes.
-- "Bits left in the last byte are zero; no byte follows."
use Rattle.std.specs.Prelude.{List, [], ◌∷◌, ◌++◌, ℕ, zero, suc, ◌+◌, ◌-◌, ◌/◌, ◌%◌, ◌<◌, length, take, drop, replicate}
use Rattle.bits.specs.Bits.{number}

-- so many bits are missing to whole bytes
abbrev pub pad : ℕ → ℕ
pad n = (8 - n % 8) % 8

abbrev pub whole_bytes : ℕ → ℕ
whole_bytes n = (n + 7) / 8

-- so many bytes of these bits
abbrev pub cut_bytes : ℕ → List ℕ → List ℕ
cut_bytes zero bs = []
cut_bytes (suc k) bs = number (take 8 bs) ∷ cut_bytes k (drop 8 bs)

unfoldable pub bytes_of : List ℕ → List ℕ
bytes_of bs = cut_bytes (whole_bytes (length bs)) (bs ++ replicate (pad (length bs)) 0)

-- every one is below 256
pub data AreBytes : List ℕ → Type 0 where
  none : AreBytes []
  more : {b : ℕ} {s : List ℕ} → b < 256 → AreBytes s → AreBytes (b ∷ s)
