-- Document 01, "The packed formula": bits, "most significant bit first, with no gap". A bit is 0 or 1.
use Rattle.std.specs.Prelude.{◌≡◌, List, [], ◌∷◌, ◌++◌, ℕ, zero, suc, ◌+◌, ◌*◌, ◌/◌, ◌%◌, ◌^◌, ◌<◌, length, get_or}

-- the low w bits of n, most significant first
unfoldable pub to_bits : ℕ → ℕ → List ℕ
to_bits zero n = []
to_bits (suc w) n = n / 2 ^ w % 2 ∷ to_bits w n

-- the bits of a list of bytes
unfoldable pub bits : List ℕ → List ℕ
bits [] = []
bits (b ∷ s) = to_bits 8 b ++ bits s

-- the number that bits stand for
unfoldable pub number : List ℕ → ℕ
number [] = 0
number (b ∷ bs) = b * 2 ^ length bs + number bs

-- eight bytes from the i-th on, as one number, the first on top; past the end they are 0
abbrev pub window_number : List ℕ → ℕ → ℕ
window_number s i =
    get_or s i 0 * 2 ^ 56 + get_or s (i + 1) 0 * 2 ^ 48 + get_or s (i + 2) 0 * 2 ^ 40 + get_or s (i + 3) 0 * 2 ^ 32
    + get_or s (i + 4) 0 * 2 ^ 24 + get_or s (i + 5) 0 * 2 ^ 16 + get_or s (i + 6) 0 * 2 ^ 8 + get_or s (i + 7) 0

-- each of them is a byte
abbrev pub WindowBytes : List ℕ → ℕ → Type 0
WindowBytes s i =
    (get_or s i 0 < 256) × (get_or s (i + 1) 0 < 256) × (get_or s (i + 2) 0 < 256) × (get_or s (i + 3) 0 < 256)
    × (get_or s (i + 4) 0 < 256) × (get_or s (i + 5) 0 < 256) × (get_or s (i + 6) 0 < 256) × (get_or s (i + 7) 0 < 256)

-- r is the window at i
pub record IsWindow (s : List ℕ) (i r : ℕ) : Type 0 where
  pub is : r ≡ window_number s i
  pub bytes : WindowBytes s i
