-- Decimal texts, as bytes: what one means, which of them are read, and the text of a count of 10^-d.
use Rattle.std.specs.Prelude.{Bool, false, ◌&&◌, cond, List, [], ◌∷◌, ◌++◌, ℕ, zero, suc, ◌+◌, ◌-◌, ◌*◌, ◌/◌, ◌%◌, ◌^◌, leb, eqb, ℤ, pos, negsuc, neg_ℤ, length, drop}
use Rattle.std.proofs.Math.Option.{Option, none, some, map, bind}
use Rattle.numerals.specs.Digits.{is_digit, point}
use Rattle.printing.specs.Decimal as whole
use Rattle.numerals.specs.declared.Decimal.{Decimal}
use Rattle.numerals.specs.Decimals.{decimal}

abbrev pub minus : ℕ
minus = 45

abbrev pub space : ℕ
space = 32

-- ---- what a text means

-- the number that digits make behind those that made n
abbrev pub digits_on : ℕ → List ℕ → Option ℕ
digits_on n [] = some n
digits_on n (b ∷ s) = cond (is_digit b) (digits_on (10 * n + (b - 48)) s) none

-- what stands before and behind the first point, or all where there is none
pub data Parts : Type 0 where
  bare : List ℕ → Parts
  pointed : List ℕ → List ℕ → Parts

abbrev pub longer : ℕ → Parts → Parts
longer b (bare w) = bare (b ∷ w)
longer b (pointed w p) = pointed (b ∷ w) p

abbrev pub parted : List ℕ → Parts
parted [] = bare []
parted (b ∷ s) = cond (eqb b point) (pointed [] s) (longer b (parted s))

-- "digits" and "an optional point between digits": the digits as one number, and how many of them stand behind the point
abbrev pub worth : Parts → Option (Decimal ℕ)
worth (bare w) = cond (leb 1 (length w)) (map (λ n. decimal n 0) (digits_on 0 w)) none
worth (pointed w p) =
    cond (leb 1 (length w) && leb 1 (length p)) (map (λ n. decimal n (length p)) (digits_on 0 (w ++ p))) none

unfoldable pub unsigned_means : List ℕ → Option (Decimal ℕ)
unsigned_means s = worth (parted s)

abbrev pub below : Decimal ℕ → Decimal ℤ
below m = decimal (neg_ℤ (pos m.count)) m.places

abbrev pub above : Decimal ℕ → Decimal ℤ
above m = decimal (pos m.count) m.places

abbrev pub minus_first : List ℕ → Bool
minus_first [] = false
minus_first (b ∷ s) = eqb b minus

-- "an optional minus" before what f reads
abbrev pub signed : (List ℕ → Option (Decimal ℕ)) → List ℕ → Option (Decimal ℤ)
signed f s = cond (minus_first s) (map below (f (drop 1 s))) (map above (f s))

unfoldable pub means : List ℕ → Option (Decimal ℤ)
means s = signed unsigned_means s

-- ---- what is read: "1 to 9 digits in all"

abbrev pub figures : List ℕ → ℕ
figures [] = 0
figures (b ∷ s) = cond (is_digit b) (suc (figures s)) (figures s)

abbrev pub most_digits : ℕ
most_digits = 9

-- "a margin of the same form without a minus"
unfoldable pub read_unsigned : List ℕ → Option (Decimal ℕ)
read_unsigned s = cond (leb (figures s) most_digits) (unsigned_means s) none

unfoldable pub read : List ℕ → Option (Decimal ℤ)
read s = signed read_unsigned s

-- ---- the text of a count: "minus, point and d digits", at least one digit before the point and no point where d is 0

-- the last d digits of n, with zeros in front where n has fewer
unfoldable pub last_digits : ℕ → ℕ → List ℕ
last_digits zero n = []
last_digits (suc d) n = last_digits d (n / 10) ++ (48 + n % 10) ∷ []

unfoldable pub behind : ℕ → ℕ → List ℕ
behind zero n = []
behind (suc d) n = point ∷ last_digits (suc d) n

abbrev pub unsigned_text : ℕ → ℕ → List ℕ
unsigned_text d n = whole.decimal (n / 10 ^ d) ++ behind d n

unfoldable pub text : ℕ → ℤ → List ℕ
text d (pos n) = unsigned_text d n
text d (negsuc n) = minus ∷ unsigned_text d (suc n)

-- ---- a ball: `0.5625 +- 0.5625`

-- " +- "
abbrev pub give_or_take : List ℕ
give_or_take = space ∷ 43 ∷ 45 ∷ space ∷ []

abbrev pub ball_text : ℕ → ℤ → ℕ → List ℕ
ball_text d c r = text d c ++ give_or_take ++ unsigned_text d r

pub record DecimalBall : Type 0 where
  pub centre : Decimal ℤ
  pub margin : Decimal ℕ

abbrev pub decimal_ball : Decimal ℤ → Decimal ℕ → DecimalBall
decimal_ball c r = record { centre = c; margin = r }

-- what stands before the first space, and from it on
abbrev pub before_space : List ℕ → List ℕ
before_space [] = []
before_space (b ∷ s) = cond (eqb b space) [] (b ∷ before_space s)

abbrev pub from_space : List ℕ → List ℕ
from_space [] = []
from_space (b ∷ s) = cond (eqb b space) (b ∷ s) (from_space s)

-- what stands behind a word, if a text begins with it
abbrev pub behind_word : List ℕ → List ℕ → Option (List ℕ)
behind_word [] s = some s
behind_word (a ∷ w) [] = none
behind_word (a ∷ w) (b ∷ s) = cond (eqb a b) (behind_word w s) none

-- the centre as f reads it, and the margin as g does
abbrev pub ball_by : (List ℕ → Option (Decimal ℤ)) → (List ℕ → Option (Decimal ℕ)) → List ℕ → Option DecimalBall
ball_by f g s =
    bind (f (before_space s)) (λ c. map (λ r. decimal_ball c r) (bind (behind_word give_or_take (from_space s)) g))

unfoldable pub ball_means : List ℕ → Option DecimalBall
ball_means s = ball_by means unsigned_means s

unfoldable pub read_ball : List ℕ → Option DecimalBall
read_ball s = ball_by read read_unsigned s
