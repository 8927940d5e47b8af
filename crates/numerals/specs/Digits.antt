-- Request h: "A number has 1 to 9 digits in all, with an optional point between digits." As long a number as stands in
-- front of bytes.
use Rattle.std.specs.Prelude.{◌≡◌, Bool, true, false, cond, ◌&&◌, List, [], ◌∷◌, ℕ, zero, suc, ◌+◌, ◌-◌, ◌*◌, ◌^◌, ◌≤◌, ◌<◌, leb, ltb, eqb, length, drop, get_or}
use Rattle.std.specs.declared.option.Option.{Option}
use Rattle.std.specs.declared.option.Option.TheVariants.{None, Some}
use Rattle.std.specs.declared.result.Result.{Result}
use Rattle.std.specs.declared.result.Result.TheVariants.{Ok, Err}
use Rattle.numerals.specs.declared.Numeral.{Numeral}
use Rattle.numerals.specs.declared.Wrong.{Wrong}

abbrev pub is_digit : ℕ → Bool
is_digit b = leb 48 b && ltb b 58

abbrev pub point : ℕ
point = 46

-- what stands in front: the digits as one number, how many of them stand after the point, and the bytes behind; or the
-- bytes at which a digit must stand and none does
pub data Reading : Type 0 where
  number : ℕ → ℕ → List ℕ → Reading
  no_digit : List ℕ → Reading

-- e digits stand after the point, they are v without it, and l more may follow
abbrev pub fraction_on : ℕ → ℕ → ℕ → List ℕ → Reading
fraction_on l e v [] = number v e []
fraction_on zero e v (b ∷ s) = number v e (b ∷ s)
fraction_on (suc l) e v (b ∷ s) =
    cond (is_digit b) (fraction_on l (suc e) (10 * v + (b - 48)) s) (number v e (b ∷ s))

-- right behind a point a digit must stand, and l more may follow it
abbrev pub point_on : ℕ → ℕ → List ℕ → Reading
point_on l v [] = no_digit []
point_on l v (b ∷ s) = cond (is_digit b) (fraction_on l 1 (10 * v + (b - 48)) s) (no_digit (b ∷ s))

-- no point stands yet
abbrev pub whole_on : ℕ → ℕ → List ℕ → Reading
whole_on l v [] = number v 0 []
whole_on zero v (b ∷ s) = number v 0 (b ∷ s)
whole_on (suc l) v (b ∷ s) =
    cond (eqb b point) (point_on l v s) (cond (is_digit b) (whole_on l (10 * v + (b - 48)) s) (number v 0 (b ∷ s)))

abbrev pub reading : List ℕ → Reading
reading [] = no_digit []
reading (b ∷ s) = cond (is_digit b) (whole_on 8 (b - 48) s) (no_digit (b ∷ s))

-- ---- what the code's answers stand for

abbrev pub TellsDigit : ℕ → Option ℕ → Type 0
TellsDigit b (Some d) = (is_digit b ≡ true) × (d ≡ b - 48) × (d ≤ 9)
TellsDigit b None = is_digit b ≡ false

-- the digit at a place, or that none stands there
abbrev pub MustBeDigit : List ℕ → ℕ → Result ℕ Wrong → Type 0
MustBeDigit s at (Ok d) = (at < length s) × TellsDigit (get_or s at 0) (Some d)
MustBeDigit s at (Err e) = (e.place ≡ at) × (at < length s → is_digit (get_or s at 0) ≡ false)

abbrev pub numeral_reading : List ℕ → Result Numeral Wrong → Reading
numeral_reading s (Ok n) = number n.number.count n.number.places (drop n.end s)
numeral_reading s (Err e) = no_digit (drop e.place s)

-- its numbers are small, and it ends within the bytes, behind a place or right at one where no digit stands
abbrev pub Within : List ℕ → ℕ → Result Numeral Wrong → Type 0
Within s from (Ok n) = (n.number.count < 10 ^ 9) × (n.number.places ≤ 8) × (from ≤ n.end) × (n.end ≤ length s)
Within s from (Err e) = (from ≤ e.place + 1) × (e.place ≤ length s)

-- the answer to what was to be read
pub record Reads (s : List ℕ) (from : ℕ) (what : Reading) (r : Result Numeral Wrong) : Type 0 where
  pub is : numeral_reading s r ≡ what
  pub within : Within s from r

-- a number so far, up to a place: v without its point, e of its digits behind that, l more may follow
pub record SoFar (s : List ℕ) (at l e v : ℕ) : Type 0 where
  pub there : at ≤ length s
  pub digits : l + e ≤ 8
  pub small : (v + 1) * 10 ^ l ≤ 10 ^ 9
