-- The code and the fields of the instruction that a word keeps, and whether its constant is permitted.
use Rattle.std.specs.Prelude.{◌≡◌, Bool, true, cond, ◌||◌, List, map, ℕ, ◌+◌, ◌/◌, ◌%◌, ◌^◌, ◌<◌, leb, eqb, ℤ, pos, length, take}
use Rattle.std.specs.List.{list_all}
use Rattle.std.specs.Borrow.{Bor}
use Rattle.std.specs.declared.result.Result.{Result}
use Rattle.std.specs.declared.result.Result.TheVariants.{Ok, Err}
use Rattle.refusals.specs.declared.Refusal.{Refusal}
use Rattle.refusals.specs.declared.Refusal.TheVariants as refusal
use Rattle.rules.specs.Numbers.{M}

abbrev pub code_in : ℕ → ℕ
code_in w = w % 8

-- a constant or a centre has all the bits above the code; an operand has ten
abbrev pub first_in : ℕ → ℕ
first_in w = cond (eqb (w % 8) 0 || eqb (w % 8) 5) (w / 8) (w / 8 % 1024)

-- a constant has none, a coefficient's margin is 1
abbrev pub second_in : ℕ → ℕ
second_in w = cond (eqb (w % 8) 0) 0 (cond (eqb (w % 8) 5) 1 (w / 8 / 1024))

pub record Fields (w : ℕ) (r : ℕ × ℕ) : Type 0 where
  pub first_is : r.0 ≡ first_in w
  pub second_is : r.1 ≡ second_in w
  pub first_small : r.0 < 2 ^ 61
  pub second_small : r.1 < 2 ^ 61

-- one number of each word
abbrev pub column_of : (ℕ → ℕ) → List ℕ → List ℤ
column_of number_in words = map (λ w. pos (number_in w)) words

-- what a constant reaches is at most M
abbrev pub word_fits : ℕ → Bool
word_fits w = cond (eqb (w % 8) 0) (leb (w / 8) M) (cond (eqb (w % 8) 5) (leb (w / 8 + 1) M) true)

-- the first words: the constants of those that there are, then whether there are so many
abbrev pub permitted : List ℕ → ℕ → Result (List ℕ) Refusal
permitted words count =
    cond (list_all word_fits (take count words)) (cond (leb count (length words)) (Ok (take count words)) (Err refusal.Count)) (Err refusal.Constant)

abbrev pub read_off : Result (Bor (List ℕ)) Refusal → Result (List ℕ) Refusal
read_off (Ok front) = Ok front.now
read_off (Err e) = Err e

pub record Permitted (words : List ℕ) (count : ℕ) (r : Result (Bor (List ℕ)) Refusal) : Type 0 where
  pub is : read_off r ≡ permitted words count
