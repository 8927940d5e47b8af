-- Document 01, "The program": the form of the input, and when `refused 12` is printed.
use Rattle.std.specs.Prelude.{◌≡◌, List, [], ◌∷◌, ◌++◌, ℕ, suc, ◌≤◌, ◌<◌, length}
use Rattle.lists.specs.All.{All}
use Rattle.parsing.specs.Lines.{LF}
use Rattle.parsing.specs.declared.word.Job.{Job}
use Rattle.parsing.specs.Word.{spelt, numbers_on_a_line}
use Rattle.rows.specs.Rows.{space}
use Rattle.telling.specs.Program.{longest_input}

-- no byte of a text is b
abbrev pub Without : ℕ → List ℕ → Type 0
Without b l = All (λ x. x ≡ b → ⊥) l

-- "lines ended by LF"
pub data Lines : List ℕ → List (List ℕ) → Type 0 where
  no_line : Lines [] []
  line : {l s : List ℕ} {ls : List (List ℕ)} → Without LF l → Lines s ls → Lines (l ++ LF ∷ s) (l ∷ ls)

-- 0 to 9 are bytes 48 to 57, a to f 97 to 102
pub record Digit (b : ℕ) : Type 0 where
  pub from_0 : 48 ≤ b
  pub to_9 : b ≤ 57

pub data HexDigit (b : ℕ) : Type 0 where
  digit : Digit b → HexDigit b
  letter : 97 ≤ b → b ≤ 102 → HexDigit b

-- "Line 1: the formula in lower-case hex", not "an odd count of hex digits"
pub data HexLine : List ℕ → Type 0 where
  no_byte : HexLine []
  byte : {a b : ℕ} {l : List ℕ} → HexDigit a → HexDigit b → HexLine l → HexLine (a ∷ b ∷ l)

-- "decimal numbers .. each of 1 to 10 digits after an optional minus", byte 45
pub record Digits (l : List ℕ) : Type 0 where
  pub some_digit : 1 ≤ length l
  pub few : length l ≤ 10
  pub digits : All Digit l

pub data DecimalNumber : List ℕ → Type 0 where
  bare : {l : List ℕ} → Digits l → DecimalNumber l
  minus : {l : List ℕ} → Digits l → DecimalNumber (45 ∷ l)

-- so many "with one space between"
pub data ReadingLine : ℕ → List ℕ → Type 0 where
  last : {l : List ℕ} → DecimalNumber l → ReadingLine 1 l
  before : {k : ℕ} {l r : List ℕ} → DecimalNumber l → ReadingLine (suc k) r
      → ReadingLine (suc (suc k)) (l ++ space ∷ r)

-- "Line 1: the formula .. Line 2: one of the words .. Then one line a reading: 1 (`plain`), 2 (`ball`) or 3 (`admit`)"
pub record InForm (s : List ℕ) : Type 0 where
  pub first : List ℕ
  pub job : Job
  pub readings : List (List ℕ)
  pub in_lines : Lines s (first ∷ spelt job ∷ readings)
  pub is_hex : HexLine first
  pub are_readings : All (ReadingLine (numbers_on_a_line job)) readings

-- "Longer input, or input of another form .. prints `refused 12`"
pub data LongerOrAnotherForm (s : List ℕ) : Type 0 where
  longer : longest_input < length s → LongerOrAnotherForm s
  another : (InForm s → ⊥) → LongerOrAnotherForm s
