-- The demands 2 and 3 about what is printed: what an input asks for, and what the printed numbers assure.
use Rattle.std.specs.Prelude.{◌≡◌, List, ◌∷◌, ◌++◌, ℕ, ◌≤◌, ℤ, length, Some}
use Rattle.lists.specs.Joined.{Rel}
use Rattle.refusals.specs.Answer.{value}
use Rattle.rules.specs.declared.Ball.{Ball}
use Rattle.rules.specs.declared.Matryoshka.{Matryoshka}
use Rattle.rules.specs.Values.{Fraction, Contains}
use Rattle.rules.specs.Lists.{centres_of, margins_of, BallLists, ball_lists}
use Rattle.rules.specs.Lists.{middles_of, strays_of, static_margins_of, MatryoshkaLists, matryoshka_lists}
use Rattle.formulas.specs.Formula.{Formula}
use Rattle.formulas.specs.Readings.{BallReadings, Domain, ball_readings, domain}
use Rattle.formulas.specs.Kinds.{matryoshka_kind}
use Rattle.formulas.specs.Job.{lent}
use Rattle.formulas.specs.ExactRun.{ExactRun}
use Rattle.packed.specs.Meaning.{formula}
use Rattle.parsing.specs.Lines.{lines}
use Rattle.parsing.specs.declared.word.Job.{Job}
use Rattle.parsing.specs.Word.{job_named, numbers_on_a_line}
use Rattle.hex_bytes.specs.Hex.{hex}
use Rattle.rows.specs.Rows.{column, each_row}
use Rattle.listing.specs.OutputLines.{listed}
use Rattle.telling.specs.Program.{ok_text, refused_text, longest_input}
use Rattle.demands.specs.Demands.{Chosen, exact_outputs, Admitted}

-- "Line 1: the formula in lower-case hex. Line 2: one of the words .. Then one line a reading": an input of that form
pub record Asks (s : List ℕ) (job : Job) (bytes : List ℕ) (rows : List (List ℤ)) : Type 0 where
  pub short : length s ≤ longest_input
  pub formula_line : List ℕ
  pub word : List ℕ
  pub reading_lines : List (List ℕ)
  pub has_lines : lines s ≡ Some (formula_line ∷ word ∷ reading_lines)
  pub in_hex : hex formula_line ≡ Some bytes
  pub names_job : job_named word ≡ Some job
  pub has_rows : each_row (numbers_on_a_line job) reading_lines ≡ Some rows

-- an input that asks for this job
pub record AsksFor (s : List ℕ) (job : Job) : Type 0 where
  pub bytes : List ℕ
  pub rows : List (List ℤ)
  pub asks : Asks s job bytes rows

abbrev pub readings_on : List (List ℤ) → BallReadings
readings_on rows = ball_readings (column 0 rows) (column 1 rows)

abbrev pub domain_on : List (List ℤ) → Domain
domain_on rows = domain (column 0 rows) (column 1 rows) (column 2 rows)

-- "The first line is `ok` and the number of outputs; then a line for each output"
abbrev pub printed : {A : Type 0} → (A → List ℕ) → List A → List ℕ
printed fields vs = ok_text (length vs) ++ listed fields 0 vs

-- "exact arithmetic on any fractions inside the reading margins lands inside the printed margin"
pub record Encloses (bytes : List ℕ) (given : BallReadings) (bs : List Ball) : Type 0 where
  pub meant : Formula
  pub means : formula bytes ≡ value meant
  pub as_many : length bs ≡ meant.header.outputs
  pub inside : (xs ys : List Fraction) → Chosen meant.header.scale given xs
      → ExactRun meant.header.scale meant.program xs ys
      → Rel (Contains meant.header.scale) bs (exact_outputs meant ys)

-- a refusal, or the lines of outputs of which P holds
pub data RefusedOr {A : Type 0} (fields : A → List ℕ) (P : List A → Type 0) (text : List ℕ) : Type 0 where
  a_refusal : (n k : ℕ) → text ≡ refused_text n k → RefusedOr fields P text
  outputs : (vs : List A) → text ≡ printed fields vs → P vs → RefusedOr fields P text

-- lists that hold the values and nothing else
abbrev pub lists_of_balls : List Ball → BallLists
lists_of_balls bs = ball_lists (centres_of bs) (margins_of bs)

abbrev pub lists_of_matryoshki : List Matryoshka → MatryoshkaLists
lists_of_matryoshki ms = matryoshka_lists (middles_of ms) (strays_of ms) (static_margins_of ms)

-- demand 3 of an admission whose output lists hold the printed numbers and nothing else
pub record AdmittedAs (bytes : List ℕ) (d : Domain) (ms : List Matryoshka) : Type 0 where
  pub work : MatryoshkaLists
  pub admitted : Admitted bytes d (lent matryoshka_kind work (lists_of_matryoshki ms)) (length ms)
