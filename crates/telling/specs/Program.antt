-- Document 01, "The program": what `margins` prints, for every input.
use Rattle.std.specs.Prelude.{Option, Some, None, cond, List, [], ◌∷◌, ◌++◌, ℕ, leb, ℤ, length}
use Rattle.refusals.specs.declared.Refusal.TheVariants.{AnotherForm}
use Rattle.refusals.specs.Refusals.{refusal_number}
use Rattle.formulas.specs.Readings.{ball_readings, domain}
use Rattle.formulas.specs.Kinds.{Kind, plain_kind, ball_kind, matryoshka_kind}
use Rattle.formulas.specs.Job.{Result, refused_first, stopped_at, done, job}
use Rattle.packed.specs.Meaning.{formula}
use Rattle.parsing.specs.Lines.{lines}
use Rattle.parsing.specs.declared.word.Job.{Job}
use Rattle.parsing.specs.declared.word.Job.TheVariants.{Plain, Ball, Admit}
use Rattle.parsing.specs.Word.{job_named, numbers_on_a_line}
use Rattle.hex_bytes.specs.Hex.{hex}
use Rattle.rows.specs.Rows.{space, column, each_row}
use Rattle.printing.specs.Decimal.{decimal}
use Rattle.listing.specs.OutputLines.{plain_fields, ball_fields, matryoshka_fields, listed}

-- `refused `, `ok `
abbrev pub refused_word : List ℕ
refused_word = 114 ∷ 101 ∷ 102 ∷ 117 ∷ 115 ∷ 101 ∷ 100 ∷ 32 ∷ []

abbrev pub ok_word : List ℕ
ok_word = 111 ∷ 107 ∷ 32 ∷ []

-- request c: "The program prints a space and the place after the number"; "A refusal is one line, ended by LF"
abbrev pub place_text : ℕ → List ℕ
place_text k = space ∷ (decimal k ++ (10 ∷ []))

-- "`refused ` and the number"
abbrev pub refused_text : ℕ → ℕ → List ℕ
refused_text n k = refused_word ++ decimal n ++ place_text k

-- "Longer input, or input of another form .. prints `refused 12`", and the place, "12 included"
abbrev pub twelve_text : List ℕ
twelve_text = refused_text (refusal_number AnotherForm) 0

-- "The first line is `ok` and the number of outputs"
abbrev pub ok_text : ℕ → List ℕ
ok_text n = ok_word ++ decimal n ++ (10 ∷ [])

-- "then a line for each output"
abbrev pub text_of : {A : Type 0} → (A → List ℕ) → Result A → List ℕ
text_of fields (refused_first n k) = refused_text n k
text_of fields (stopped_at k n vs) = refused_text n k
text_of fields (done vs os) = ok_text (length os) ++ listed fields 0 os

-- lists that are long enough for every formula
abbrev pub most_values : ℕ
most_values = 528

abbrev pub most_outputs : ℕ
most_outputs = 16

-- a job on these bytes and readings, each output's fields on a line
unfoldable pub kind_text : (K : Kind) → (K.Value → List ℕ) → List ℕ → K.Readings → List ℕ
kind_text K fields bytes given = text_of fields (job K (formula bytes) given most_values most_outputs)

-- "1 (`plain`), 2 (`ball`) or 3 (`admit`) decimal numbers"
abbrev pub job_text : Job → List ℕ → List (List ℤ) → List ℕ
job_text Plain bytes rows = kind_text plain_kind plain_fields bytes (column 0 rows)
job_text Ball bytes rows = kind_text ball_kind ball_fields bytes (ball_readings (column 0 rows) (column 1 rows))
job_text Admit bytes rows =
    kind_text matryoshka_kind matryoshka_fields bytes (domain (column 0 rows) (column 1 rows) (column 2 rows))

-- `refused 12` is tested first, over the whole input
abbrev pub if_rows : Job → List ℕ → Option (List (List ℤ)) → List ℕ
if_rows job bytes None = twelve_text
if_rows job bytes (Some rows) = job_text job bytes rows

-- "at most 16 KiB"
abbrev pub longest_input : ℕ
longest_input = 16384

abbrev pub if_job : Option (List ℕ) → Option Job → List (List ℕ) → List ℕ
if_job None named ls = twelve_text
if_job (Some bytes) None ls = twelve_text
if_job (Some bytes) (Some job) ls = if_rows job bytes (each_row (numbers_on_a_line job) ls)

-- "Line 1: the formula in lower-case hex. Line 2: one of the words .. Then one line a reading"
abbrev pub if_lines : Option (List (List ℕ)) → List ℕ
if_lines None = twelve_text
if_lines (Some []) = twelve_text
if_lines (Some (formula ∷ [])) = twelve_text
if_lines (Some (formula ∷ word ∷ readings)) = if_job (hex formula) (job_named word) readings

unfoldable pub program_text : List ℕ → List ℕ
program_text s = cond (leb (length s) longest_input) (if_lines (lines s)) twelve_text
