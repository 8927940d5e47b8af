-- `refused 12` is printed exactly where the input is longer or of another form. Assumes nothing.
use mathlib.Core.Path.{◌≡◌, refl, sym, ◌∙◌, ap, ap₂, subst}
use mathlib.Core.Bool.{Bool, true, false, cond}
use mathlib.Core.List.{List, [], ◌∷◌, ◌++◌}
use Rattle.std.proofs.Common.{Option, Some, None}
use Prim.Native.Nat.{ℕ}
use native.Mathlib.Omega.{arith}
use lib.Dec.{leb}
use borrow.Author.Tests.{leb-false, lt-leb}
use lib.IntN.{ℤ}
use lib.ListN.{length, get_or, drop}
use Rattle.refusals.specs.Said.{refuses}
use Rattle.formulas.specs.Kinds.{Kind}
use Rattle.formulas.specs.Job.{Result, refused_first, stopped_at, done, job, said}
use Rattle.formulas.specs.GivenInRuns.{Terms}
use Rattle.formulas.specs.Readings.{ball_readings, domain}
use Rattle.formulas.specs.Lawful.{Lawful}
use Rattle.formulas.proofs.Lawful.{plain_lawful, ball_lawful, matryoshka_lawful}
use Rattle.formulas.proofs.GivenInRuns.{Refusing, plain_refusing, ball_refusing, matryoshka_refusing}
use Rattle.packed.specs.Meaning.{formula}
use Rattle.packed.proofs.GivenExactly.{job_numbers}
use Rattle.parsing.specs.Lines.{lines}
use Rattle.parsing.specs.declared.word.Job.{Job}
use Rattle.parsing.specs.declared.word.Job.TheVariants.{Plain, Ball, Admit}
use Rattle.parsing.specs.Word.{job_named, numbers_on_a_line}
use Rattle.hex_bytes.specs.Hex.{hex}
use Rattle.rows.specs.Rows.{space, column, each_row}
use Rattle.printing.specs.Decimal.{decimal}
use Rattle.printing.proofs.OneNumber.{Above, cut_one, decimal_one, decimal_above, above_less}
use Rattle.listing.specs.OutputLines.{plain_fields, ball_fields, matryoshka_fields}
use Rattle.telling.specs.Program.{refused_text, twelve_text, text_of, most_values, most_outputs, kind_text, job_text, if_rows, if_job, if_lines, longest_input, program_text}
use Rattle.telling.specs.Form.{Lines, InForm, LongerOrAnotherForm, longer, another}
use Rattle.telling.proofs.Forms.{lines_are, are_lines, hex_got, is_hex, word_named, named_word, rows_got, are_rows}

-- ---- no job prints 12

-- the number in a refusal's line ends at the first space behind `refused `
not_twelve : (n k : ℕ) → (n ≡ 12 → ⊥) → refused_text n k ≡ twelve_text → ⊥
not_twelve n k d e = d (decimal_one n 12 (omega arith) (cut_one space (rest k) (rest 0) (unspaced n) (unspaced 12) same).0)
  where
    rest : ℕ → List ℕ
    rest j = decimal j ++ 10 ∷ []

    unspaced : (m : ℕ) → Above space (decimal m)
    unspaced m = above_less (omega arith) (decimal_above m)

    same : decimal n ++ space ∷ rest k ≡ decimal 12 ++ space ∷ rest 0
    same = ap (drop 8) e

result_text : {A : Type 0} (fields : A → List ℕ) (j : Result A) → ((n k : ℕ) → said j ≡ refuses n k → n ≡ 12 → ⊥)
    → text_of fields j ≡ twelve_text → ⊥
result_text fields (refused_first n k) other e = not_twelve n k (other n k refl) e
result_text fields (stopped_at k n vs) other e = not_twelve n k (other n k refl) e
result_text fields (done vs os) other e = let z : ◌≡◌ {A = ℕ} 111 114 = ap (λ t. get_or t 0 0) e in omega arith

kind_text_not : {K : Kind} {T : Terms K} → Lawful K → Refusing K T → (fields : K.Value → List ℕ) (bytes : List ℕ) (given : K.Readings)
    → kind_text K fields bytes given ≡ twelve_text → ⊥
unfolding kind_text
kind_text_not {K} law refusing fields bytes given e =
    result_text fields (job K (formula bytes) given most_values most_outputs)
    (λ n k u. (job_numbers law refusing bytes given most_values most_outputs u).not_twelve) e

job_text_not : (j : Job) (bytes : List ℕ) (rows : List (List ℤ)) → job_text j bytes rows ≡ twelve_text → ⊥
job_text_not Plain bytes rows e = kind_text_not plain_lawful plain_refusing plain_fields bytes (column 0 rows) e
job_text_not Ball bytes rows e =
    kind_text_not ball_lawful ball_refusing ball_fields bytes (ball_readings (column 0 rows) (column 1 rows)) e
job_text_not Admit bytes rows e =
    kind_text_not matryoshka_lawful matryoshka_refusing matryoshka_fields bytes (domain (column 0 rows) (column 1 rows) (column 2 rows)) e

-- ---- input of the form, and of another

module _ (s : List ℕ) where
  in_form_not : InForm s → if_lines (lines s) ≡ twelve_text → ⊥
  in_form_not f e =
      let h = hex_got f.is_hex in
      let r = rows_got f.are_readings in
      let told = ap if_lines (lines_are f.in_lines) ∙ ap₂ (λ b j. if_job b j f.readings) h.is (word_named f.job)
      ∙ ap (if_rows f.job h.what) r.is in
      job_text_not f.job h.what r.what (sym told ∙ e)

  another_told : (InForm s → ⊥) → if_lines (lines s) ≡ twelve_text
  another_told d = by_lines (lines s) refl
    where
      by_rows : {l w : List ℕ} {rs : List (List ℕ)} → lines s ≡ Some (l ∷ w ∷ rs) → {b : List ℕ} → hex l ≡ Some b
          → (j : Job) → job_named w ≡ Some j → (o : Option (List (List ℤ))) → each_row (numbers_on_a_line j) rs ≡ o
          → if_rows j b o ≡ twelve_text
      by_rows u v j n None r = refl
      by_rows {l} {w} {rs} u v j n (Some rows) r =
          absurd
          (d
          (record {
            first = l;
            job = j;
            readings = rs;
            in_lines = subst (λ (w : List ℕ). Lines s (l ∷ w ∷ rs)) (named_word w n) (are_lines s (l ∷ w ∷ rs) u);
            is_hex = is_hex l v;
            are_readings = are_rows (numbers_on_a_line j) rs r;
          }))

      by_parts : {l w : List ℕ} {rs : List (List ℕ)} → lines s ≡ Some (l ∷ w ∷ rs) → (o : Option (List ℕ)) → hex l ≡ o
          → (p : Option Job) → job_named w ≡ p → if_job o p rs ≡ twelve_text
      by_parts u None v p n = refl
      by_parts u (Some b) v None n = refl
      by_parts {rs = rs} u (Some b) v (Some j) n = by_rows u v j n (each_row (numbers_on_a_line j) rs) refl

      by_lines : (o : Option (List (List ℕ))) → lines s ≡ o → if_lines o ≡ twelve_text
      by_lines None u = refl
      by_lines (Some []) u = refl
      by_lines (Some (l ∷ [])) u = refl
      by_lines (Some (l ∷ w ∷ rs)) u = by_parts u (hex l) refl (job_named w) refl

  pub twelve_printed : LongerOrAnotherForm s → program_text s ≡ twelve_text
  unfolding program_text
  twelve_printed (longer l) = rw (lt-leb (length s) longest_input l)
  twelve_printed (another d) = by_length (leb (length s) longest_input)
    where
      by_length : (t : Bool) → cond t (if_lines (lines s)) twelve_text ≡ twelve_text
      by_length true = another_told d
      by_length false = refl

  pub printed_twelve : program_text s ≡ twelve_text → LongerOrAnotherForm s
  unfolding program_text
  printed_twelve e = by_length (leb (length s) longest_input) refl e
    where
      by_length : (t : Bool) → leb (length s) longest_input ≡ t → cond t (if_lines (lines s)) twelve_text ≡ twelve_text
          → LongerOrAnotherForm s
      by_length true u e = another (λ f. in_form_not f e)
      by_length false u e = longer (leb-false (length s) longest_input u)
