-- From what is printed back to the job: an input of the program's form, and outputs that are printed are the job's. Assumes nothing.
use mathlib.Core.Path.{◌≡◌, refl, sym, ◌∙◌, ap, ap₂}
use mathlib.Core.Bool.{Bool, true, false, cond}
use mathlib.Core.List.{List, [], ◌∷◌, ◌++◌}
use Rattle.std.proofs.Common.{Option, Some, None}
use Prim.Native.Nat.{ℕ, ◌≤◌}
use native.Mathlib.Omega.{arith}
use borrow.Author.Tests.{le-leb, leb-true}
use lib.Dec.{leb}
use lib.IntN.{ℤ}
use lib.ListN.{length, get_or, length-map}
use Rattle.lists.specs.All.{All}
use Rattle.formulas.specs.Kinds.{Kind}
use Rattle.formulas.specs.Job.{job, Result, refused_first, stopped_at, done}
use Rattle.formulas.specs.Lawful.{Lawful}
use Rattle.formulas.proofs.Jobs.{does}
use Rattle.formulas.proofs.Legal.{outputs_legal}
use Rattle.packed.specs.Meaning.{formula}
use Rattle.packed.proofs.WellFormed.{accepted_well_formed}
use Rattle.parsing.specs.declared.word.Job.{Job}
use Rattle.parsing.specs.Word.{job_named, numbers_on_a_line}
use Rattle.parsing.specs.Lines.{lines}
use Rattle.hex_bytes.specs.Hex.{hex}
use Rattle.rows.specs.Rows.{each_row}
use Rattle.printing.specs.Decimal.{decimal}
use Rattle.printing.proofs.OneNumber.{Above}
use Rattle.listing.specs.OutputLines.{listed}
use Rattle.listing.proofs.OneListing.{OneLine, line_one, number_on_a_line, listed_one, listed_unlike}
use Rattle.telling.specs.Program.{ok_word, ok_text, refused_text, twelve_text, text_of, kind_text, most_values, most_outputs, job_text, if_rows, if_job, if_lines, longest_input, program_text}
use Rattle.assurances.specs.Printed.{Asks, AsksFor, printed, RefusedOr, a_refusal, outputs}

pub asks_text : {s bytes : List ℕ} {j : Job} {rows : List (List ℤ)} → Asks s j bytes rows → program_text s ≡ job_text j bytes rows
unfolding program_text
asks_text {s} {bytes} {j} q =
    ap (λ (t : Bool). cond t (if_lines (lines s)) twelve_text) (le-leb (length s) longest_input q.short)
    ∙ ap if_lines q.has_lines
    ∙ ap₂ (λ (b : Option (List ℕ)) (n : Option Job). if_job b n q.reading_lines) q.in_hex q.names_job
    ∙ ap (if_rows j bytes) q.has_rows

ok_above : (n : ℕ) → Above 10 (ok_word ++ decimal n)
ok_above n =
    All.one {a = 111} (omega arith) (All.one {a = 107} (omega arith) (All.one {a = 32} (omega arith) (number_on_a_line n)))

-- no refusal is told with `ok`
not_ok : (m k n : ℕ) (rest : List ℕ) → refused_text m k ≡ ok_text n ++ rest → ⊥
not_ok m k n rest e = let z : ◌≡◌ {A = ℕ} 114 111 = cc in omega arith

module _ {K : Kind} (law : Lawful K) (bytes : List ℕ) (given : K.Readings) where
  module _ {fields : K.Value → List ℕ} where
    -- a job that is told with these values is done with these outputs
    pub printed_done : OneLine K.Legal fields → (os : List K.Value) → kind_text K fields bytes given ≡ printed fields os
        → (vs : List K.Value) × (job K (formula bytes) given most_values most_outputs ≡ done vs os)
    unfolding kind_text
    printed_done o os e = by_job (job K (formula bytes) given most_values most_outputs) refl e
      where
        by_job : (j : Result K.Value) → job K (formula bytes) given most_values most_outputs ≡ j → text_of fields j ≡ printed fields os
            → (vs : List K.Value) × (job K (formula bytes) given most_values most_outputs ≡ done vs os)
        by_job (refused_first n k) u e = absurd (not_ok n k (length os) (listed fields 0 os) e)
        by_job (stopped_at k n vs) u e = absurd (not_ok n k (length os) (listed fields 0 os) e)
        by_job (done vs ws) u e =
            let h = line_one (listed fields 0 ws) (listed fields 0 os) (ok_above (length ws)) (ok_above (length os)) e in
            let d = does K (formula bytes) given most_values most_outputs u in
            let legal = outputs_legal law (formula bytes) given most_values most_outputs d (accepted_well_formed bytes d.started.means) in
            (vs, u ∙ ap (done vs) (sym (listed_one o 0 os ws legal (sym h.1))))

    -- a job is told as a refusal, or with outputs
    pub kind_prints : {P : List K.Value → Type 0} → ((os : List K.Value) → kind_text K fields bytes given ≡ printed fields os → P os)
        → RefusedOr fields P (kind_text K fields bytes given)
    unfolding kind_text
    kind_prints {P} p = by_job (job K (formula bytes) given most_values most_outputs) refl
      where
        by_job : (j : Result K.Value) → job K (formula bytes) given most_values most_outputs ≡ j
            → RefusedOr fields P (text_of fields (job K (formula bytes) given most_values most_outputs))
        by_job (refused_first n k) u = a_refusal n k (ap (text_of fields) u)
        by_job (stopped_at k n vs) u = a_refusal n k (ap (text_of fields) u)
        by_job (done vs os) u = outputs os (ap (text_of fields) u) (p os (ap (text_of fields) u))

    -- no job is told with lines of another form: every formula has an output
    pub kind_unlike : {B : Type 0} {others : B → List ℕ} → ((v : K.Value) → Above 10 (fields v)) → ((w : B) → Above 10 (others w))
        → ((v : K.Value) (w : B) → fields v ≡ others w → ⊥) → (ws : List B) → kind_text K fields bytes given ≡ printed others ws → ⊥
    unfolding kind_text
    kind_unlike {B} {others} f g differ ws e = by_job (job K (formula bytes) given most_values most_outputs) refl e
      where
        by_job : (j : Result K.Value) → job K (formula bytes) given most_values most_outputs ≡ j → text_of fields j ≡ printed others ws → ⊥
        by_job (refused_first n k) u e = not_ok n k (length ws) (listed others 0 ws) e
        by_job (stopped_at k n vs) u e = not_ok n k (length ws) (listed others 0 ws) e
        by_job (done vs os) u e =
            let d = does K (formula bytes) given most_values most_outputs u in
            let well = accepted_well_formed bytes d.started.means in
            let many = ap length d.picks ∙ length-map d.on.formula.results (λ o. get_or vs o K.nothing) in
            listed_unlike f g differ os ws (omega (arith, many, well.results_long, well.limits.some_output))
            (line_one (listed fields 0 os) (listed others 0 ws) (ok_above (length os)) (ok_above (length ws)) e).1

-- what is printed from `ok` on was asked for
module _ (s : List ℕ) (n : ℕ) (rest : List ℕ) where
  not_refused : twelve_text ≡ ok_text n ++ rest → ⊥
  not_refused e = not_ok 12 0 n rest e

  module _ (short : length s ≤ longest_input) (f w : List ℕ) (ls : List (List ℕ)) (has : lines s ≡ Some (f ∷ w ∷ ls)) where
    by_rows : (bytes : List ℕ) (j : Job) → hex f ≡ Some bytes → job_named w ≡ Some j → (r : Option (List (List ℤ)))
        → each_row (numbers_on_a_line j) ls ≡ r → if_rows j bytes r ≡ ok_text n ++ rest → (j : Job) × AsksFor s j
    by_rows bytes j h v None u e = absurd (not_refused e)
    by_rows bytes j h v (Some rows) u e = (
      j,
      record {
        bytes = bytes;
        rows = rows;
        asks = record { short = short; formula_line = f; word = w; reading_lines = ls; has_lines = has; in_hex = h; names_job = v; has_rows = u };
      },
    )

    by_job : (b : Option (List ℕ)) → hex f ≡ b → (o : Option Job) → job_named w ≡ o → if_job b o ls ≡ ok_text n ++ rest → (j : Job) × AsksFor s j
    by_job None h o v e = absurd (not_refused e)
    by_job (Some bytes) h None v e = absurd (not_refused e)
    by_job (Some bytes) h (Some j) v e = by_rows bytes j h v (each_row (numbers_on_a_line j) ls) refl e

  by_lines : length s ≤ longest_input → (o : Option (List (List ℕ))) → lines s ≡ o → if_lines o ≡ ok_text n ++ rest → (j : Job) × AsksFor s j
  by_lines l None u e = absurd (not_refused e)
  by_lines l (Some []) u e = absurd (not_refused e)
  by_lines l (Some (f ∷ [])) u e = absurd (not_refused e)
  by_lines l (Some (f ∷ w ∷ ls)) u e = by_job l f w ls u (hex f) refl (job_named w) refl e

  pub told_asks : program_text s ≡ ok_text n ++ rest → (j : Job) × AsksFor s j
  unfolding program_text
  told_asks e = by_length (leb (length s) longest_input) refl e
    where
      by_length : (t : Bool) → leb (length s) longest_input ≡ t → cond t (if_lines (lines s)) twelve_text ≡ ok_text n ++ rest
          → (j : Job) × AsksFor s j
      by_length true t e = by_lines (leb-true (length s) longest_input t) (lines s) refl e
      by_length false t e = absurd (not_refused e)
