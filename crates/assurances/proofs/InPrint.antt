-- The demands 2 and 3 in print: the numbers on the program's lines are those of the demands. Assumes nothing.
use mathlib.Core.Path.{◌≡◌, sym, ◌∙◌, subst}
use mathlib.Core.List.{List}
use Prim.Native.Nat.{ℕ}
use lib.IntN.{ℤ}
use lib.ListN.{length}
use Rattle.rules.specs.declared.Ball.{Ball}
use Rattle.rules.specs.declared.Matryoshka.{Matryoshka}
use Rattle.formulas.proofs.Lawful.{plain_lawful, ball_lawful, matryoshka_lawful}
use Rattle.parsing.specs.declared.word.Job.{Job}
use Rattle.parsing.specs.declared.word.Job.TheVariants as job
use Rattle.rows.specs.Rows.{column}
use Rattle.listing.specs.OutputLines.{ball_fields, matryoshka_fields, listed}
use Rattle.listing.proofs.OneListing.{plain_line, ball_line, matryoshka_line, plain_not_ball, plain_not_matryoshka, ball_not_matryoshka}
use Rattle.telling.specs.Program.{program_text, most_values, most_outputs}
use Rattle.demands.proofs.Demand3.{demand_3}
use Rattle.assurances.specs.Printed.{Asks, AsksFor, readings_on, domain_on, printed, Encloses, RefusedOr, lists_of_matryoshki, AdmittedAs}
use Rattle.assurances.proofs.Exactly.{exact_matryoshki, exact_kept, done_encloses}
use Rattle.assurances.proofs.ReadBack.{asks_text, printed_done, kind_prints, kind_unlike, told_asks}

-- "when `margins` prints `y0 c r`, every exact result lies within r of c"
pub printed_encloses : {s bytes : List ℕ} {rows : List (List ℤ)} → Asks s job.Ball bytes rows → (bs : List Ball) → program_text s ≡ printed ball_fields bs
    → Encloses bytes (readings_on rows) bs
printed_encloses {s} {bytes} {rows} q bs e =
    let d = printed_done ball_lawful bytes (readings_on rows) ball_line bs (sym (asks_text q) ∙ e) in
    done_encloses bytes (readings_on rows) most_values most_outputs d.1

-- "when it prints `y0 C R r` for a domain, demand 3 holds with those numbers"
pub printed_admits : {s bytes : List ℕ} {rows : List (List ℤ)} → Asks s job.Admit bytes rows → (ms : List Matryoshka)
    → program_text s ≡ printed matryoshka_fields ms → AdmittedAs bytes (domain_on rows) ms
printed_admits {s} {bytes} {rows} q ms e =
    let d = printed_done matryoshka_lawful bytes (domain_on rows) matryoshka_line ms (sym (asks_text q) ∙ e) in
    record {
      work = lists_of_matryoshki d.0;
      admitted = demand_3 (exact_kept matryoshka_lawful exact_matryoshki bytes (domain_on rows) most_values most_outputs d.1);
    }

-- and every input of that form prints a refusal or such lines
pub every_ball_input : {s bytes : List ℕ} {rows : List (List ℤ)} → Asks s job.Ball bytes rows
    → RefusedOr ball_fields (Encloses bytes (readings_on rows)) (program_text s)
every_ball_input {s} {bytes} {rows} q =
    subst (RefusedOr ball_fields (Encloses bytes (readings_on rows))) (sym (asks_text q))
    (kind_prints ball_lawful bytes (readings_on rows) (λ bs e. printed_encloses q bs (asks_text q ∙ e)))

pub every_domain_input : {s bytes : List ℕ} {rows : List (List ℤ)} → Asks s job.Admit bytes rows
    → RefusedOr matryoshka_fields (AdmittedAs bytes (domain_on rows)) (program_text s)
every_domain_input {s} {bytes} {rows} q =
    subst (RefusedOr matryoshka_fields (AdmittedAs bytes (domain_on rows))) (sym (asks_text q))
    (kind_prints matryoshka_lawful bytes (domain_on rows) (λ ms e. printed_admits q ms (asks_text q ∙ e)))

-- lines with two numbers are printed of a ball job alone, those with three of an admission
pub printed_asks_ball : (s : List ℕ) (bs : List Ball) → program_text s ≡ printed ball_fields bs → AsksFor s job.Ball
printed_asks_ball s bs e =
    let a = told_asks s (length bs) (listed ball_fields 0 bs) e in by_job a.0 a.1
  where
    by_job : (j : Job) → AsksFor s j → AsksFor s job.Ball
    by_job job.Plain a =
        absurd (kind_unlike plain_lawful a.bytes (column 0 a.rows) plain_line.on_a_line ball_line.on_a_line plain_not_ball bs (sym (asks_text a.asks) ∙ e))
    by_job job.Ball a = a
    by_job job.Admit a =
        absurd
        (kind_unlike matryoshka_lawful a.bytes (domain_on a.rows) matryoshka_line.on_a_line ball_line.on_a_line (λ m b u. ball_not_matryoshka b m (sym u)) bs
        (sym (asks_text a.asks) ∙ e))

pub printed_asks_admit : (s : List ℕ) (ms : List Matryoshka) → program_text s ≡ printed matryoshka_fields ms → AsksFor s job.Admit
printed_asks_admit s ms e =
    let a = told_asks s (length ms) (listed matryoshka_fields 0 ms) e in by_job a.0 a.1
  where
    by_job : (j : Job) → AsksFor s j → AsksFor s job.Admit
    by_job job.Plain a =
        absurd
        (kind_unlike plain_lawful a.bytes (column 0 a.rows) plain_line.on_a_line matryoshka_line.on_a_line plain_not_matryoshka ms (sym (asks_text a.asks) ∙ e))
    by_job job.Ball a =
        absurd
        (kind_unlike ball_lawful a.bytes (readings_on a.rows) ball_line.on_a_line matryoshka_line.on_a_line ball_not_matryoshka ms (sym (asks_text a.asks) ∙ e))
    by_job job.Admit a = a

-- so what is seen on paper is enough
pub seen_encloses : (s : List ℕ) (bs : List Ball) → program_text s ≡ printed ball_fields bs → (a : AsksFor s job.Ball) × Encloses a.bytes (readings_on a.rows) bs
seen_encloses s bs e = let a = printed_asks_ball s bs e in (a, printed_encloses a.asks bs e)

pub seen_admits : (s : List ℕ) (ms : List Matryoshka) → program_text s ≡ printed matryoshka_fields ms
    → (a : AsksFor s job.Admit) × AdmittedAs a.bytes (domain_on a.rows) ms
seen_admits s ms e = let a = printed_asks_admit s ms e in (a, printed_admits a.asks ms e)
