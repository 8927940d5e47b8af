-- What a run that keeps a job's contract left, told by its reply, is what the job prints. Assumes nothing.
use mathlib.Core.Path.{◌≡◌, refl, sym, ◌∙◌, ap, ap₂}
use mathlib.Core.Bool.{Bool, cond}
use mathlib.Core.List.{List, ◌++◌, append-nil}
use Prim.Native.Nat.{ℕ, ◌≤◌}
use native.Mathlib.Omega.{arith}
use borrow.Author.Tests.{le-leb}
use lib.ListN.{length, get_or, length-map}
use Rattle.lists.specs.Over.{least}
use Rattle.std.specs.declared.result.Result.TheVariants.{Ok, Err}
use Rattle.refusals.specs.Said.{Reply}
use Rattle.refusals.specs.Answer.{value, refused}
use Rattle.refusals.specs.Places.{Placed}
use Rattle.refusals.specs.Said.{Said, answered, refuses, reply_said}
use Rattle.formulas.specs.Formula.{Formula, WellFormed}
use Rattle.formulas.specs.Run.{Walk, finished, stopped}
use Rattle.formulas.specs.Kinds.{Kind}
use Rattle.formulas.specs.Job.{Started, start, if_started, started_run, walk_ended, job, Lent, lent_job, Kept}
use Rattle.formulas.specs.Job.{Result, refused_first, stopped_at, done, said, outputs_of}
use Rattle.formulas.proofs.Jobs.{starts}
use Rattle.formulas.specs.Lawful.{Lawful}
use Rattle.packed.specs.Meaning.{formula}
use Rattle.packed.proofs.WellFormed.{accepted_well_formed}
use Rattle.lists.specs.Written.{Wrote}
use Rattle.lists.proofs.Again.{wrote_then, wrote_same}
use Rattle.listing.specs.OutputLines.{listed}
use Rattle.telling.specs.Program.{refused_text, ok_text, text_of, most_values, most_outputs, kind_text}
use Rattle.telling.specs.Telling.{headline, output_count}

-- a reply by what it says
abbrev said_head : Said → List ℕ
said_head (answered n) = ok_text n
said_head (refuses n k) = refused_text n k

abbrev said_count : Said → ℕ
said_count (answered n) = n
said_count (refuses n k) = 0

head_said : (r : Reply) → headline r ≡ said_head (reply_said r)
head_said (Ok n) = refl
head_said (Err e) = refl

count_said : (r : Reply) → output_count r ≡ said_count (reply_said r)
count_said (Ok n) = refl
count_said (Err e) = refl

outputs_many : {A : Type 0} (j : Result A) → length (outputs_of j) ≡ said_count (said j)
outputs_many (refused_first n k) = refl
outputs_many (stopped_at k n vs) = refl
outputs_many (done vs os) = refl

text_said : {A : Type 0} (fields : A → List ℕ) (j : Result A)
    → said_head (said j) ++ listed fields 0 (outputs_of j) ≡ text_of fields j
unfolding listed
text_said fields (refused_first n k) = append-nil (refused_text n k)
text_said fields (stopped_at k n vs) = append-nil (refused_text n k)
text_said fields (done vs os) = refl

-- no formula has more than 16 outputs
outputs_limit : (K : Kind) (s : List ℕ) (given : K.Readings) (work output : ℕ)
    → length (outputs_of (job K (formula s) given work output)) ≤ 16
unfolding job
outputs_limit K s given work output = by_start (start K (formula s) given work output) refl
  where
    ended : (f : Formula) → WellFormed f → (w : Walk K.Value)
        → length (outputs_of (walk_ended K.nothing f w)) ≤ 16
    ended f well (stopped n vs) = omega arith
    ended f well (finished vs) =
        let long = length-map f.results (λ o. get_or vs o K.nothing) in
        omega (arith, long, well.results_long, well.limits.outputs_few)

    by_start : (a : Placed (Started K)) → start K (formula s) given work output ≡ a
        → length (outputs_of (if_started K a)) ≤ 16
    by_start (refused n) e = omega arith
    by_start (value st) e =
        let means = (starts K (formula s) given work output e).means in
        ended st.formula (accepted_well_formed s means) (started_run K st)

module _ {K : Kind} (s : List ℕ) {given : K.Readings} {old new : Lent K} {r : Reply} {n : ℕ}
    (k : Kept K (formula s) given old new r) (e : n ≡ output_count r) where
  many : length (outputs_of (lent_job K (formula s) given old)) ≡ n
  many = outputs_many (lent_job K (formula s) given old) ∙ sym (e ∙ count_said r ∙ ap said_count k.says)

  pub count_few : n ≤ 16
  count_few = omega (arith, many, outputs_limit K s given (K.room old.work) (K.room old.output))

  pub count_fits : {A : Type 0} (l : List A) → length l ≡ 16 → n ≤ length l
  count_fits l p = let few = count_few in omega arith

-- the first line and those of the outputs that a run left, in lists that are long enough
pub wrote_kept : {K : Kind} (law : Lawful K) (fields : K.Value → List ℕ) (s : List ℕ) {given : K.Readings}
    {old new : Lent K} {r : Reply} {n at t : ℕ} {o mid now : List ℕ} → Kept K (formula s) given old new r
    → n ≡ output_count r → Wrote (headline r) 0 o mid at
    → Wrote (listed fields 0 (K.front n new.output)) at mid now t → K.room old.work ≡ most_values
    → K.room old.output ≡ most_outputs → Wrote (kind_text K fields s given) 0 o now t
unfolding kind_text
wrote_kept {K} law fields s {given} {old} {new} {r} {n} k e w v p q =
    let j = lent_job K (formula s) given old in
    let first = head_said r ∙ ap said_head k.says in
    wrote_same (ap₂ (λ (h : List ℕ) (vs : List K.Value). h ++ listed fields 0 vs) first
    (law.front_holds (outputs_of j) n old.output new.output (many s k e) k.gives)
    ∙ text_said fields j ∙ ap₂ (λ (m n : ℕ). text_of fields (job K (formula s) given m n)) p q) (wrote_then w v)

-- lists of one length have so many places together
pub least_same : (n : ℕ) → least n n ≡ n
unfolding least
least_same n = ap (λ (t : Bool). cond t n n) (le-leb n n (omega arith))

pub least_thrice : (n : ℕ) → least n (least n n) ≡ n
least_thrice n = ap (least n) (least_same n) ∙ least_same n
