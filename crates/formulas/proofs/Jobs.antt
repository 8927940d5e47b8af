-- How a job ends, once for the three kinds: refused before any step, stopped at one, or done; and that a contract allows one outcome. Assumes nothing.
use mathlib.Core.Path.{◌≡◌, refl, sym, ◌∙◌, ap, ap₂, subst}
use mathlib.Core.Bool.{Bool, true, false, ◌&&◌}
use mathlib.Core.List.{List, [], map}
use Prim.Native.Nat.{ℕ, ◌≤◌}
use native.Mathlib.Omega.{arith}
use borrow.Author.Tests.{leb-true, le-leb}
use lib.Dec.{leb}
use lib.ListN.{length, get_or}
use Rattle.std.specs.declared.result.Result.TheVariants.{Err}
use Rattle.refusals.specs.Places.{because}
use Rattle.whole.proofs.Cases.{both}
use Rattle.refusals.specs.declared.Refusal.{Refusal}
use Rattle.refusals.specs.Said.{Reply}
use Rattle.refusals.specs.Refusals.{refusal_number, AtStep, out_of_reach, divided_by_zero}
use Rattle.refusals.specs.Answer.{Answer, value, refused, then}
use Rattle.refusals.specs.Places.{Where, Placed, refused_at, elsewhere, refuse_at}
use Rattle.refusals.specs.Said.{answered, refuses, reply_said}
use Rattle.refusals.proofs.Answers.{no_value, same_value, refused_same, first_of, then_value, placed_value}
use Rattle.refusals.proofs.OneReply.{never_both, one_reply, first_said, place_said}
use Rattle.formulas.specs.Formula.{Formula, places, WellFormed}
use Rattle.formulas.specs.Run.{Walk, finished, stopped, made_by, walk_end}
use Rattle.formulas.specs.Kinds.{Kind, tested}
use Rattle.formulas.specs.Job.{Started, roomy, if_room, start, Result, refused_first, stopped_at, done, walk_ended, started_run, if_started, job, work_of, outputs_of, said, Lent, lent_start, lent_job, Kept}
use Rattle.formulas.proofs.Walks.{run_long, run_stops}
use Rattle.formulas.proofs.Fitting.{not_let_in_number}
use Rattle.formulas.specs.Lawful.{Lawful}

-- what it means that a job starts
pub record Starts (K : Kind) (a : Answer Formula) (given : K.Readings) (work output : ℕ) (st : Started K) : Type 0 where
  pub means : a ≡ value st.formula
  pub fits : tested K st.formula.header.inputs given ≡ value st.values
  pub work_room : places st.formula.header ≤ work
  pub output_room : st.formula.header.outputs ≤ output

module _ (K : Kind) (a : Answer Formula) (given : K.Readings) (work output : ℕ) where
  enough_room : {A : Type 0} (h n : ℕ) (x : A) {y : A} → if_room (leb h work && leb n output) x ≡ value y → (h ≤ work) × (n ≤ output) × (x ≡ y)
  enough_room h n x {y} e = by_test (leb h work && leb n output) refl e
    where
      by_test : (t : Bool) → (leb h work && leb n output) ≡ t → if_room t x ≡ value y → (h ≤ work) × (n ≤ output) × (x ≡ y)
      by_test true u e = let b = both (leb h work) (leb n output) u in (leb-true h work b.0, leb-true n output b.1, same_value e)
      by_test false u e = absurd (no_value e)

  pub starts : {st : Started K} → start K a given work output ≡ value st → Starts K a given work output st
  unfolding start
  starts {st} e =
      let b = first_of (elsewhere a) (λ f. then (tested K f.header.inputs given) (λ vs. elsewhere (room f vs))) e in
      let c = first_of (tested K b.first.header.inputs given) (λ vs. elsewhere (room b.first vs)) b.then_was in
      let d = placed_value 0 (room b.first c.first) c.then_was in
      let r = enough_room (places b.first.header) b.first.header.outputs (record { formula = b.first; values = c.first }) d in
      subst (Starts K a given work output) r.2 (record { means = placed_value 0 a b.was; fits = c.was; work_room = r.0; output_room = r.1 })
    where
      room : Formula → List K.Value → Answer (Started K)
      room f vs = if_room (leb (places f.header) work && leb f.header.outputs output) (record { formula = f; values = vs })

  pub start_is : {st : Started K} → Starts K a given work output st → start K a given work output ≡ value st
  unfolding start
  start_is {st} s =
      then_value _ (ap elsewhere s.means) ∙ then_value _ s.fits
      ∙ ap (λ (t : Bool). elsewhere (if_room t st))
      (ap₂ ◌&&◌ (le-leb (places st.formula.header) work s.work_room) (le-leb st.formula.header.outputs output s.output_room))

  pub job_refused : {w : Where} → start K a given work output ≡ refused w → job K a given work output ≡ refused_first w.number w.place
  unfolding job
  job_refused e = ap (if_started K) e

  pub job_started : {st : Started K} → start K a given work output ≡ value st
      → job K a given work output ≡ walk_ended K.nothing st.formula (started_run K st)
  unfolding job
  job_started e = ap (if_started K) e

  pub starts_done : {st : Started K} {vs : List K.Value} → Starts K a given work output st → started_run K st ≡ finished vs
      → job K a given work output ≡ done vs (map (λ o. get_or vs o K.nothing) st.formula.results)
  starts_done {st} s e = job_started (start_is s) ∙ ap (walk_ended K.nothing st.formula) e

-- a finished run has a value for each input and each instruction
pub made_many : {K : Kind} → Lawful K → (a : Answer Formula) (given : K.Readings) (work output : ℕ) {st : Started K} {vs : List K.Value}
    → Starts K a given work output st → WellFormed st.formula → started_run K st ≡ finished vs → length vs ≡ places st.formula.header
made_many {K} law a given work output {st} s well e =
    run_long (K.rule st.formula.header.scale) K.nothing st.formula.program st.values e
    ∙ omega (arith, (law.tested_values st.formula.header.inputs given s.fits).many, well.program_long)

-- what it means that a job is done
pub record Does (K : Kind) (a : Answer Formula) (given : K.Readings) (work output : ℕ) (vs os : List K.Value) : Type 0 where
  pub on : Started K
  pub started : Starts K a given work output on
  pub finishes : started_run K on ≡ finished vs
  pub picks : os ≡ map (λ o. get_or vs o K.nothing) on.formula.results

pub does : (K : Kind) (a : Answer Formula) (given : K.Readings) (work output : ℕ) {vs os : List K.Value} → job K a given work output ≡ done vs os
    → Does K a given work output vs os
unfolding job
does K a given work output {vs} {os} e = by_start (start K a given work output) refl e
  where
    by_walk : (st : Started K) → start K a given work output ≡ value st → (w : Walk K.Value) → started_run K st ≡ w
        → walk_ended K.nothing st.formula w ≡ done vs os → Does K a given work output vs os
    by_walk st s (stopped m ws) u e = absurd (let z : ◌≡◌ {A = ℕ} 0 1 = cc in omega arith)
    by_walk st s (finished ws) u e =
        let same : ws ≡ vs = cc in
        let outs : map (λ o. get_or ws o K.nothing) st.formula.results ≡ os = cc in
        record {
          on = st;
          started = starts K a given work output s;
          finishes = u ∙ ap finished same;
          picks = sym outs ∙ ap (λ (l : List K.Value). map (λ o. get_or l o K.nothing) st.formula.results) same;
        }

    by_start : (x : Placed (Started K)) → start K a given work output ≡ x → if_started K x ≡ done vs os → Does K a given work output vs os
    by_start (refused m) s e = absurd (let z : ◌≡◌ {A = ℕ} 0 1 = cc in omega arith)
    by_start (value st) s e = by_walk st s (started_run K st) refl e

-- a walk's end as a job's: stopped, or done with all values
module _ {A : Type 0} (d : A) (f : Formula) where
  pub ends_stopped : (w : Walk A) {n k : ℕ} → refuses n k ≡ walk_end f.header.inputs w → walk_ended d f w ≡ stopped_at k n (made_by w)
  ends_stopped (finished vs) e = absurd (never_both (sym e))
  ends_stopped (stopped m vs) e = ap₂ (λ k n. stopped_at k n vs) (sym (ap place_said e)) (sym (ap first_said e))

  pub ends_done : (w : Walk A) {n : ℕ} → answered n ≡ walk_end f.header.inputs w
      → (walk_ended d f w ≡ done (made_by w) (map (λ o. get_or (made_by w) o d) f.results)) × (w ≡ finished (made_by w))
  ends_done (finished vs) e = (refl, refl)
  ends_done (stopped m vs) e = absurd (never_both e)

-- what a job leaves, by how it ended
module _ {K : Kind} (law : Lawful K) {a : Answer Formula} {given : K.Readings} {old : Lent K} where
  pub kept_as : {j : Result K.Value} {new : Lent K} (r : Reply) → lent_job K a given old ≡ j → reply_said r ≡ said j
      → K.Holds (work_of j) old.work new.work → K.Holds (outputs_of j) old.output new.output → Kept K a given old new r
  kept_as {j} {new} r e s w o =
      record {
        says = s ∙ ap said (sym e);
        works = subst (λ (i : Result K.Value). K.Holds (work_of i) old.work new.work) (sym e) w;
        gives = subst (λ (i : Result K.Value). K.Holds (outputs_of i) old.output new.output) (sym e) o;
      }

  pub kept_refused : {q : Refusal} {k : ℕ} → lent_start K a given old ≡ refuse_at q k → Kept K a given old old (Err (because q k))
  kept_refused {q} {k} e =
      kept_as (Err (because q k)) (job_refused K a given (K.room old.work) (K.room old.output) e) refl
      (law.holds_none old.work) (law.holds_none old.output)

-- two outcomes that a job's contract allows are equal: the reply, and every place of every lent list
pub job_one_outcome : {K : Kind} → Lawful K → {a : Answer Formula} {given : K.Readings} {old : Lent K} (new₁ new₂ : Lent K) (r t : Reply)
    → Kept K a given old new₁ r → Kept K a given old new₂ t → (r ≡ t) × (new₁ ≡ new₂)
job_one_outcome {K} law {a} {given} {old} new₁ new₂ r t k l = (
  one_reply r t (k.says ∙ sym l.says),
  ap₂ (λ (w o : K.Lists). record { work = w; output = o })
      (law.holds_one (work_of (lent_job K a given old)) old.work new₁.work new₂.work k.works l.works)
      (law.holds_one (outputs_of (lent_job K a given old)) old.output new₁.output new₂.output k.gives l.gives),
)

-- a job that a step stops does so by a refusal that a step meets
stopped_at_step : {K : Kind} → Lawful K → (a : Answer Formula) (given : K.Readings) (work output : ℕ) {k n : ℕ} {vs : List K.Value}
    → job K a given work output ≡ stopped_at k n vs → AtStep n
unfolding job
stopped_at_step {K} law a given work output {k} {n} {vs} e = by_start (start K a given work output) e
  where
    by_walk : (st : Started K) (w : Walk K.Value) → started_run K st ≡ w → walk_ended K.nothing st.formula w ≡ stopped_at k n vs → AtStep n
    by_walk st (finished ws) u e = absurd (let z : ◌≡◌ {A = ℕ} 0 1 = cc in omega arith)
    by_walk st (stopped m ws) u e =
        let same : m ≡ n = cc in
        rw same at
        (run_stops (K.rule st.formula.header.scale) K.nothing {P = AtStep} (λ o n. law.rule_refused st.formula.header.scale o) st.formula.program st.values u)

    by_start : (s : Placed (Started K)) → if_started K s ≡ stopped_at k n vs → AtStep n
    by_start (refused m) e = absurd (let z : ◌≡◌ {A = ℕ} 0 1 = cc in omega arith)
    by_start (value st) e = by_walk st (started_run K st) refl e

-- "a refusal writes no output": a job that refuses gives none
pub refused_outputs : {A : Type 0} (j : Result A) {n k : ℕ} → refuses n k ≡ said j → outputs_of j ≡ []
refused_outputs (refused_first n k) e = refl
refused_outputs (stopped_at k n vs) e = refl
refused_outputs (done vs os) e = absurd (never_both (sym e))

-- a step's refusal has a number from 1 on
step_numbered : {n : ℕ} → AtStep n → 1 ≤ n
step_numbered out_of_reach = omega arith
step_numbered divided_by_zero = omega arith

-- a job's refusal has a number from 1 on where its formula's has
module _ {K : Kind} (law : Lawful K) (a : Answer Formula) (given : K.Readings) (work output : ℕ) (numbered : (m : ℕ) → a ≡ refused m → 1 ≤ m) where
  start_numbered : {w : Where} → start K a given work output ≡ refused w → 1 ≤ w.number
  unfolding start
  start_numbered {w} e = by_formula a refl e
    where
      by_room : (t : Bool) (st : Started K) → elsewhere (if_room t st) ≡ refused w → 1 ≤ w.number
      by_room true st e = absurd (no_value (sym e))
      by_room false st e = let same : 10 ≡ w.number = ap (λ (v : Where). v.number) (refused_same e) in omega arith

      room : Formula → List K.Value → Placed (Started K)
      room f vs = elsewhere (if_room (roomy f.header work output) (record { formula = f; values = vs }))

      by_tested : (f : Formula) (v : Placed (List K.Value)) → tested K f.header.inputs given ≡ v → then v (room f) ≡ refused w → 1 ≤ w.number
      by_tested f (refused v) u e = let same = ap (λ (v : Where). v.number) (refused_same e) in omega (arith, (not_let_in_number K f.header.inputs given u).from_13)
      by_tested f (value vs) u e = by_room (roomy f.header work output) (record { formula = f; values = vs }) e

      by_formula : (b : Answer Formula) → a ≡ b → then (elsewhere b) (λ f. then (tested K f.header.inputs given) (room f)) ≡ refused w → 1 ≤ w.number
      by_formula (refused m) u e = let same : m ≡ w.number = ap (λ (v : Where). v.number) (refused_same e) in rw same at (numbered m u)
      by_formula (value f) u e = by_tested f (tested K f.header.inputs given) refl e

  pub job_numbered : {n k : ℕ} → refuses n k ≡ said (job K a given work output) → 1 ≤ n
  unfolding job
  job_numbered {n} {k} e = by_job (job K a given work output) refl e
    where
      first_refused : (s : Placed (Started K)) {m j : ℕ} → if_started K s ≡ refused_first m j → s ≡ refused_at m j
      first_refused (refused v) {m} {j} u =
          let p : v.number ≡ m = cc in
          let q : v.place ≡ j = cc in
          ap₂ refused_at p q
      first_refused (value st) u = absurd (ended (started_run K st) u)
        where
          ended : {m j : ℕ} (w : Walk K.Value) → walk_ended K.nothing st.formula w ≡ refused_first m j → ⊥
          ended (finished vs) u = let z : ◌≡◌ {A = ℕ} 0 1 = cc in omega arith
          ended (stopped i vs) u = let z : ◌≡◌ {A = ℕ} 0 1 = cc in omega arith

      by_job : (j : Result K.Value) → job K a given work output ≡ j → refuses n k ≡ said j → 1 ≤ n
      by_job (refused_first m j) u e = omega (arith, start_numbered (first_refused (start K a given work output) u), ap first_said e)
      by_job (stopped_at i m vs) u e = omega (arith, step_numbered (stopped_at_step law a given work output u), ap first_said e)
      by_job (done vs os) u e = absurd (never_both (sym e))

-- what a refusal leaves
nothing_written : {K : Kind} → Lawful K → {vs : List K.Value} (was now : K.Lists) → vs ≡ [] → K.Holds vs was now → now ≡ was
nothing_written law was now e h = law.holds_one [] was now was (rw e at h) (law.holds_none was)

module _ {K : Kind} (law : Lawful K) {a : Answer Formula} {given : K.Readings} {old new : Lent K} {q : Refusal} {k : ℕ} where
  -- "a refusal writes no output"
  pub refused_keeps_outputs : Kept K a given old new (Err (because q k)) → new.output ≡ old.output
  refused_keeps_outputs p = nothing_written law old.output new.output (refused_outputs (lent_job K a given old) p.says) p.gives

  -- "On refusals 1 to 10 all lent memory keeps its contents."; a later number "leaves what 11 leaves when a step of a run
  -- meets it; otherwise it writes nothing"
  pub refused_early_keeps_all : Kept K a given old new (Err (because q k)) → (AtStep (refusal_number q) → ⊥) → new ≡ old
  refused_early_keeps_all p l =
      ap₂ (λ (w o : K.Lists). record { work = w; output = o })
      (nothing_written law old.work new.work (by_job (lent_job K a given old) refl p.says) p.works)
      (refused_keeps_outputs p)
    where
      by_job : (j : Result K.Value) → lent_job K a given old ≡ j → refuses (refusal_number q) k ≡ said j → work_of j ≡ []
      by_job (refused_first n i) u e = refl
      by_job (stopped_at i n vs) u e =
          absurd (l (subst AtStep (sym (ap first_said e)) (stopped_at_step law a given (K.room old.work) (K.room old.output) u)))
      by_job (done vs os) u e = absurd (never_both (sym e))
