-- A job that answers: its formula, the inputs it ran on, all values and the outputs; and when a job answers. Once for the three kinds. Assumes nothing.
use mathlib.Core.Path.{◌≡◌, refl, sym, ◌∙◌, ap, subst}
use mathlib.Core.Bool.{true}
use mathlib.Core.List.{List, map}
use Prim.Native.Nat.{ℕ}
use borrow.Author.Tests.{leb-true}
use lib.Dec.{leb}
use lib.ListN.{length, get_or, length-map}
use Rattle.std.specs.declared.result.Result.TheVariants.{Ok}
use Rattle.whole.proofs.Cases.{both}
use Rattle.refusals.specs.Said.{Reply}
use Rattle.refusals.specs.Answer.{value}
use Rattle.refusals.specs.Said.{answered}
use Rattle.refusals.proofs.OneReply.{never_both, one_reply}
use Rattle.formulas.specs.Formula.{Formula, WellFormed, places}
use Rattle.formulas.specs.Run.{finished}
use Rattle.formulas.specs.Kinds.{Kind, tested}
use Rattle.formulas.specs.Job.{Started, roomy, Result, refused_first, stopped_at, done, started_run, work_of, outputs_of, said, Lent, lent_job, Kept}
use Rattle.formulas.specs.Lawful.{Lawful}
use Rattle.formulas.proofs.Jobs.{Starts, starts_done, made_many, does}
use Rattle.packed.specs.Meaning.{formula}
use Rattle.packed.proofs.WellFormed.{accepted_well_formed}

abbrev pub picked : {A : Type 0} → A → List A → List ℕ → List A
picked d vs os = map (λ o. get_or vs o d) os

-- what an answer says of the job, and what the lists then hold
pub record Answers (K : Kind) (s : List ℕ) (given : K.Readings) (old new : Lent K) (n : ℕ) : Type 0 where
  pub on : Started K
  pub started : Starts K (formula s) given (K.room old.work) (K.room old.output) on
  pub well : WellFormed on.formula
  pub made : List K.Value
  pub finishes : started_run K on ≡ finished made
  pub as_many : n ≡ length on.formula.results
  pub work_holds : K.Holds made old.work new.work
  pub output_holds : K.Holds (picked K.nothing made on.formula.results) old.output new.output

same_count : {m n : ℕ} → answered m ≡ answered n → m ≡ n
same_count e = cc

pub answers : {K : Kind} {s : List ℕ} {given : K.Readings} {old new : Lent K} {n : ℕ} → Kept K (formula s) given old new (Ok n) → Answers K s given old new n
answers {K} {s} {given} {old} {new} {n} k = by_job (lent_job K (formula s) given old) refl k.says k.works k.gives
  where
    by_job : (j : Result K.Value) → lent_job K (formula s) given old ≡ j → answered n ≡ said j → K.Holds (work_of j) old.work new.work
        → K.Holds (outputs_of j) old.output new.output → Answers K s given old new n
    by_job (refused_first m i) u e w o = absurd (never_both e)
    by_job (stopped_at i m vs) u e w o = absurd (never_both e)
    by_job (done vs os) u e w o =
        let d = does K (formula s) given (K.room old.work) (K.room old.output) u in
        record {
          on = d.on;
          started = d.started;
          well = accepted_well_formed s d.started.means;
          made = vs;
          finishes = d.finishes;
          as_many = same_count e ∙ ap length d.picks ∙ length-map d.on.formula.results (λ o. get_or vs o K.nothing);
          work_holds = w;
          output_holds = subst (λ (l : List K.Value). K.Holds l old.output new.output) d.picks o;
        }

module _ {K : Kind} (law : Lawful K) {s : List ℕ} {given : K.Readings} {old new : Lent K} where
  -- all values, and the outputs, as they stand in the lists
  module _ {n : ℕ} (a : Answers K s given old new n) where
    pub all_made : length a.made ≡ places a.on.formula.header
    all_made = made_many law (formula s) given (K.room old.work) (K.room old.output) a.started a.well a.finishes

    pub values_stand : K.front (places a.on.formula.header) new.work ≡ a.made
    values_stand = law.front_holds a.made (places a.on.formula.header) old.work new.work all_made a.work_holds

    pub outputs_stand : K.front n new.output ≡ picked K.nothing a.made a.on.formula.results
    outputs_stand =
        law.front_holds (picked K.nothing a.made a.on.formula.results) n old.output new.output
        (length-map a.on.formula.results (λ o. get_or a.made o K.nothing) ∙ sym a.as_many) a.output_holds

-- a job whose tests pass and whose run finishes answers, and its lists hold all values and the outputs
pub record AnswersWith (K : Kind) (f : Formula) (made : List K.Value) (old new : Lent K) (r : Reply) (n : ℕ) : Type 0 where
  pub is : r ≡ Ok n
  pub many : length (picked K.nothing made f.results) ≡ n
  pub work_holds : K.Holds made old.work new.work
  pub output_holds : K.Holds (picked K.nothing made f.results) old.output new.output

pub answers_with : (K : Kind) (s : List ℕ) {given : K.Readings} {old new : Lent K} {f : Formula} {vs made : List K.Value} {n : ℕ} (r : Reply)
    → formula s ≡ value f → tested K f.header.inputs given ≡ value vs → roomy f.header (K.room old.work) (K.room old.output) ≡ true
    → started_run K (record { formula = f; values = vs }) ≡ finished made → n ≡ length f.results → Kept K (formula s) given old new r
    → AnswersWith K f made old new r n
answers_with K s {given} {old} {new} {f} {vs} {made} {n} r e t u x l k =
    let room = both (leb (places f.header) (K.room old.work)) (leb f.header.outputs (K.room old.output)) u in
    let p : Starts K (formula s) given (K.room old.work) (K.room old.output) (record { formula = f; values = vs }) =
    record {
      means = e;
      fits = t;
      work_room = leb-true (places f.header) (K.room old.work) room.0;
      output_room = leb-true f.header.outputs (K.room old.output) room.1;
    } in
    let does : lent_job K (formula s) given old ≡ done made (picked K.nothing made f.results) =
    starts_done K (formula s) given (K.room old.work) (K.room old.output) p x in
    let many = length-map f.results (λ o. get_or made o K.nothing) ∙ sym l in
    record {
      is = one_reply r (Ok n) (k.says ∙ ap said does ∙ ap answered many);
      many = many;
      work_holds = subst (λ (j : Result K.Value). K.Holds (work_of j) old.work new.work) does k.works;
      output_holds = subst (λ (j : Result K.Value). K.Holds (outputs_of j) old.output new.output) does k.gives;
    }
