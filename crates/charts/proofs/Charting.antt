-- The chart's run in the code's shape: it is the ball run in lists that are long enough, then the doubles of its outputs. Assumes nothing.
use mathlib.Core.Path.{◌≡◌, refl, sym, ◌∙◌, ap, ap₂, subst}
use mathlib.Core.List.{List}
use Prim.Native.Nat.{ℕ, ◌≤◌}
use native.Mathlib.Omega.{arith}
use lib.Ieee.{Float}
use lib.IntN.{ℤ}
use lib.ListN.{length, get_or, length-map}
use Rattle.std.specs.declared.result.Result.TheVariants.{Ok, Err}
use Rattle.std.specs.Prelude.{IsErrAnd}
use Rattle.refusals.proofs.OneReply.{passed_on}
use Rattle.refusals.specs.Places.{because}
use Rattle.refusals.specs.declared.Refused.{Refused}
use Rattle.whole.proofs.Cases.{by_case}
use Rattle.lists.specs.Over.{least}
use Rattle.lists.proofs.Over.{both_least}
use Rattle.lists.specs.All.{All}
use Rattle.refusals.specs.declared.Refusal.{Refusal}
use Rattle.refusals.specs.Said.{Reply}
use Rattle.refusals.specs.Answer.{value, refused}
use Rattle.refusals.specs.Places.{Placed, refuse_at}
use Rattle.refusals.specs.Said.{answered, reply_said}
use Rattle.refusals.proofs.Answers.{first_of, no_value, same_value, same_refusal}
use Rattle.refusals.proofs.OneReply.{never_both, first_said}
use Rattle.rules.specs.declared.Ball.{Ball}
use Rattle.rules.specs.Numbers.{top_scale}
use Rattle.rules.specs.Lists.{BallLists, ball_lists}
use Rattle.formulas.specs.declared.Header.{Header}
use Rattle.formulas.specs.Formula.{Formula, WellFormed}
use Rattle.formulas.specs.Readings.{BallReadings}
use Rattle.formulas.specs.Kinds.{ball_kind}
use Rattle.formulas.specs.Job.{Started, start, Result, refused_first, stopped_at, done, work_of, outputs_of, said, lent, lent_job, Kept}
use Rattle.formulas.proofs.Lawful.{ball_lawful}
use Rattle.formulas.proofs.Jobs.{Starts, starts, start_is, job_refused, job_started, Does, does, refused_outputs}
use Rattle.formulas.proofs.Legal.{outputs_legal}
use Rattle.packed.specs.Meaning.{formula, meant}
use Rattle.packed.proofs.WellFormed.{accepted_well_formed}
use Rattle.packed.proofs.Formed.{meant_is}
use Rattle.running.specs.Ready.{Start}
use Rattle.running.specs.Ready as ready
use Rattle.running.specs.Ready.{start_says, started_header, Ready}
use Rattle.charts.specs.Charts.{ChartLists, chart_lists, chart_room, HoldDoubles, chart_lent, chart_job, Charted, Begins, Drawable, Draws}

-- a refusal leaves the chart alone
charted_refused : {s : List ℕ} {given : BallReadings} {work new : BallLists} {chart : ChartLists} {j : Result Ball} {q : Refusal} {k : ℕ}
    → j ≡ chart_job s given (chart_lent work chart) → reply_said (Err (because q k)) ≡ said j → ball_kind.Holds (work_of j) work new
    → Charted s given (chart_lent work chart) (chart_lent new chart) (Err (because q k))
charted_refused {s} {given} {work} {new} {chart} {j} {q} {k} e u h =
    record {
      says = u ∙ ap said e;
      works = subst (λ (i : Result Ball). ball_kind.Holds (work_of i) work new) e h;
      draws =
          subst (λ (vs : List Ball). HoldDoubles (meant s).header.scale vs chart chart) (sym (refused_outputs j u) ∙ ap outputs_of e)
          (record { centres_hold = refl; margins_hold = refl });
    }

-- what a run does next, in lists with so many places
module _ {s : List ℕ} {given : BallReadings} (wc : List ℤ) (wm : List ℕ) (oc om : List Float) {work output : ℕ} {r : Start}
    (ready : Ready ball_kind s given work output r) (w : work ≡ ball_kind.room (ball_lists wc wm)) (o : output ≡ least (length oc) (length om)) where
  starts_on : start_says r ≡ started_header ball_kind (start ball_kind (formula s) given (least (length wc) (length wm)) (least (length oc) (length om)))
  starts_on = ready.answers ∙ ap₂ (λ (m n : ℕ). started_header ball_kind (start ball_kind (formula s) given m n)) w o

  pub chart_begins : {h : Header} → r ≡ Ok h → Begins s h given (chart_lent (ball_lists wc wm) (chart_lists oc om))
  chart_begins t = record { starts_with = by_case start_says starts_on t }

  pub chart_refused : {e : Refused} {q : Reply} → r ≡ Err e → IsErrAnd q (λ x. x ≡ e)
      → Charted s given (chart_lent (ball_lists wc wm) (chart_lists oc om)) (chart_lent (ball_lists wc wm) (chart_lists oc om)) q
  chart_refused {e} t u =
      let e = unstarted (start ball_kind (formula s) given (least (length wc) (length wm)) (least (length oc) (length om))) (by_case start_says starts_on t) in
      subst (Charted s given (chart_lent (ball_lists wc wm) (chart_lists oc om)) (chart_lent (ball_lists wc wm) (chart_lists oc om))) (sym (passed_on u))
      (charted_refused (sym (job_refused ball_kind (formula s) given (least (length wc) (length wm)) (least (length oc) (length om)) e)) refl
      (ball_lawful.holds_none (ball_lists wc wm)))
    where
      unstarted : (a : Placed (Started ball_kind)) → started_header ball_kind a ≡ refuse_at e.why e.place → a ≡ refuse_at e.why e.place
      unstarted (value st) e = absurd (no_value (sym e))
      unstarted (refused n) e = same_refusal e

-- an answer is that of a job that is done
pub answers_done : {A : Type 0} {n : ℕ} (j : Result A) → answered n ≡ said j → (j ≡ done (work_of j) (outputs_of j)) × (length (outputs_of j) ≡ n)
answers_done (refused_first m k) e = absurd (never_both e)
answers_done (stopped_at k m vs) e = absurd (never_both e)
answers_done (done vs os) e = (refl, sym (ap first_said e))

abbrev outs : List ℕ → BallReadings → BallLists → ChartLists → List Ball
outs s given work chart = outputs_of (chart_job s given (chart_lent work chart))

abbrev made : List ℕ → BallReadings → BallLists → ChartLists → List Ball
made s given work chart = work_of (chart_job s given (chart_lent work chart))

-- the formula and the values that a run starts on
record Opened (s : List ℕ) (h : Header) (given : BallReadings) (work : BallLists) (chart : ChartLists) : Type 0 where
  on : Started ball_kind
  begun : start ball_kind (formula s) given (ball_kind.room work) (chart_room chart) ≡ value on
  is_header : on.formula.header ≡ h
  started : Starts ball_kind (formula s) given (ball_kind.room work) (chart_room chart) on
  well : WellFormed on.formula

opened : {s : List ℕ} {h : Header} {given : BallReadings} {work : BallLists} {chart : ChartLists} → Begins s h given (chart_lent work chart) → Opened s h given work chart
opened {s} {h} {given} {work} {chart} b =
    let a = first_of (start ball_kind (formula s) given (ball_kind.room work) (chart_room chart)) (λ st. value st.formula.header) b.starts_with in
    let t = starts ball_kind (formula s) given (ball_kind.room work) (chart_room chart) a.was in
    record { on = a.first; begun = a.was; is_header = same_value a.then_was; started = t; well = accepted_well_formed s t.means }

-- a run that starts in the lists of the chart starts in lists of 16 places too, and it is the same run
module _ {s : List ℕ} {h : Header} {given : BallReadings} {work : BallLists} {chart : ChartLists} (b : Opened s h given work chart)
    (local : BallLists) (places : 16 ≤ ball_kind.room local) where
  begun_inside : start ball_kind (formula s) given (ball_kind.room work) (ball_kind.room local) ≡ value b.on
  begun_inside =
      start_is ball_kind (formula s) given (ball_kind.room work) (ball_kind.room local)
      (record {
        means = b.started.means;
        fits = b.started.fits;
        work_room = b.started.work_room;
        output_room = omega (arith, b.well.limits.outputs_few, places);
      })

  begins_inside : ready.Begins ball_kind s h given (lent ball_kind work local)
  begins_inside = record { starts_with = ap (started_header ball_kind) begun_inside ∙ ap value b.is_header }

  same_job : lent_job ball_kind (formula s) given (lent ball_kind work local) ≡ chart_job s given (chart_lent work chart)
  same_job =
      job_started ball_kind (formula s) given (ball_kind.room work) (ball_kind.room local) begun_inside
      ∙ sym (job_started ball_kind (formula s) given (ball_kind.room work) (chart_room chart) b.begun)

  module _ {new local₁ : BallLists} {n : ℕ} (k : Kept ball_kind (formula s) given (lent ball_kind work local) (lent ball_kind new local₁) (Ok n)) where
    ended : (chart_job s given (chart_lent work chart) ≡ done (made s given work chart) (outs s given work chart))
        × (length (outs s given work chart) ≡ n)
    ended = answers_done (chart_job s given (chart_lent work chart)) (k.says ∙ ap said same_job)

    does_it : Does ball_kind (formula s) given (ball_kind.room work) (chart_room chart) (made s given work chart) (outs s given work chart)
    does_it = does ball_kind (formula s) given (ball_kind.room work) (chart_room chart) ended.0

    given_out : ball_kind.Holds (outs s given work chart) local local₁
    given_out = subst (λ (j : Result Ball). ball_kind.Holds (outputs_of j) local local₁) same_job k.gives

    in_front : ball_kind.front n local₁ ≡ outs s given work chart
    in_front = ball_lawful.front_holds (outs s given work chart) n local local₁ ended.1 given_out

    as_many : n ≡ b.on.formula.header.outputs
    as_many = sym ended.1 ∙ ap length does_it.picks ∙ length-map does_it.on.formula.results (λ o. get_or (made s given work chart) o ball_kind.nothing)
        ∙ ap (λ (f : Formula). length f.results) (same_value (sym does_it.started.means ∙ b.started.means)) ∙ b.well.results_long

    drawable : Drawable h.scale n local₁ chart
    drawable =
        let few : n ≤ 16 = omega (arith, as_many, b.well.limits.outputs_few) in
        let long : length (outs s given work chart) ≤ ball_kind.room local = omega (arith, ended.1, places, few) in
        record {
          scale_small = subst (λ (g : Header). g.scale ≤ top_scale) b.is_header b.well.limits.scale_small;
          few = few;
          there = omega (arith, ball_lawful.room_holds (outs s given work chart) local local₁ long given_out, places, few);
          legal =
              subst (All ball_kind.Legal) (sym in_front)
              (outputs_legal ball_lawful (formula s) given (ball_kind.room work) (chart_room chart) does_it (accepted_well_formed s does_it.started.means));
          room = omega (arith, as_many, b.started.output_room);
        }

    charted_done : {drawn : ChartLists} → Draws h.scale n local₁ chart drawn → Charted s given (chart_lent work chart) (chart_lent new drawn) (Ok n)
    charted_done {drawn} d =
        record {
          says = k.says ∙ ap said same_job;
          works = subst (λ (j : Result Ball). ball_kind.Holds (work_of j) work new) same_job k.works;
          draws =
              subst (λ (F : ℕ). HoldDoubles F (outs s given work chart) chart drawn) scale_is
              (subst (λ (vs : List Ball). HoldDoubles h.scale vs chart drawn) in_front d);
        }
      where
        scale_is : h.scale ≡ (meant s).header.scale
        scale_is = sym (ap (λ (f : Formula). f.header.scale) (meant_is s b.started.means) ∙ ap (λ (g : Header). g.scale) b.is_header)

local_places : (xs : List ℤ) (ys : List ℕ) → length xs ≡ 16 → length ys ≡ 16 → 16 ≤ ball_kind.room (ball_lists xs ys)
local_places xs ys p q = both_least 16 (length xs) (length ys) (omega (arith, p)) (omega (arith, q))

-- the same, as the code has it: local lists of 16 places; the facts that share most with a goal come first
module _ {s : List ℕ} {h : Header} {given : BallReadings} {wc : List ℤ} {wm : List ℕ} {oc om : List Float} {xs : List ℤ} {ys : List ℕ} where
  pub local_begins : Begins s h given (chart_lent (ball_lists wc wm) (chart_lists oc om)) → length xs ≡ 16 → length ys ≡ 16
      → ready.Begins ball_kind s h given (lent ball_kind (ball_lists wc wm) (ball_lists xs ys))
  local_begins b p q = begins_inside (opened b) (ball_lists xs ys) (local_places xs ys p q)

  module _ {nc xs₁ : List ℤ} {nm ys₁ : List ℕ} {r : Reply}
      (k : Kept ball_kind (formula s) given (lent ball_kind (ball_lists wc wm) (ball_lists xs ys)) (lent ball_kind (ball_lists nc nm) (ball_lists xs₁ ys₁)) r) where
    pub local_refused : {e : Refused} {q : Reply} → r ≡ Err e → IsErrAnd q (λ x. x ≡ e) → Begins s h given (chart_lent (ball_lists wc wm) (chart_lists oc om))
        → length xs ≡ 16 → length ys ≡ 16
        → Charted s given (chart_lent (ball_lists wc wm) (chart_lists oc om)) (chart_lent (ball_lists nc nm) (chart_lists oc om)) q
    local_refused t u b p q =
        subst (Charted s given (chart_lent (ball_lists wc wm) (chart_lists oc om)) (chart_lent (ball_lists nc nm) (chart_lists oc om))) (sym (passed_on u))
        (charted_refused (same_job (opened b) (ball_lists xs ys) (local_places xs ys p q)) (sym (ap reply_said t) ∙ k.says) k.works)

    pub local_drawable : {n : ℕ} → r ≡ Ok n → Begins s h given (chart_lent (ball_lists wc wm) (chart_lists oc om)) → length xs ≡ 16 → length ys ≡ 16
        → Drawable h.scale n (ball_lists xs₁ ys₁) (chart_lists oc om)
    local_drawable t b p q = drawable (opened b) (ball_lists xs ys) (local_places xs ys p q) (rw t at k)

  pub local_charted : {nc xs₁ : List ℤ} {nm ys₁ : List ℕ} {r : Reply} {n : ℕ} {dc dm : List Float}
      → Draws h.scale n (ball_lists xs₁ ys₁) (chart_lists oc om) (chart_lists dc dm)
      → Kept ball_kind (formula s) given (lent ball_kind (ball_lists wc wm) (ball_lists xs ys)) (lent ball_kind (ball_lists nc nm) (ball_lists xs₁ ys₁)) r
      → r ≡ Ok n → Begins s h given (chart_lent (ball_lists wc wm) (chart_lists oc om)) → length xs ≡ 16 → length ys ≡ 16
      → Charted s given (chart_lent (ball_lists wc wm) (chart_lists oc om)) (chart_lent (ball_lists nc nm) (chart_lists dc dm)) (Ok n)
  local_charted d k t b p q = charted_done (opened b) (ball_lists xs ys) (local_places xs ys p q) (rw t at k) d
