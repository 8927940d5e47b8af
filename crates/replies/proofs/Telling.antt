-- From a job's reply to what C is told: an answer names at most 16 outputs, and the door leaves what the job leaves and no more. Assumes nothing.
use mathlib.Core.Path.{◌≡◌, refl, sym, ◌∙◌, ap, subst}
use mathlib.Core.List.{List}
use Prim.Native.Nat.{ℕ, ◌≤◌, zero-le}
use native.Mathlib.Omega.{arith}
use lib.ListN.{length, get_or, length-map}
use Rattle.std.specs.declared.result.Result.TheVariants.{Ok, Err}
use Rattle.refusals.specs.Said.{Reply}
use Rattle.refusals.specs.Answer.{value, refused}
use Rattle.refusals.specs.Places.{Placed}
use Rattle.refusals.specs.Said.{Said, answered, refuses, reply_said}
use Rattle.formulas.specs.Formula.{Formula}
use Rattle.formulas.specs.Run.{Walk, finished, stopped}
use Rattle.formulas.specs.Kinds.{Kind}
use Rattle.formulas.specs.Job.{Started, start, walk_ended, started_run, job, said, Lent, lent_job, Kept}
use Rattle.formulas.specs.Lawful.{Lawful}
use Rattle.formulas.proofs.Jobs.{starts, job_refused, job_started, job_numbered}
use Rattle.packed.specs.Meaning.{formula, checked}
use Rattle.packed.proofs.WellFormed.{accepted_well_formed}
use Rattle.packed.proofs.GivenExactly.{formula_numbered}
use Rattle.packed.proofs.Formed.{formed, limits_of}
use Rattle.checking.specs.CheckAnswers.{Checked}
use Rattle.checking.specs.CheckAnswers.{check_answer}
use Rattle.replies.specs.declared.MarginsReply.{MarginsReply}
use Rattle.replies.specs.declared.MarginsFormula.{MarginsFormula}
use Rattle.replies.specs.Doors.{margins_reply, margins_formula, outputs_told, CheckedInLimits, Door}

pub job_few : (K : Kind) (s : List ℕ) (given : K.Readings) (work output : ℕ) → outputs_told (said (job K (formula s) given work output)) ≤ 16
job_few K s given work output = by_start (start K (formula s) given work output) refl
  where
    by_walk : (f : Formula) → length f.results ≤ 16 → (w : Walk K.Value) → outputs_told (said (walk_ended K.nothing f w)) ≤ 16
    by_walk f l (finished vs) = subst (λ (n : ℕ). n ≤ 16) (sym (length-map f.results (λ o. get_or vs o K.nothing))) l
    by_walk f l (stopped n vs) = omega arith

    by_start : (a : Placed (Started K)) → start K (formula s) given work output ≡ a → outputs_told (said (job K (formula s) given work output)) ≤ 16
    by_start (refused n) e = subst (λ j. outputs_told (said j) ≤ 16) (sym (job_refused K (formula s) given work output e)) (omega arith)
    by_start (value st) e =
        let w = accepted_well_formed s (starts K (formula s) given work output e).means in
        subst (λ j. outputs_told (said j) ≤ 16) (sym (job_started K (formula s) given work output e))
        (by_walk st.formula (omega (arith, w.results_long, w.limits.outputs_few)) (started_run K st))

module _ (K : Kind) (s : List ℕ) {given : K.Readings} {old new : Lent K} {q : Reply} (k : Kept K (formula s) given old new q) where
  pub kept_few : outputs_told (reply_said q) ≤ 16
  kept_few =
      subst (λ t. outputs_told t ≤ 16) (sym k.says) (job_few K s given (K.room old.work) (K.room old.output))

  pub kept_door : {r : MarginsReply} → r ≡ margins_reply (reply_said q) → Door K (formula s) given old new r
  kept_door e = record { tells = e ∙ ap margins_reply k.says; works = k.works; gives = k.gives }

-- a door that tells no refusal leaves what the job leaves that answers
pub door_kept : {K : Kind} → Lawful K → (s : List ℕ) {given : K.Readings} {old new : Lent K} {r : MarginsReply} → Door K (formula s) given old new r
    → r.refusal ≡ 0 → Kept K (formula s) given old new (Ok r.outputs)
door_kept {K} law s {given} {old} {new} {r} d z = by_said (said (lent_job K (formula s) given old)) refl
  where
    by_said : (t : Said) → said (lent_job K (formula s) given old) ≡ t → Kept K (formula s) given old new (Ok r.outputs)
    by_said (answered n) u =
        record { says = ap answered (ap (λ (m : MarginsReply). m.outputs) (d.tells ∙ ap margins_reply u)) ∙ sym u; works = d.works; gives = d.gives }
    by_said (refuses n k) u =
        let no : n ≡ 0 = sym (ap (λ (m : MarginsReply). m.refusal) (d.tells ∙ ap margins_reply u)) ∙ z in
        absurd (omega (arith, job_numbered law (formula s) given (K.room old.work) (K.room old.output) (formula_numbered s) (sym u)))

-- where an answer names so many at the most, what is told does
pub few_told : (most : ℕ) (q : Reply) → ((n : ℕ) → q ≡ Ok n → n ≤ most) → outputs_told (reply_said q) ≤ most
few_told most (Ok n) few = few n refl
few_told most (Err e) few = zero-le

-- what was checked
pub checked_limits : (c : Checked) (s : List ℕ) → check_answer c ≡ checked s → CheckedInLimits c
checked_limits (Ok h) s e = limits_of (formed s (sym e))
checked_limits (Err r) s e = tt

pub told_checked : (c : Checked) (s : List ℕ) {r : MarginsFormula} → r ≡ margins_formula (check_answer c)
    → check_answer c ≡ checked s → r ≡ margins_formula (checked s)
told_checked c s e t = e ∙ ap margins_formula t
