-- The tests before the first step, in the code's shape, once for the three kinds. Assumes nothing.
use mathlib.Core.Path.{◌≡◌, refl, sym, ◌∙◌, ap, ap₂, subst}
use mathlib.Core.Bool.{Bool, true, false, ◌&&◌}
use mathlib.Core.List.{List}
use Prim.Native.Nat.{ℕ, ◌+◌, ◌-◌, ◌≤◌, ◌<◌}
use native.Mathlib.Omega.{arith}
use borrow.Author.Tests.{le-leb, lt-leb}
use lib.Dec.{leb}
use Rattle.std.specs.Prelude.{IsErrAnd}
use Rattle.std.specs.declared.result.Result.TheVariants.{Ok, Err}
use Rattle.refusals.specs.Said.{Reply}
use Rattle.refusals.specs.Places.{because}
use Rattle.refusals.specs.declared.Refused.{Refused}
use Rattle.whole.proofs.Cases.{by_case}
use Rattle.refusals.specs.declared.Refusal.{Refusal}
use Rattle.refusals.specs.declared.Refusal.TheVariants as refusal
use Rattle.refusals.specs.Places.{Verdict}
use Rattle.refusals.specs.Answer.{value, refused, then}
use Rattle.refusals.specs.Places.{Placed, elsewhere, refuse_at, verdict_says}
use Rattle.refusals.proofs.OneReply.{passed_on}
use Rattle.refusals.proofs.Answers.{no_value, same_refusal, then_value, then_refused}
use Rattle.formulas.specs.declared.Header.{Header}
use Rattle.formulas.specs.Formula.{Formula}
use Rattle.formulas.specs.Readings.{readings_tested}
use Rattle.formulas.specs.Kinds.{Kind, tested}
use Rattle.formulas.specs.Job as job
use Rattle.formulas.specs.Job.{Started, if_room, roomy, Lent, lent_start, Kept}
use Rattle.formulas.specs.Lawful.{Lawful}
use Rattle.formulas.proofs.Jobs.{kept_refused}
use Rattle.packed.specs.Meaning.{formula, meant, checked}
use Rattle.packed.proofs.Accepted.{refused_unread}
use Rattle.packed.proofs.Formed.{formed}
use Rattle.checking.specs.CheckAnswers.{Checked}
use Rattle.checking.specs.CheckAnswers.{check_answer}
use Rattle.readings.specs.Judges.{JudgesAll}
use Rattle.running.specs.Ready.{Start}
use Rattle.running.specs.Ready.{start_says, Tests, started_header, Ready, Begins}

-- the three ways to come out of the test of room
module _ (m l n work output : ℕ) where
  pub room_lacks_inputs : work < m → false ≡ (leb (m + l) work && leb n output)
  room_lacks_inputs p = sym (ap (λ (t : Bool). t && leb n output) (lt-leb (m + l) work (omega arith)))

  pub room_lacks_values : m ≤ work → work - m < l → false ≡ (leb (m + l) work && leb n output)
  room_lacks_values i p = sym (ap (λ (t : Bool). t && leb n output) (lt-leb (m + l) work (omega arith)))

  pub room_for_values : m ≤ work → l ≤ work - m → leb n output ≡ (leb (m + l) work && leb n output)
  room_for_values i p = sym (ap (λ (t : Bool). t && leb n output) (le-leb (m + l) work (omega arith)))

-- what was tested and what room there is decides
by_room : (K : Kind) (s : List ℕ) (given : K.Readings) (work output : ℕ) {c : Checked} → check_answer c ≡ checked s → {h : Header} → c ≡ Ok h
    → {v : Verdict} → JudgesAll h.inputs (K.brought given) v → started_header K (job.start K (formula s) given work output)
    ≡ then (verdict_says v) (λ x. elsewhere (if_room (roomy h work output) h))
unfolding job.start
by_room K s given work output checks {h} t j =
    let f = formed s (by_case check_answer checks t) in
    ap (started_header K) (then_value (λ (g : Formula). begun g) (ap elsewhere f.means))
    ∙ by_test (readings_tested (meant s).header.inputs (K.brought given)) (roomy (meant s).header work output)
    ∙ ap (λ (g : Header). then (readings_tested g.inputs (K.brought given)) (λ x. elsewhere (if_room (roomy g work output) g))) f.is_header
    ∙ ap (λ a. then a (λ x. elsewhere (if_room (roomy h work output) h))) (sym j.says)
  where
    on : Formula → List K.Value → Started K
    on g vs = record { formula = g; values = vs }

    begun : Formula → Placed (Started K)
    begun g = then (tested K g.header.inputs given) (λ vs. elsewhere (if_room (roomy g.header work output) (on g vs)))

    by_test : (a : Placed (Unit {0})) (t : Bool)
        → started_header K (then (then a (λ x. value (K.values given))) (λ vs. elsewhere (if_room t (record { formula = meant s; values = vs }))))
        ≡ then a (λ x. elsewhere (if_room t (meant s).header))
    by_test (value x) true = refl
    by_test (value x) false = refl
    by_test (refused w) t = refl

-- where the readings passed, the room decides
by_fit : (h : Header) (output : ℕ) {v : Verdict} {work x : ℕ} {room : Bool} → v ≡ Ok tt → x ≡ work → room ≡ roomy h x output → {t : Bool} → room ≡ t
    → then (verdict_says v) (λ x. elsewhere (if_room (roomy h work output) h)) ≡ elsewhere (if_room t h)
by_fit h output u p b e =
    then_value _ (ap verdict_says u) ∙ ap (λ (t : Bool). elsewhere (if_room t h)) (sym (ap (λ (n : ℕ). roomy h n output) p) ∙ sym b ∙ e)

-- what was read and tested starts the run
module _ (K : Kind) {s : List ℕ} {given : K.Readings} {work output : ℕ} {c : Checked} (checks : check_answer c ≡ checked s) where
  pub ready_unread : {q : Refusal} {r : Start} → c ≡ Err q → IsErrAnd r (λ e. e ≡ because q 0) → Ready K s given work output r
  unfolding job.start
  ready_unread t u = subst (Ready K s given work output) (sym (passed_on u)) (
      record {
        answers = sym (ap (started_header K) (then_refused _ (ap elsewhere (refused_unread s (by_case check_answer checks t)))));
      })

  module _ {h : Header} (t : c ≡ Ok h) {v : Verdict} (judged : JudgesAll h.inputs (K.brought given) v) where
    pub ready_tested : {r : Start} → Tests h v work output r → Ready K s given work output r
    ready_tested u = record { answers = u.answers ∙ sym (by_room K s given work output checks t judged) }

    pub ready_misread : {e : Refused} {r : Start} → v ≡ Err e → IsErrAnd r (λ x. x ≡ e) → Ready K s given work output r
    ready_misread u x = subst (Ready K s given work output) (sym (passed_on x)) (ready_tested (record { answers = sym (then_refused _ (ap verdict_says u)) }))

    module _ (u : v ≡ Ok tt) {x : ℕ} (p : x ≡ work) {room : Bool} (b : room ≡ roomy h x output) where
      pub ready_cramped : {q : Refused} → q ≡ because refusal.NoRoom 0 → room ≡ false → Ready K s given work output (Err q)
      ready_cramped r n = subst (λ (q : Refused). Ready K s given work output (Err q)) (sym r) (ready_tested (record { answers = sym (by_fit h output u p b n) }))

      pub ready_passes : room ≡ true → Ready K s given work output (Ok h)
      ready_passes n = ready_tested (record { answers = sym (by_fit h output u p b n) })

-- what a run does next
module _ {K : Kind} (law : Lawful K) {s : List ℕ} {given : K.Readings} {old : Lent K} {work output : ℕ} {r : Start}
    (ready : Ready K s given work output r) (w : work ≡ K.room old.work) (o : output ≡ K.room old.output) where
  starts_on : start_says r ≡ started_header K (lent_start K (formula s) given old)
  starts_on = ready.answers ∙ ap₂ (λ (m n : ℕ). started_header K (job.start K (formula s) given m n)) w o

  pub ready_refused : {e : Refused} {q : Reply} → r ≡ Err e → IsErrAnd q (λ x. x ≡ e) → Kept K (formula s) given old old q
  ready_refused {e} t u =
      subst (Kept K (formula s) given old old) (sym (passed_on u))
      (kept_refused law (unstarted (lent_start K (formula s) given old) (by_case start_says starts_on t)))
    where
      unstarted : (a : Placed (Started K)) → started_header K a ≡ refuse_at e.why e.place → a ≡ refuse_at e.why e.place
      unstarted (value st) e = absurd (no_value (sym e))
      unstarted (refused n) e = same_refusal e

  pub ready_begins : {h : Header} → r ≡ Ok h → Begins K s h given old
  ready_begins t = record { starts_with = by_case start_says starts_on t }
