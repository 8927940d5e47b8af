-- The ball job answers the columns of the first 17 records as it answers all of the records. Assumes nothing.
use mathlib.Core.Path.{◌≡◌, refl, sym, ◌∙◌, ap, ap₂, subst}
use mathlib.Core.Bool.{Bool, true, false}
use mathlib.Core.List.{List, map}
use mathlib.Core.Logic.{inl}
use Prim.Native.Nat.{ℕ, ◌<◌}
use native.Mathlib.Omega.{arith}
use borrow.Author.Tests.{ltb-true, ltb-false}
use lib.Dec.{ltb}
use lib.IntN.{ℤ}
use lib.ListN.{length, take, length-map}
use lib.Seq.{length-take-le, take_all}
use Rattle.refusals.specs.declared.Refusal.TheVariants as refusal
use Rattle.refusals.specs.Answer.{Answer, value, refused, then}
use Rattle.refusals.specs.Places.{Placed, refused_at, elsewhere, refuse_at}
use Rattle.refusals.proofs.Answers.{then_refused}
use Rattle.rules.specs.declared.Ball.{Ball}
use Rattle.rules.specs.Lists.{HoldBalls}
use Rattle.formulas.specs.Formula.{Formula}
use Rattle.formulas.specs.Readings.{ball_readings, balls_brought}
use Rattle.formulas.specs.Kinds.{ball_kind, tested}
use Rattle.formulas.specs.Job.{Started, roomy, if_room, start, Result, if_started, job, work_of, outputs_of, said, Lent}
use Rattle.formulas.proofs.Judging.{miscounted}
use Rattle.packed.specs.Meaning.{formula}
use Rattle.packed.proofs.WellFormed.{accepted_well_formed}
use Rattle.columns.specs.declared.MarginsBall.{MarginsBall}
use Rattle.columns.specs.declared.Columns.{Columns}
use Rattle.columns.specs.Records.{Columned, centre_of, margin_of}
use Rattle.replies.specs.declared.MarginsReply.{MarginsReply}
use Rattle.replies.specs.Doors.{margins_reply, Door}

-- more than 16 readings are refused, whatever they are
abbrev unread : Answer Formula → Placed (Started ball_kind)
unread (refused n) = refused_at n 0
unread (value f) = refuse_at refusal.ReadingCount 0

many_readings : (s : List ℕ) (cs rs : List ℤ) (w o : ℕ) → 16 < length cs → start ball_kind (formula s) (ball_readings cs rs) w o ≡ unread (formula s)
unfolding start
many_readings s cs rs w o many = by_formula (formula s) refl
  where
    by_formula : (a : Answer Formula) → formula s ≡ a
        → then (elsewhere a) (λ f. then (tested ball_kind f.header.inputs (ball_readings cs rs)) (λ vs.
        elsewhere (if_room (roomy f.header w o) (record { formula = f; values = vs })))) ≡ unread a
    by_formula (refused n) e = refl
    by_formula (value f) e =
        let few = (accepted_well_formed s e).limits.inputs_few in
        then_refused _ (then_refused (λ x. value (ball_kind.values (ball_readings cs rs)))
        (miscounted f.header.inputs (balls_brought (ball_readings cs rs)) (inl (λ u. omega (arith, u, many, few)))))

-- the job over the first 17 records
firsts : (s : List ℕ) (ys : List MarginsBall) (w o : ℕ) (t : Bool) → ltb 16 (length ys) ≡ t
    → job ball_kind (formula s) (ball_readings (map centre_of (take 17 ys)) (map margin_of (take 17 ys))) w o
    ≡ job ball_kind (formula s) (ball_readings (map centre_of ys) (map margin_of ys)) w o
unfolding job
firsts s ys w o true e =
    let more = ltb-true 16 (length ys) e in
    let taken : length (map centre_of (take 17 ys)) ≡ 17 = length-map (take 17 ys) centre_of ∙ length-take-le 17 ys (omega (arith, more)) in
    ap (if_started ball_kind)
    (many_readings s _ (map margin_of (take 17 ys)) w o (omega (arith, taken))
    ∙ sym (many_readings s (map centre_of ys) (map margin_of ys) w o (subst (λ k. 16 < k) (sym (length-map ys centre_of)) more)))
firsts s ys w o false e =
    let less = ltb-false 16 (length ys) e in
    ap (λ (xs : List MarginsBall). job ball_kind (formula s) (ball_readings (map centre_of xs) (map margin_of xs)) w o) (take_all 17 ys (omega (arith, less)))

columns_job : (s : List ℕ) (ys : List MarginsBall) (l : Columns) (w o : ℕ) → Columned l (take 17 ys)
    → job ball_kind (formula s) (ball_readings (take l.count l.centres) (take l.count l.margins)) w o
    ≡ job ball_kind (formula s) (ball_readings (map centre_of ys) (map margin_of ys)) w o
columns_job s ys l w o h =
    ap (λ (k : ℕ). job ball_kind (formula s) (ball_readings (take k l.centres) (take k l.margins)) w o) h.counted
    ∙ ap₂ (λ (cs rs : List ℤ). job ball_kind (formula s) (ball_readings cs rs) w o) h.centres_are h.margins_are
    ∙ firsts s ys w o (ltb 16 (length ys)) refl

-- the door over the columns is the door over the records
pub columns_door : (s : List ℕ) (ys : List MarginsBall) (l : Columns) {old new : Lent ball_kind} {r : MarginsReply} → Columned l (take 17 ys)
    → Door ball_kind (formula s) (ball_readings (take l.count l.centres) (take l.count l.margins)) old new r
    → Door ball_kind (formula s) (ball_readings (map centre_of ys) (map margin_of ys)) old new r
columns_door s ys l {old} {new} {r} h d =
    let e = columns_job s ys l (ball_kind.room old.work) (ball_kind.room old.output) h in
    record {
      tells = d.tells ∙ ap (λ (j : Result Ball). margins_reply (said j)) e;
      works = subst (λ (j : Result Ball). HoldBalls (work_of j) old.work new.work) e d.works;
      gives = subst (λ (j : Result Ball). HoldBalls (outputs_of j) old.output new.output) e d.gives;
    }
