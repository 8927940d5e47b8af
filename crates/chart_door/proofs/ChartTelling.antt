-- From the chart's run to what C is told of it; two outcomes that the door allows are equal. Assumes nothing.
use mathlib.Core.Path.{◌≡◌, sym, ◌∙◌, ap, ap₂, subst}
use mathlib.Core.List.{List}
use Prim.Native.Nat.{ℕ, ◌≤◌}
use Rattle.refusals.specs.Said.{Reply}
use Rattle.refusals.specs.Said.{reply_said}
use Rattle.formulas.specs.Readings.{BallReadings}
use Rattle.formulas.specs.Kinds.{ball_kind}
use Rattle.formulas.specs.Job.{work_of}
use Rattle.formulas.proofs.Lawful.{ball_lawful}
use Rattle.charts.specs.Charts.{ChartLent, chart_lent, chart_room, chart_job, Charted}
use Rattle.charts.proofs.OneChart.{doubles_one}
use Rattle.replies.specs.declared.MarginsReply.{MarginsReply}
use Rattle.replies.specs.Doors.{margins_reply, outputs_told}
use Rattle.replies.proofs.Telling.{job_few}
use Rattle.chart_door.specs.ChartDoors.{ChartDoor}

module _ {s : List ℕ} {given : BallReadings} {old new : ChartLent} {q : Reply} (k : Charted s given old new q) where
  pub charted_few : outputs_told (reply_said q) ≤ 16
  charted_few =
      subst (λ t. outputs_told t ≤ 16) (sym k.says) (job_few ball_kind s given (ball_kind.room old.work) (chart_room old.chart))

  pub charted_door : {r : MarginsReply} → r ≡ margins_reply (reply_said q) → ChartDoor s given old new r
  charted_door e = record { tells = e ∙ ap margins_reply k.says; works = k.works; draws = k.draws }

pub chart_door_one_outcome : {s : List ℕ} {given : BallReadings} {old : ChartLent} (new₁ new₂ : ChartLent) {r t : MarginsReply}
    → ChartDoor s given old new₁ r → ChartDoor s given old new₂ t → (r ≡ t) × (new₁ ≡ new₂)
chart_door_one_outcome {s} {given} {old} new₁ new₂ k l = (
  k.tells ∙ sym l.tells,
  ap₂ chart_lent (ball_lawful.holds_one (work_of (chart_job s given old)) old.work new₁.work new₂.work k.works l.works)
      (doubles_one new₁.chart new₂.chart k.draws l.draws),
)
