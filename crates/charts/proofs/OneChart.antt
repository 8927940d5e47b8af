-- Two outcomes that the chart's contract allows are equal, and a refusal leaves the chart as it was. Assumes nothing.
use mathlib.Core.Path.{◌≡◌, refl, sym, ◌∙◌, ap₂}
use mathlib.Core.List.{List}
use Prim.Native.Nat.{ℕ}
use Rattle.std.specs.declared.result.Result.TheVariants.{Err}
use Rattle.refusals.specs.Places.{because}
use Rattle.refusals.specs.declared.Refusal.{Refusal}
use Rattle.refusals.specs.Said.{Reply}
use Rattle.refusals.proofs.OneReply.{one_reply}
use Rattle.rules.specs.declared.Ball.{Ball}
use Rattle.formulas.specs.Readings.{BallReadings}
use Rattle.formulas.specs.Job.{work_of}
use Rattle.formulas.proofs.Lawful.{ball_lawful}
use Rattle.formulas.proofs.Jobs.{refused_outputs}
use Rattle.charts.specs.Charts.{ChartLists, chart_lists, HoldDoubles, ChartLent, chart_lent, chart_job, Charted}

pub doubles_one : {F : ℕ} {vs : List Ball} {old : ChartLists} (a b : ChartLists) → HoldDoubles F vs old a → HoldDoubles F vs old b → a ≡ b
doubles_one a b k l = ap₂ chart_lists (k.centres_hold ∙ sym l.centres_hold) (k.margins_hold ∙ sym l.margins_hold)

pub chart_one_outcome : {s : List ℕ} {given : BallReadings} {old : ChartLent} (new₁ new₂ : ChartLent) (r t : Reply)
    → Charted s given old new₁ r → Charted s given old new₂ t → (r ≡ t) × (new₁ ≡ new₂)
chart_one_outcome {s} {given} {old} new₁ new₂ r t k l = (
  one_reply r t (k.says ∙ sym l.says),
  ap₂ chart_lent (ball_lawful.holds_one (work_of (chart_job s given old)) old.work new₁.work new₂.work k.works l.works)
      (doubles_one new₁.chart new₂.chart k.draws l.draws),
)

-- "no pair is given then"
pub refused_keeps_chart : {s : List ℕ} {given : BallReadings} {old new : ChartLent} {q : Refusal} {k : ℕ} → Charted s given old new (Err (because q k))
    → new.chart ≡ old.chart
refused_keeps_chart {s} {given} {old} {new} p =
    doubles_one new.chart old.chart (rw (refused_outputs (chart_job s given old) p.says) at p.draws) (record { centres_hold = refl; margins_hold = refl })
