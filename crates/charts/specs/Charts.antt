-- Request f, "figures for the chart page": the ball job, "each output ball as a pair of doubles", one list for the
-- centres and one for the margins.
use Rattle.std.specs.Prelude.{◌≡◌, List, map, ℕ, ◌≤◌, Float, pos, length}
use Rattle.lists.specs.Over.{over, least}
use Rattle.lists.specs.All.{All}
use Rattle.refusals.specs.Said.{Reply}
use Rattle.refusals.specs.Answer.{value}
use Rattle.refusals.specs.Said.{reply_said}
use Rattle.rules.specs.declared.Ball.{Ball}
use Rattle.rules.specs.Numbers.{top_scale}
use Rattle.rules.specs.Lists.{BallLists}
use Rattle.formulas.specs.declared.Header.{Header}
use Rattle.formulas.specs.Readings.{BallReadings}
use Rattle.formulas.specs.Kinds.{ball_kind}
use Rattle.formulas.specs.Job.{start, Result, job, work_of, outputs_of, said}
use Rattle.packed.specs.Meaning.{formula, meant}
use Rattle.running.specs.Ready.{started_header}
use Rattle.doubles.specs.Doubles.{double}

pub record ChartLists : Type 0 where
  pub centres : List Float
  pub margins : List Float

abbrev pub chart_lists : List Float → List Float → ChartLists
chart_lists cs rs = record { centres = cs; margins = rs }

abbrev pub chart_room : ChartLists → ℕ
chart_room l = least (length l.centres) (length l.margins)

-- "each output ball as a pair of doubles, centre and margin, equal to c/2^F and r/2^F", over what the lists held
pub record HoldDoubles (F : ℕ) (vs : List Ball) (old new : ChartLists) : Type 0 where
  pub centres_hold : new.centres ≡ over (map (λ (b : Ball). double F b.centre) vs) old.centres
  pub margins_hold : new.margins ≡ over (map (λ (b : Ball). double F (pos b.margin)) vs) old.margins

-- what a caller lends
pub record ChartLent : Type 0 where
  pub work : BallLists
  pub chart : ChartLists

abbrev pub chart_lent : BallLists → ChartLists → ChartLent
chart_lent work chart = record { work = work; chart = chart }

-- the ball job, with 10 for these lists
abbrev pub chart_job : List ℕ → BallReadings → ChartLent → Result Ball
chart_job s given lent = job ball_kind (formula s) given (ball_kind.room lent.work) (chart_room lent.chart)

-- the reply, and every place of every lent list: "no pair is given" with a refusal, which has no outputs
pub record Charted (s : List ℕ) (given : BallReadings) (old new : ChartLent) (r : Reply) : Type 0 where
  pub says : reply_said r ≡ said (chart_job s given old)
  pub works : ball_kind.Holds (work_of (chart_job s given old)) old.work new.work
  pub draws : HoldDoubles (meant s).header.scale (outputs_of (chart_job s given old)) old.chart new.chart

-- a run starts on the formula with this header
pub record Begins (s : List ℕ) (h : Header) (given : BallReadings) (old : ChartLent) : Type 0 where
  pub starts_with : started_header ball_kind
      (start ball_kind (formula s) given (ball_kind.room old.work) (chart_room old.chart))
      ≡ value h

-- so many legal balls stand in front of lists, and there is room for their doubles
pub record Drawable (F count : ℕ) (from : BallLists) (chart : ChartLists) : Type 0 where
  pub scale_small : F ≤ top_scale
  pub few : count ≤ 16
  pub there : count ≤ ball_kind.room from
  pub legal : All ball_kind.Legal (ball_kind.front count from)
  pub room : count ≤ chart_room chart

abbrev pub Draws : ℕ → ℕ → BallLists → ChartLists → ChartLists → Type 0
Draws F count from old new = HoldDoubles F (ball_kind.front count from) old new
