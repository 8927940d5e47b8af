-- What C sees of the ball job with doubles: the reply's number where Rattle has an enum.
use Rattle.std.specs.Prelude.{◌≡◌, List, ℕ}
use Rattle.formulas.specs.Readings.{BallReadings}
use Rattle.formulas.specs.Kinds.{ball_kind}
use Rattle.formulas.specs.Job.{work_of, outputs_of, said}
use Rattle.packed.specs.Meaning.{meant}
use Rattle.charts.specs.Charts.{ChartLent, chart_job, HoldDoubles}
use Rattle.replies.specs.declared.MarginsReply.{MarginsReply}
use Rattle.replies.specs.Doors.{margins_reply}

-- the reply, and every place of every lent list
pub record ChartDoor (s : List ℕ) (given : BallReadings) (old new : ChartLent) (r : MarginsReply) : Type 0 where
  pub tells : r ≡ margins_reply (said (chart_job s given old))
  pub works : ball_kind.Holds (work_of (chart_job s given old)) old.work new.work
  pub draws : HoldDoubles (meant s).header.scale (outputs_of (chart_job s given old)) old.chart new.chart
