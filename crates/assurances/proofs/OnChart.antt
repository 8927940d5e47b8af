-- What `margins_ball_doubles` leaves with refusal 0: exact doubles of balls of which demand 2 holds. Assumes nothing.
use mathlib.Core.Path.{◌≡◌, refl, sym, ◌∙◌, ap, ap₂, subst}
use mathlib.Core.List.{List, map}
use Prim.Native.Nat.{ℕ, ◌≤◌}
use native.Mathlib.Omega.{arith}
use lib.Ieee.{Float}
use lib.IntN.{pos}
use lib.ListN.{length-map}
use Rattle.lists.specs.Over.{over, least}
use Rattle.lists.proofs.Each.{all_so}
use Rattle.rules.specs.declared.Ball.{Ball}
use Rattle.rules.specs.Numbers.{top_scale}
use Rattle.rules.specs.Lists.{BallLists, ball_lists, centres_of, margins_of}
use Rattle.formulas.specs.Readings.{BallReadings}
use Rattle.formulas.specs.Formula.{Formula}
use Rattle.formulas.specs.Kinds.{ball_kind}
use Rattle.formulas.specs.Job.{Result, job, work_of, outputs_of, said, lent}
use Rattle.formulas.proofs.Lawful.{ball_lawful}
use Rattle.formulas.proofs.Jobs.{does}
use Rattle.formulas.proofs.Legal.{outputs_legal}
use Rattle.packed.specs.Meaning.{formula, meant}
use Rattle.packed.proofs.WellFormed.{accepted_well_formed}
use Rattle.packed.proofs.Formed.{meant_is}
use Rattle.doubles.proofs.Exact.{double_means}
use Rattle.charts.specs.Charts.{ChartLists, ChartLent, chart_room, chart_job}
use Rattle.charts.proofs.Charting.{answers_done}
use Rattle.chart_door.specs.ChartDoors.{ChartDoor}
use Rattle.replies.specs.declared.MarginsReply.{MarginsReply}
use Rattle.replies.specs.Doors.{margins_reply, Door}
use Rattle.replies.proofs.Telling.{door_kept}
use Rattle.assurances.specs.OnChart.{MeansBall, OnChart}
use Rattle.assurances.proofs.Exactly.{done_encloses}

-- a legal ball's doubles mean it
means_ball : {F : ℕ} → F ≤ top_scale → (b : Ball) → ball_kind.Legal b → MeansBall F b
means_ball {F} f b l =
    record { centre = double_means F b.centre f (omega (arith, l)); margin = double_means F (pos b.margin) f (omega (arith, l)) }

-- whole numbers in lists as long as the chart's, for what the ball job says of lists as long
abbrev blank : ChartLists → BallLists
blank l = ball_lists (map (λ (x : Float). pos 0) l.centres) (map (λ (x : Float). 0) l.margins)

abbrev written : List Ball → BallLists → BallLists
written vs l = ball_lists (over (centres_of vs) l.centres) (over (margins_of vs) l.margins)

blank_room : (l : ChartLists) → ball_kind.room (blank l) ≡ chart_room l
blank_room l = ap₂ least (length-map l.centres _) (length-map l.margins _)

pub honest_chart : {s : List ℕ} {given : BallReadings} {old new : ChartLent} {r : MarginsReply} → ChartDoor s given old new r → r.refusal ≡ 0
    → OnChart s given old.chart new.chart r.outputs
honest_chart {s} {given} {old} {new} {r} d z =
    let J = chart_job s given old in
    let same : job ball_kind (formula s) given (ball_kind.room old.work) (ball_kind.room (blank old.chart)) ≡ J =
    ap (job ball_kind (formula s) given (ball_kind.room old.work)) (blank_room old.chart) in
    let door : Door ball_kind (formula s) given (lent ball_kind old.work (blank old.chart))
    (lent ball_kind new.work (written (outputs_of (job ball_kind (formula s) given (ball_kind.room old.work) (ball_kind.room (blank old.chart)))) (blank old.chart))) r =
    record {
      tells = d.tells ∙ ap (λ j. margins_reply (said j)) (sym same);
      works = subst (λ (j : Result Ball). ball_kind.Holds (work_of j) old.work new.work) (sym same) d.works;
      gives = record { centres_hold = refl; margins_hold = refl };
    } in
    let k = door_kept ball_lawful s door z in
    let e = answers_done J (k.says ∙ ap said same) in
    let a = does ball_kind (formula s) given (ball_kind.room old.work) (chart_room old.chart) e.0 in
    let well = accepted_well_formed s a.started.means in
    let small : (meant s).header.scale ≤ top_scale = subst (λ (f : Formula). f.header.scale ≤ top_scale) (sym (meant_is s a.started.means)) well.limits.scale_small in
    record {
      balls = outputs_of J;
      as_many = e.1;
      drawn = d.draws;
      exact = all_so (means_ball small) (outputs_legal ball_lawful (formula s) given (ball_kind.room old.work) (chart_room old.chart) a well);
      encloses = done_encloses s given (ball_kind.room old.work) (chart_room old.chart) e.0;
    }
