-- The doubles of the first k balls are written.
use Rattle.rules.specs.Lists.{ball_lists}
use Rattle.charts.specs.Charts.{chart_lists}
use Rattle.charts.proofs.Drawing.{Drawn}
use Rattle.charts.proofs.draw.Given as goal

abbrev pub invariant-loop-k : goal.invariant-loop-k
invariant-loop-k l =
    Drawn l.scale l.count (ball_lists l.centres l.margins) (chart_lists l.initial.chart_centres l.initial.chart_margins)
    (chart_lists l.chart_centres l.chart_margins) l.k
