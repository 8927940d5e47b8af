-- Each ball is there, and so is the place of its doubles.
use Rattle.charts.proofs.Drawing.{centres_there, margins_there, centre_small, margin_small, centres_inside, margins_inside, drawn_one, drawn_all}
use Rattle.charts.proofs.draw.Goals as goal

pub bounds-centres-k : goal.bounds-centres-k
bounds-centres-k c = search centres_there

pub bounds-margins-k : goal.bounds-margins-k
bounds-margins-k c = search margins_there

pub pair_of-p-requires : goal.pair_of-p-requires
pair_of-p-requires c = search (centre_small, margin_small)

pub bounds-chart_centres-k : goal.bounds-chart_centres-k
bounds-chart_centres-k c = search centres_inside

pub bounds-chart_margins-k : goal.bounds-chart_margins-k
bounds-chart_margins-k c = search margins_inside

pub loop-k-preserved : goal.loop-k-preserved
loop-k-preserved c = search drawn_one

pub returns : goal.returns
returns c = search drawn_all
