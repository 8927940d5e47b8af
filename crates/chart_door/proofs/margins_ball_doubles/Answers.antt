-- So many outputs at the most are told.
use borrow.Author.Rules.{rules}
use Rattle.chart_door.proofs.ChartTelling.{charted_few}
use Rattle.chart_door.proofs.margins_ball_doubles.Goals as goal

pub replied-requires : goal.replied-requires
replied-requires c = search (charted_few, rules)
