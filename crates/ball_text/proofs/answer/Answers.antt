-- The first line and the lines of the outputs that a run left. Assumes nothing.
use Rattle.std.proofs.Common.{rules}
use Rattle.formulas.proofs.Lawful.{ball_lawful}
use Rattle.telling.proofs.Headline.{outputs_room}
use Rattle.telling.proofs.Told.{count_few, count_fits, wrote_kept, least_same}
use Rattle.ball_text.proofs.answer.Goals as goal

pub put_balls-requires : goal.put_balls-requires
put_balls-requires c = (search count_few, search count_fits, search count_fits, search outputs_room)

pub returns : goal.returns
returns c = search (wrote_kept ball_lawful, least_same, rules)
