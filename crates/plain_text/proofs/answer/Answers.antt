-- The first line and the lines of the outputs that a run left. Assumes nothing.
use Rattle.std.proofs.Common.{rules}
use Rattle.formulas.proofs.Lawful.{plain_lawful}
use Rattle.telling.proofs.Headline.{outputs_room}
use Rattle.telling.proofs.Told.{count_few, count_fits, wrote_kept}
use Rattle.plain_text.proofs.answer.Goals as goal

pub put_plain-requires : goal.put_plain-requires
put_plain-requires c = (search count_few, search count_fits, search outputs_room)

pub returns : goal.returns
returns c = search (wrote_kept plain_lawful, rules)
