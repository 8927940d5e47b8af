-- The first line and the lines of the outputs that a run left. Assumes nothing.
use Rattle.std.proofs.Common.{rules}
use Rattle.formulas.proofs.Lawful.{matryoshka_lawful}
use Rattle.telling.proofs.Headline.{outputs_room}
use Rattle.telling.proofs.Told.{count_few, count_fits, wrote_kept, least_thrice}
use Rattle.admit_text.proofs.answer.Goals as goal

pub put_matryoshki-requires : goal.put_matryoshki-requires
put_matryoshki-requires c = (search count_few, search count_fits, search count_fits, search count_fits, search outputs_room)

pub returns : goal.returns
returns c = search (wrote_kept matryoshka_lawful, least_thrice, rules)
