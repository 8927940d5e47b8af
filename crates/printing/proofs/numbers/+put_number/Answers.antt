-- The digits of a number: those of a tenth, and the last one. Assumes nothing.
use Rattle.std.proofs.Common.{rules}
use Rattle.printing.proofs.Digits.{wrote_small, wrote_large, tenth_room}
use Rattle.printing.proofs.numbers.+put_number.Goals as goal

pub returns-then-n-lt10 : goal.returns-then-n-lt10
returns-then-n-lt10 t c = search wrote_small

pub put-requires-2 : goal.put-requires-2
put-requires-2 t c = search (tenth_room, rules)

pub returns : goal.returns
returns t c = search (wrote_large, rules)
