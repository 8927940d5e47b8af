-- A number below zero has a minus. Assumes nothing.
use Rattle.printing.proofs.Digits.{wrote_minus, wrote_bare}
use Rattle.printing.proofs.numbers.put_signed.Goals as goal

pub returns-then-x-lt0 : goal.returns-then-x-lt0
returns-then-x-lt0 c = search wrote_minus

pub returns-else-x-lt0 : goal.returns-else-x-lt0
returns-else-x-lt0 c = search wrote_bare
