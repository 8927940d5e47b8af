-- The number, of which a tenth is less. Assumes nothing.
use Rattle.printing.proofs.numbers.+put_number.Given as goal

abbrev pub decreases-put_number : goal.decreases-put_number
decreases-put_number l = l.n
