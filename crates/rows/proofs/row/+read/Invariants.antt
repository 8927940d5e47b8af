-- How many numbers are left. Assumes nothing.
use Rattle.rows.proofs.row.+read.Given as goal

abbrev pub decreases-read : goal.decreases-read
decreases-read l = l.k
