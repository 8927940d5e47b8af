-- The digit behind the point is read on, and the number so far is small.
use native.Mathlib.Omega.{arith}
use Rattle.numerals.proofs.Reading.{so_far_brief, digit_added, point_so_far}
use Rattle.numerals.proofs.pointed.Goals as goal

pub overflow_mul-count : goal.overflow_mul-count
overflow_mul-count c = omega (arith, so_far_brief c.requires)

pub overflow_add-count : goal.overflow_add-count
overflow_add-count c = search (digit_added, so_far_brief, c.in_ok-d.ensures)

pub fraction-requires : goal.fraction-requires
fraction-requires c = search (point_so_far, c.in_ok-d.ensures)
