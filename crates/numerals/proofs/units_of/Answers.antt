-- The count and its test, as the machine makes them.
use native.Mathlib.Omega.{arith}
use Rattle.numerals.proofs.Rounding.{operands, count_is, exactly, count_small}
use Rattle.numerals.proofs.units_of.Goals as goal

pub nonzero_div-count : goal.nonzero_div-count
nonzero_div-count c = omega (arith, operands c.requires c.power_of_ten-ten.ensures)

pub returns : goal.returns
returns c = search (count_is, exactly, count_small)
