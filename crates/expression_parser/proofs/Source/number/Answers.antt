-- What was read is kept as one instruction, or no digit stands where one must.
use Rattle.std.proofs.lemmas.Result.{err_from_is_err_and}
use Rattle.expression_parser.proofs.Numbered.{number_none, exact_made, rounded_made}
use Rattle.expression_parser.proofs.Source.number.Goals as goal
use Rattle.expression_parser.proofs.Source.number.Goals.{then-units, else-units}

pub returns-in_err-read : goal.returns-in_err-read
returns-in_err-read c =
    let p = err_from_is_err_and c.from_residual.result c.from_residual.ensures.1 in
    rw (p.1, p.2) (number_none c.requires.0 c.requires.1 c.read.ensures c.in_err-read.ensures)

pub returns : goal.returns
returns c =
    elim c.if-units.branch [
      | then-units w ↦ exact_made c.requires.0 c.requires.1 c.read.ensures c.in_ok-read.ensures c.units_of-units.ensures c.keep.ensures w.if-units.true w.i-is
      | else-units w ↦ rounded_made c.requires.0 c.requires.1 c.read.ensures c.in_ok-read.ensures c.units_of-units.ensures c.keep.ensures w.if-units.false w.i-is
    ]
