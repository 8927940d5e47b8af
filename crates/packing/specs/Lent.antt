-- A formula as the caller's lists hold it.
use Rattle.packing.specs.declared.Handed.TheInside.{Inside}
use Rattle.packing.specs.Raw.{RawFormula, parts, handed}

abbrev pub lent : Inside → RawFormula
lent h = handed h.scale h.inputs (parts h.codes.now h.firsts.now h.seconds.now h.outputs.now)
