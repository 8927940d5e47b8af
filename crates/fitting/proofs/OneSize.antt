-- The packer's tests allow one outcome. Assumes nothing.
use mathlib.Core.Path.{◌≡◌, sym, ◌∙◌}
use Rattle.refusals.proofs.OneReply.{one_bare}
use Rattle.packing.specs.Raw.{RawFormula}
use Rattle.fitting.specs.Sizes.{Size, FormulaSizes}

pub size_one_outcome : {given : RawFormula} (r t : Size) → FormulaSizes given r → FormulaSizes given t → r ≡ t
size_one_outcome r t a b = one_bare r t (a.is.answers ∙ sym b.is.answers)
