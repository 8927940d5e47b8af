-- What the packer and the way back say and leave: the reply, and every place of every lent list.
use Rattle.std.specs.Prelude.{◌≡◌, List, [], ℕ, length}
use Rattle.lists.specs.Over.{over}
use Rattle.refusals.specs.Said.{Reply}
use Rattle.refusals.specs.Answer.{Answer, value, refused, then}
use Rattle.refusals.specs.Said.{Said, answered, refuses, reply_said}
use Rattle.formulas.specs.declared.Header.{Header}
use Rattle.packing.specs.Raw.{RawFormula, Parts, parts, parts_of, formula_of}
use Rattle.packing.specs.Packing.{pack_into}
use Rattle.packing.specs.Unpacking.{unpack_into}

-- "the reply is the number of bytes or the refusal"
abbrev pub packed_said : Answer (List ℕ) → Said
packed_said (value s) = answered (length s)
packed_said (refused n) = refuses n 0

-- "A refusal writes nothing."
abbrev pub packed_front : Answer (List ℕ) → List ℕ
packed_front (value s) = s
packed_front (refused n) = []

-- "Success fills exactly the bytes of the formula; later places keep what they held."
pub record Packs (given : RawFormula) (old new : List ℕ) (r : Reply) : Type 0 where
  pub says : reply_said r ≡ packed_said (pack_into (length old) given)
  pub writes : new ≡ over (packed_front (pack_into (length old) given)) old

-- "bytes, to F, m, l and n and the instructions and outputs in lent lists"
abbrev pub unpacked_header : Answer RawFormula → Answer Header
unpacked_header a = then a (λ r. value (formula_of r).header)

abbrev pub unpacked_front : Answer RawFormula → Parts
unpacked_front (value r) = parts_of r
unpacked_front (refused n) = parts [] [] [] []

pub record Unpacks (s : List ℕ) (old new : Parts) (a : Answer Header) : Type 0 where
  pub says : a ≡ unpacked_header (unpack_into old s)
  pub writes_codes : new.codes ≡ over (unpacked_front (unpack_into old s)).codes old.codes
  pub writes_firsts : new.firsts ≡ over (unpacked_front (unpack_into old s)).firsts old.firsts
  pub writes_seconds : new.seconds ≡ over (unpacked_front (unpack_into old s)).seconds old.seconds
  pub writes_outputs : new.outputs ≡ over (unpacked_front (unpack_into old s)).outputs old.outputs
