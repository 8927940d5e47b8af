-- The packer's figures: one table, one claim. Assumes nothing.
use mathlib.Core.Path.{◌≡◌, refl}
use mathlib.Core.List.{map}
use Rattle.bits.specs.Bits.{to_bits, number}
use Rattle.packed.specs.Items.{twos_complement}
use Rattle.writing.specs.Bytes.{bytes_of}
use Rattle.packing.specs.Slots.{raw_slots, fields_of, packed_bytes}
use Rattle.packing.specs.Packing.{pack, pack_into}
use Rattle.packing.specs.Examples.{PackExample, pack_examples}

pub examples_hold :
    map (λ (e : PackExample). pack_into e.room e.given) pack_examples
    ≡ map (λ (e : PackExample). e.must) pack_examples
unfolding to_bits number twos_complement raw_slots fields_of bytes_of packed_bytes pack pack_into
examples_hold = refl
