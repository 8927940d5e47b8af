-- Requests a, b and e: each refusal of packing and of reading back, "given exactly when".
use Rattle.std.specs.Prelude.{◌≡◌, List, [], ◌∷◌, ◌++◌, ◌⊎◌, ℕ, ◌<◌, ℤ, pos, negsuc, nat_abs, length}
use Rattle.refusals.specs.Answer.{value}
use Rattle.rules.specs.Numbers.{M}
use Rattle.formulas.specs.Formula.{Formula}
use Rattle.formulas.specs.GivenInRuns.{OneUnder}
use Rattle.packed.specs.Items.{FieldKind, scale, inputs, instructions, outputs, code, constant, operand, centre}
use Rattle.packed.specs.Items.{margin, small_scale}
use Rattle.packed.specs.Meaning.{formula}
use Rattle.packed.specs.Given.{Wrong, Given}
use Rattle.packing.specs.Raw.{RawFormula, Parts}
use Rattle.packing.specs.Slots.{Slot, slot, raw_slots, packed_bytes}
use Rattle.packing.specs.Packing.{Sort, fixed, natural, signed, sort, slots_tested, pack}

-- below 0, or wrong as the reader says; a constant or a centre that is −2^31 or that 32 bits can't hold has a size over
-- M
abbrev pub UnfitAs : Sort → FieldKind → ℤ → Type 0
UnfitAs fixed k z = ⊥
UnfitAs natural k (pos n) = Wrong k n
UnfitAs natural k (negsuc n) = Unit {0}
UnfitAs signed k z = M < nat_abs z

abbrev pub Unfit : FieldKind → ℤ → Type 0
Unfit k = UnfitAs (sort k) k

-- "in the order in which the fields would be written": the packer comes to a field of kind k, every earlier one being
-- fit, and this one is not
pub record MeetsUnfit (r : RawFormula) (k : FieldKind) : Type 0 where
  pub earlier : List Slot
  pub given : ℤ
  pub later : List Slot
  pub in_order : raw_slots r ≡ earlier ++ slot k given ∷ later
  pub fit_so_far : slots_tested earlier ≡ value tt
  pub unfit : Unfit k given

-- "10 when the buffer is too short": the packed bytes are more than its places
pub record TooLong (room : ℕ) (r : RawFormula) : Type 0 where
  pub accepted : Formula
  pub packs : pack r ≡ value accepted
  pub longer : room < length (packed_bytes accepted)

pub data GivenInPacking (room : ℕ) (r : RawFormula) : ℕ → Type 0 where
  three : MeetsUnfit r scale → GivenInPacking room r 3
  four : MeetsUnfit r inputs ⊎ (MeetsUnfit r instructions ⊎ MeetsUnfit r outputs) → GivenInPacking room r 4
  five : MeetsUnfit r code → GivenInPacking room r 5
  six : (v : ℕ) → MeetsUnfit r (operand v) → GivenInPacking room r 6
  seven : MeetsUnfit r constant ⊎ MeetsUnfit r centre → GivenInPacking room r 7
  seven_margin : (c : ℕ) → MeetsUnfit r (margin c) → GivenInPacking room r 7
  ten : TooLong room r → GivenInPacking room r 10
  sixteen : (F : ℕ) → MeetsUnfit r (small_scale F) → GivenInPacking room r 16

-- "10 for a short list": one has fewer places than there are instructions, or than there are outputs
pub record TooShort (lent : Parts) (s : List ℕ) : Type 0 where
  pub accepted : Formula
  pub reads : formula s ≡ value accepted
  pub shorter :
      OneUnder accepted.header.instructions
      (length lent.codes ∷ length lent.firsts ∷ length lent.seconds ∷ [])
      ⊎ OneUnder accepted.header.outputs (length lent.outputs ∷ [])

-- "reading refusals, then 10"
pub data GivenInUnpacking (lent : Parts) (s : List ℕ) : ℕ → Type 0 where
  reading : {n : ℕ} → Given s n → GivenInUnpacking lent s n
  no_room : TooShort lent s → GivenInUnpacking lent s 10
