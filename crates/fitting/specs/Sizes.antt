-- What the tests answer: how many bits the fields take, or the first refusal.
use Rattle.std.specs.Prelude.{◌≡◌, Bool, true, ◌&&◌, List, ℕ, ◌^◌, ◌≤◌, ℤ, nat_abs, length}
use Rattle.std.specs.declared.result.Result.{Result}
use Rattle.std.specs.declared.result.Result.TheVariants.{Ok, Err}
use Rattle.refusals.specs.declared.Refusal.{Refusal}
use Rattle.refusals.specs.Answer.{Answer, value, then}
use Rattle.refusals.specs.Places.{says_bare}
use Rattle.packed.specs.Items.{centre, margin}
use Rattle.packing.specs.Raw.{RawFormula}
use Rattle.packing.specs.Slots.{Slot, encoded, raw_slots, slots_width}
use Rattle.packing.specs.Packing.{fits, slots_tested}

-- a centre and its margin are both fit
abbrev pub coefficient_fits : ℤ → ℤ → Bool
coefficient_fits c r = fits centre c && fits (margin (encoded c)) r

-- how many bits, or the refusal
abbrev pub Size : Type 0
Size = Result ℕ Refusal

-- so many bits, where every field fits
abbrev pub sized : List Slot → Answer ℕ
sized ss = then (slots_tested ss) (λ u. value (slots_width ss))

pub record Sizes (ss : List Slot) (r : Size) : Type 0 where
  pub answers : says_bare r ≡ sized ss

-- a header that passed: so many inputs, lists as long as one another, instructions and outputs within their limits
pub record Counts (given : RawFormula) : Type 0 where
  pub inputs_few : nat_abs given.inputs ≤ 16
  pub as_long : given.as_long ≡ true
  pub instructions_few : length given.program ≤ 512
  pub outputs_few : length given.results ≤ 16

abbrev pub FewBits : Size → Type 0
FewBits (Ok n) = n ≤ 2 ^ 20
FewBits (Err r) = Unit {0}

-- a whole formula
pub record FormulaSizes (given : RawFormula) (r : Size) : Type 0 where
  pub is : Sizes (raw_slots given) r
  pub few : FewBits r
