-- Document 01, "Numbered replies and their order", the column "Given exactly when", for refusals 1 to 8; and request
-- e's words for 16.
use Rattle.std.specs.Prelude.{◌≡◌, List, ◌⊎◌, ℕ, ◌+◌, ◌%◌, ◌^◌, ◌≤◌, ◌<◌, nat_abs, length, get_or, take}
use Rattle.rules.specs.Numbers.{M}
use Rattle.refusals.specs.Answer.{value}
use Rattle.bits.specs.Bits.{bits, number}
use Rattle.bits.specs.Reader.{Read}
use Rattle.packed.specs.Items.{FieldKind, version, scale, inputs, instructions}
use Rattle.packed.specs.Items.{outputs, code, constant, operand, centre, margin, small_scale}
use Rattle.packed.specs.Items.{twos_complement, width, Form, ask, entry, read}
use Rattle.formulas.specs.Formula.{Formula}
use Rattle.packed.specs.Meaning.{whole}

-- "in file order, field by field": the reader comes to a field of kind k with the bits cs before it, every earlier
-- field being there and permitted
pub data Comes {A : Type 0} : Form A → List ℕ → FieldKind → List ℕ → Type 0 where
  here : {k : FieldKind} {f : ℕ → Form A} {bs : List ℕ} → Comes (ask k f) bs k bs
  later : {k j : FieldKind} {f : ℕ → Form A} {bs cs : List ℕ} {x : Read ℕ} → entry k bs ≡ value x
      → Comes (f x.got) x.left j cs → Comes (ask k f) bs j cs

-- "the bytes end inside a field"
abbrev pub EndsInside : FieldKind → List ℕ → Type 0
EndsInside k cs = length cs < width k

-- "the version isn't 1" · "the scale is over 30" · "m, l or n is outside its limits" · "the code is .. 7" · "a
-- constant is −2^31" · "an operand or output names no permitted value" · "a reach over M", which that of −2^31 is with
-- every margin, so that no centre is wrong by itself · "the scale is over 16"
abbrev pub Wrong : FieldKind → ℕ → Type 0
Wrong version n = n ≡ 1 → ⊥
Wrong scale n = 30 < n
Wrong inputs n = 16 < n
Wrong instructions n = 512 < n
Wrong outputs n = (n < 1) ⊎ (16 < n)
Wrong code n = 7 ≤ n
Wrong constant n = n ≡ 2 ^ 31
Wrong (operand v) n = v ≤ n
Wrong centre n = ⊥
Wrong (margin c) n = M < nat_abs (twos_complement c) + n
Wrong (small_scale F) n = 16 < F

-- the field is there, and its number is wrong
abbrev pub HoldsWrong : FieldKind → List ℕ → Type 0
HoldsWrong k cs = (width k ≤ length cs) × Wrong k (number (take (width k) cs))

-- the reader of the bytes s comes to a field of kind k of which P holds
pub record Meets (s : List ℕ) (k : FieldKind) (P : FieldKind → List ℕ → Type 0) : Type 0 where
  pub there : List ℕ
  pub comes : Comes whole (bits s) k there
  pub holds : P k there

-- "a padding bit is set or a byte follows", of the bits after the last field; those that make no whole byte come first
-- and are the last byte's
pub data NotPadding (bs : List ℕ) : Type 0 where
  set_bit : (i : ℕ) → i < length bs % 8 → get_or bs i 0 ≡ 1 → NotPadding bs
  byte_follows : 8 ≤ length bs → NotPadding bs

-- every field was there and permitted
pub record BadlyPadded (s : List ℕ) : Type 0 where
  pub all : Read Formula
  pub reads : read whole (bits s) ≡ value all
  pub not_padding : NotPadding all.left

-- each number's condition
pub data Given (s : List ℕ) : ℕ → Type 0 where
  one : (k : FieldKind) → Meets s k EndsInside → Given s 1
  two : Meets s version HoldsWrong → Given s 2
  three : Meets s scale HoldsWrong → Given s 3
  four : Meets s inputs HoldsWrong ⊎ (Meets s instructions HoldsWrong ⊎ Meets s outputs HoldsWrong) → Given s 4
  five : Meets s code HoldsWrong → Given s 5
  six : (v : ℕ) → Meets s (operand v) HoldsWrong → Given s 6
  seven : Meets s constant HoldsWrong → Given s 7
  seven_margin : (c : ℕ) → Meets s (margin c) HoldsWrong → Given s 7
  eight : BadlyPadded s → Given s 8
  sixteen : (F : ℕ) → Meets s (small_scale F) HoldsWrong → Given s 16
