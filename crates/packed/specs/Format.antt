-- Document 01, "The packed formula": its header, its instructions, its outputs, its padding.
use Rattle.std.specs.Prelude.{Bool, ◌&&◌, List, [], ◌∷◌, ℕ, zero, suc, ◌+◌, ltb, eqb, length}
use Rattle.bits.specs.Bits.{number}
use Rattle.formulas.specs.declared.Header.{Header}
use Rattle.formulas.specs.declared.Instruction.{Instruction}
use Rattle.formulas.specs.declared.Instruction.TheVariants.{Constant, Negate, Add, Subtract}
use Rattle.formulas.specs.declared.Instruction.TheVariants.{Multiply, Coefficient, Reciprocal}
use Rattle.packed.specs.Items.{version, scale, inputs, instructions, outputs}
use Rattle.packed.specs.Items.{code, constant, operand, centre, margin, small_scale}
use Rattle.packed.specs.Items.{twos_complement, Form, done, item, ◌>>=◌, ◌>>◌}

-- "Header, 32 bits: version .., scale .., inputs m .., instructions l .., outputs n"
unfoldable pub header : Form Header
header = do
  item version
  F ← item scale
  m ← item inputs
  l ← item instructions
  n ← item outputs
  done (record { scale = F; inputs = m; instructions = l; outputs = n })

-- two operands, and what is made of them
abbrev pub two_operands : {A : Type 0} → (ℕ → ℕ → A) → ℕ → Form A
two_operands make v = do
  i ← item (operand v)
  j ← item (operand v)
  done (make i j)

-- "32 bits of centre and 31 of margin"
abbrev pub with_margin : Form Instruction
with_margin = do
  c ← item centre
  r ← item (margin c)
  done (Coefficient (twos_complement c) r)

-- "16 .. right after the code, if the scale is over 16"; then "one operand"
abbrev pub of_one_divided : ℕ → ℕ → Form Instruction
of_one_divided F v = do
  item (small_scale F)
  i ← item (operand v)
  done (Reciprocal i)

-- "then a constant .., or one operand .. (code 1), or two", or (code 5) a centre and a margin, or (code 6) one operand;
-- operands "may name only smaller values" than v, and 6 is the last permitted code
unfoldable pub by_code : ℕ → ℕ → ℕ → Form Instruction
by_code F v zero = do
  c ← item constant
  done (Constant (twos_complement c))
by_code F v (suc zero) = do
  i ← item (operand v)
  done (Negate i)
by_code F v (suc (suc zero)) = two_operands Add v
by_code F v (suc (suc (suc zero))) = two_operands Subtract v
by_code F v (suc (suc (suc (suc zero)))) = two_operands Multiply v
by_code F v (suc (suc (suc (suc (suc zero))))) = with_margin
by_code F v (suc (suc (suc (suc (suc (suc k)))))) = of_one_divided F v

-- "Each instruction: code 3; then .."; it makes value v of a formula of scale F
unfoldable pub instruction : ℕ → ℕ → Form Instruction
instruction F v = do
  c ← item code
  by_code F v c

-- so many bits it takes: "code 3", then "a constant of 32 bits", an "operand of 10 bits" each, or "32 bits of centre
-- and 31 of margin"
abbrev pub wide : Instruction → ℕ
wide (Constant c) = 3 + 32
wide (Negate i) = 3 + 10
wide (Add i j) = 3 + 10 + 10
wide (Subtract i j) = 3 + 10 + 10
wide (Multiply i j) = 3 + 10 + 10
wide (Coefficient c r) = 3 + 32 + 31
wide (Reciprocal i) = 3 + 10

-- no instruction takes more
abbrev pub widest : ℕ
widest = 3 + 32 + 31

abbrev pub all_wide : List Instruction → ℕ
all_wide [] = 0
all_wide (i ∷ is) = wide i + all_wide is

-- so many, one after another, the first with number v
unfoldable pub several : {A : Type 0} → (ℕ → Form A) → ℕ → ℕ → Form (List A)
several f zero v = done []
several f (suc k) v = do
  a ← f v
  more ← several f k (suc v)
  done (a ∷ more)

-- "instruction k, from 0, makes value m+k"
abbrev pub program : ℕ → ℕ → ℕ → Form (List Instruction)
program F l m = several (instruction F) l m

-- "Then n output fields of 10 bits, each naming a value below m+l."
abbrev pub results : ℕ → ℕ → Form (List ℕ)
results n v = several (λ j. item (operand v)) n 0

-- "Bits left in the last byte are zero; no byte follows."
unfoldable pub is_padding : List ℕ → Bool
is_padding bs = ltb (length bs) 8 && eqb (number bs) 0
