-- Document 01, "The packed formula", without the packing: a formula, and what every accepted one keeps to.
use Rattle.std.specs.Prelude.{◌≡◌, List, ℕ, ◌+◌, ◌≤◌, ◌<◌, length}
use Rattle.lists.specs.Each.{Each}
use Rattle.rules.specs.Numbers.{top_scale}
use Rattle.rules.specs.Values.{Allowed, IsBall}
use Rattle.rules.specs.Reciprocals.{top_reciprocal_scale}
use Rattle.rules.specs.Balls.{ball}
use Rattle.formulas.specs.declared.Header.{Header}
use Rattle.formulas.specs.declared.Instruction.{Instruction}
use Rattle.formulas.specs.declared.Instruction.TheVariants.{Constant, Negate, Add}
use Rattle.formulas.specs.declared.Instruction.TheVariants.{Subtract, Multiply, Coefficient, Reciprocal}

pub record Formula : Type 0 where
  pub header : Header
  pub program : List Instruction
  pub results : List ℕ

-- m+l, the number of values
abbrev pub places : Header → ℕ
places h = h.inputs + h.instructions

-- "The scale F is 0 to 30", "m .. (0 to 16), l .. (0 to 512), n .. (1 to 16)"
pub record InLimits (h : Header) : Type 0 where
  pub scale_small : h.scale ≤ top_scale
  pub inputs_few : h.inputs ≤ 16
  pub instructions_few : h.instructions ≤ 512
  pub some_output : 1 ≤ h.outputs
  pub outputs_few : h.outputs ≤ 16

-- an instruction that makes value v "may name only smaller values"; its constant is allowed, with its margin a ball; a
-- reciprocal is "for scales 0 to 16"
abbrev pub Smaller : ℕ → ℕ → Instruction → Type 0
Smaller F v (Constant c) = Allowed c
Smaller F v (Negate i) = i < v
Smaller F v (Add i j) = (i < v) × (j < v)
Smaller F v (Subtract i j) = (i < v) × (j < v)
Smaller F v (Multiply i j) = (i < v) × (j < v)
Smaller F v (Coefficient c r) = IsBall (ball c r)
Smaller F v (Reciprocal i) = (F ≤ top_reciprocal_scale) × (i < v)

pub record WellFormed (f : Formula) : Type 0 where
  pub limits : InLimits f.header
  pub program_long : length f.program ≡ f.header.instructions
  pub operands_smaller : Each (Smaller f.header.scale) f.header.inputs f.program
  pub results_long : length f.results ≡ f.header.outputs
  pub results_below : Each (λ j o. o < places f.header) 0 f.results
