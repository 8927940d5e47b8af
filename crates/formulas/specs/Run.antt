-- Carrying out a formula's instructions one after another. "The walk stops at the first instruction that is refused."
use Rattle.std.specs.Prelude.{List, [], ◌∷◌, ◌++◌, ℕ, ◌-◌, length, get_or}
use Rattle.rules.specs.Operation.{Operation, constant, negate, add, subtract, multiply, coefficient, reciprocal}
use Rattle.refusals.specs.Answer.{Answer, value, refused}
use Rattle.refusals.specs.Said.{Said, answered, refuses}
use Rattle.formulas.specs.declared.Instruction.{Instruction}
use Rattle.formulas.specs.declared.Instruction.TheVariants.{Constant, Negate, Add}
use Rattle.formulas.specs.declared.Instruction.TheVariants.{Subtract, Multiply, Coefficient, Reciprocal}

-- an instruction with the values that its operands name; d stands where none is named
abbrev pub with_values : {A : Type 0} → A → List A → Instruction → Operation A
with_values d vs (Constant c) = constant c
with_values d vs (Negate i) = negate (get_or vs i d)
with_values d vs (Add i j) = add (get_or vs i d) (get_or vs j d)
with_values d vs (Subtract i j) = subtract (get_or vs i d) (get_or vs j d)
with_values d vs (Multiply i j) = multiply (get_or vs i d) (get_or vs j d)
with_values d vs (Coefficient c r) = coefficient c r
with_values d vs (Reciprocal i) = reciprocal (get_or vs i d)

-- how a walk ended: with all values, or with a refusal's number and the values made before it
pub data Walk (A : Type 0) : Type 0 where
  finished : List A → Walk A
  stopped : ℕ → List A → Walk A

-- "instruction k makes value m+k": each value goes behind those before it
abbrev pub onward : {A : Type 0} → List A → (List A → Walk A) → Answer A → Walk A
onward vs next (value v) = next (vs ++ v ∷ [])
onward vs next (refused n) = stopped n vs

abbrev pub run : {A : Type 0} → (Operation A → Answer A) → A → List Instruction → List A → Walk A
run rule d [] vs = finished vs
run rule d (i ∷ is) vs = onward vs (λ ws. run rule d is ws) (rule (with_values d vs i))

-- the values that a walk made, and what it says of m inputs: all done, or the refusal and the instruction
abbrev pub made_by : {A : Type 0} → Walk A → List A
made_by (finished vs) = vs
made_by (stopped n vs) = vs

abbrev pub walk_end : {A : Type 0} → ℕ → Walk A → Said
walk_end m (finished vs) = answered 0
walk_end m (stopped n vs) = refuses n (length vs - m)
