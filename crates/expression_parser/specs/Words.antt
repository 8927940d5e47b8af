-- Instructions kept in a list of numbers, one for each, as far as the list goes.
use Rattle.std.specs.Prelude.{◌≡◌, List, ℕ, ◌+◌, ◌*◌, ◌^◌, ◌≤◌, ◌<◌, nat_abs, length, get_or}
use Rattle.formulas.specs.declared.Instruction.{Instruction}
use Rattle.formulas.specs.declared.Instruction.TheVariants.{Constant, Negate, Add, Subtract, Multiply, Coefficient, Reciprocal}
use Rattle.expression_parser.specs.declared.Sign.{Sign}
use Rattle.expression_parser.specs.declared.Sign.TheVariants as sign
use Rattle.expression_parser.specs.declared.Reached.{Reached}

-- the code in the low three bits, then a constant from 0 on, or the operands, ten bits each; a coefficient's margin is 1
abbrev pub operands_word : ℕ → ℕ → ℕ → ℕ
operands_word code i j = 8 * (i + 1024 * j) + code

abbrev pub word_of : Instruction → ℕ
word_of (Constant c) = operands_word 0 (nat_abs c) 0
word_of (Negate i) = operands_word 1 i 0
word_of (Add i j) = operands_word 2 i j
word_of (Subtract i j) = operands_word 3 i j
word_of (Multiply i j) = operands_word 4 i j
word_of (Coefficient c r) = operands_word 5 (nat_abs c) 0
word_of (Reciprocal i) = operands_word 6 i 0

pub record WordFits (i : Instruction) : Type 0 where
  pub fits : word_of i < 2 ^ 64

-- a sign's instruction
abbrev pub joins : Sign → ℕ → ℕ → Instruction
joins sign.Times i j = Multiply i j
joins sign.Plus i j = Add i j
joins sign.Minus i j = Subtract i j

-- the first of these instructions stand in the list, as many as it has places
pub record Keeps (program : List Instruction) (words : List ℕ) : Type 0 where
  pub each : (k : ℕ) → k < length program → k < length words → get_or words k 0 ≡ word_of (get_or program k (Negate 0))

-- the operands are below n, or the number is small
abbrev pub Small : ℕ → Instruction → Type 0
Small n (Constant c) = nat_abs c < 2 ^ 60
Small n (Negate i) = i < n
Small n (Add i j) = (i < n) × (j < n)
Small n (Subtract i j) = (i < n) × (j < n)
Small n (Multiply i j) = (i < n) × (j < n)
Small n (Coefficient c r) = nat_abs c < 2 ^ 60
Small n (Reciprocal i) = i < n

-- an instruction may be kept behind those so far
pub record Keepable (words m : ℕ) (i : Instruction) (so_far : Reached) : Type 0 where
  pub words_few : words ≤ 512
  pub inputs_few : m ≤ 16
  pub small : Small (m + so_far.count) i
  pub counted : so_far.count ≤ so_far.at
  pub near : so_far.at < 2 ^ 63

abbrev pub one_more : Reached → Reached
one_more so_far = record so_far { count = so_far.count + 1 }

-- one word was put at a place, where there is one
pub record Puts (k word : ℕ) (old new : List ℕ) : Type 0 where
  pub long : length new ≡ length old
  pub here : k < length old → get_or new k 0 ≡ word
  pub elsewhere : (i : ℕ) → (i ≡ k → ⊥) → get_or new i 0 ≡ get_or old i 0
