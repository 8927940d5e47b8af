-- Request j, the slopes: "A slope is in units of 1/Q." A value has one for each input, a list in the inputs' order.
use Rattle.std.specs.Prelude.{List, [], ◌∷◌, map, ℕ, zero, suc, ◌+◌, ◌-◌, ◌*◌, max, nat_abs, get_or, replicate}
use Rattle.lists.specs.Joined.{joined}
use Rattle.refusals.specs.Answer.{Answer}
use Rattle.rules.specs.declared.Ball.{Ball}
use Rattle.rules.specs.Numbers.{Q, ceiling, Up}
use Rattle.rules.specs.Reciprocals.{T}
use Rattle.rules.specs.Values.{ball_reach}
use Rattle.rules.specs.Operation.{Operation, constant, negate, add, subtract, multiply, coefficient, reciprocal, each}
use Rattle.rules.specs.Steps.{within_reach}
use Rattle.rules.specs.Lists.{no_ball}
use Rattle.formulas.specs.declared.Instruction.{Instruction}
use Rattle.formulas.specs.declared.Instruction.TheVariants.{Constant, Negate, Add}
use Rattle.formulas.specs.declared.Instruction.TheVariants.{Subtract, Multiply, Coefficient, Reciprocal}
use Rattle.formulas.specs.Run.{Walk, finished, onward}

-- "An input has slope Q on itself, 0 on others": input i of m
abbrev pub input_slopes : ℕ → ℕ → ℕ → List ℕ
input_slopes F zero i = []
input_slopes F (suc m) zero = Q F ∷ replicate m 0
input_slopes F (suc m) (suc i) = 0 ∷ input_slopes F m i

-- those of k inputs from input i on
abbrev pub inputs_from : ℕ → ℕ → ℕ → ℕ → List (List ℕ)
inputs_from F m i zero = []
inputs_from F m i (suc k) = input_slopes F m i ∷ inputs_from F m (suc i) k

abbrev pub all_inputs : ℕ → ℕ → List (List ℕ)
all_inputs F m = inputs_from F m 0 m

-- what an operand brings: its ball in the ball run over (middle, stray), and its slopes
pub record Sloped : Type 0 where
  pub range : Ball
  pub slopes : List ℕ

-- "A product takes reach(X)·L(Y) + reach(Y)·L(X), divided by Q and rounded up."
abbrev pub product_slope : ℕ → ℕ → ℕ → ℕ → ℕ → ℕ
product_slope F x y k l = Up F (x * l + y * k)

-- "w being |c|−r of its operand"
abbrev pub nearness : Ball → ℕ
nearness b = nat_abs b.centre - b.margin

-- "A reciprocal takes T·L divided by w·w, rounded up"
abbrev pub reciprocal_slope : ℕ → ℕ → ℕ → ℕ
reciprocal_slope F w l = ceiling (T F * l) (w * w)

-- "a constant 0; sums and differences add slopes; a negation keeps them"; m is the number of inputs
abbrev pub slopes_result : ℕ → ℕ → Operation Sloped → List ℕ
slopes_result F m (constant c) = replicate m 0
slopes_result F m (negate x) = x.slopes
slopes_result F m (add x y) = joined ◌+◌ x.slopes y.slopes
slopes_result F m (subtract x y) = joined ◌+◌ x.slopes y.slopes
slopes_result F m (multiply x y) =
    joined (product_slope F (ball_reach x.range) (ball_reach y.range)) x.slopes y.slopes
slopes_result F m (coefficient c r) = replicate m 0
slopes_result F m (reciprocal x) = map (reciprocal_slope F (nearness x.range)) x.slopes

abbrev pub largest : List ℕ → ℕ
largest [] = 0
largest (l ∷ ls) = max l (largest ls)

-- "11 at the first slope over M"
abbrev pub slopes_rule : ℕ → ℕ → Operation Sloped → Answer (List ℕ)
slopes_rule F m o = within_reach largest (slopes_result F m o)

-- an instruction with the numbers of the values that it names
abbrev pub named : Instruction → Operation ℕ
named (Constant c) = constant c
named (Negate i) = negate i
named (Add i j) = add i j
named (Subtract i j) = subtract i j
named (Multiply i j) = multiply i j
named (Coefficient c r) = coefficient c r
named (Reciprocal i) = reciprocal i

-- value i, of all balls of the ball run and the slopes so far
abbrev pub sloped : List Ball → List (List ℕ) → ℕ → Sloped
sloped bs ls i = record { range = get_or bs i no_ball; slopes = get_or ls i [] }

-- an instruction with what its operands bring
abbrev pub with_slopes : List Ball → List (List ℕ) → Instruction → Operation Sloped
with_slopes bs ls i = each (sloped bs ls) (named i)

-- "instructions in order": behind the slopes of the values so far, those of each instruction. A list over M is refused
-- whichever of its slopes is, and the place is the instruction's.
abbrev pub slope_run : ℕ → ℕ → List Ball → List Instruction → List (List ℕ) → Walk (List ℕ)
slope_run F m bs [] ls = finished ls
slope_run F m bs (i ∷ is) ls =
    onward ls (λ ks. slope_run F m bs is ks) (slopes_rule F m (with_slopes bs ls i))

-- the same for one input alone: what an operand brings there, and the slope of the result
pub record SlopedAt : Type 0 where
  pub range : Ball
  pub slope : ℕ

abbrev pub one_slope : ℕ → Operation SlopedAt → ℕ
one_slope F (constant c) = 0
one_slope F (negate x) = x.slope
one_slope F (add x y) = x.slope + y.slope
one_slope F (subtract x y) = x.slope + y.slope
one_slope F (multiply x y) = product_slope F (ball_reach x.range) (ball_reach y.range) x.slope y.slope
one_slope F (coefficient c r) = 0
one_slope F (reciprocal x) = reciprocal_slope F (nearness x.range) x.slope

-- value i at input j
abbrev pub sloped_at : List Ball → List (List ℕ) → ℕ → ℕ → SlopedAt
sloped_at bs ls j i = record { range = get_or bs i no_ball; slope = get_or (get_or ls i []) j 0 }

-- all values' slopes at input j
abbrev pub column : ℕ → List (List ℕ) → List ℕ
column j ls = map (λ l. get_or l j 0) ls

-- the slopes at one input, instructions in order: `slope_run` a column at a time
abbrev pub column_rule : ℕ → Operation SlopedAt → Answer ℕ
column_rule F o = within_reach (λ l. l) (one_slope F o)

abbrev pub with_column : List Ball → List ℕ → Instruction → Operation SlopedAt
with_column bs cs i = each (λ v. record { range = get_or bs v no_ball; slope = get_or cs v 0 }) (named i)

abbrev pub column_run : ℕ → List Ball → List Instruction → List ℕ → Walk ℕ
column_run F bs [] cs = finished cs
column_run F bs (i ∷ is) cs = onward cs (λ ks. column_run F bs is ks) (column_rule F (with_column bs cs i))
