-- The slopes of all values in one list, m a value: a row is laid behind those before it, instruction by instruction.
use Rattle.std.specs.Prelude.{◌≡◌, Bool, true, false, List, ℕ, ◌+◌, ◌*◌, ◌≤◌, ◌<◌, leb, ℤ, pos, nat_abs, length, get_or, take, drop}
use Rattle.lists.specs.All.{All}
use Rattle.lists.specs.Joined.{joined}
use Rattle.lists.specs.Over.{over}
use Rattle.lists.specs.Written.{written}
use Rattle.std.specs.declared.result.Result.{Result}
use Rattle.std.specs.declared.result.Result.TheVariants.{Ok, Err}
use Rattle.refusals.specs.declared.Refusal.{Refusal}
use Rattle.refusals.specs.declared.Refusal.TheVariants as refusal
use Rattle.refusals.specs.Answer.{value}
use Rattle.rules.specs.declared.Ball.{Ball}
use Rattle.rules.specs.Numbers.{M, top_scale}
use Rattle.rules.specs.Values.{IsBall}
use Rattle.rules.specs.Balls.{ball, ball_rule}
use Rattle.rules.specs.Lists.{BallLists, no_ball}
use Rattle.formulas.specs.declared.Header.{Header}
use Rattle.formulas.specs.declared.Instruction.{Instruction}
use Rattle.formulas.specs.declared.Instruction.TheVariants.{Reciprocal}
use Rattle.formulas.specs.Formula.{Smaller, places}
use Rattle.formulas.specs.Run.{Walk, finished, run, made_by, walk_end}
use Rattle.formulas.specs.Kinds.{ball_kind}
use Rattle.packed.specs.Meaning.{meant, checked}
use Rattle.walks.specs.Walks.{Walked}
use Rattle.walks.specs.Walks.{walked_said, StandsAfter}
use Rattle.cards.specs.Slopes.{all_inputs, largest, slopes_result, with_slopes, slope_run}
use Rattle.cards.specs.Card.{flat, rows}

-- the m slopes that stand from a place on
abbrev pub row : ℕ → ℕ → List ℕ → List ℕ
row m at slopes = take m (drop at slopes)

-- one more row has room at this place, and no slope before it is over M
pub record Layable (m at : ℕ) (slopes : List ℕ) : Type 0 where
  pub room : at + m ≤ length slopes
  pub low : (j : ℕ) → j < at → get_or slopes j 0 ≤ M

-- no slope of the row is over M, or 11
abbrev pub if_low : Bool → Result (Unit {0}) Refusal
if_low true = Ok tt
if_low false = Err refusal.OutOfReach

-- if none is the row stands at its place
pub record Laid (new_row : List ℕ) (at : ℕ) (old new : List ℕ) (r : Result (Unit {0}) Refusal) : Type 0 where
  pub fits : r ≡ if_low (leb (largest new_row) M)
  pub holds : r ≡ Ok tt → new ≡ written at new_row old

-- the rows of values a and b of m slopes stand before that of value n, which has room
pub record TwoRows (m n a b : ℕ) (slopes : List ℕ) : Type 0 where
  pub few : n < 1024
  pub inputs_few : m ≤ 16
  pub layable : Layable m (n * m) slopes
  pub first : a * m + m ≤ n * m
  pub second : b * m + m ≤ n * m

-- the slope at each input is what P says of those that a and b have there
pub record LaidBy (P : ℕ → ℕ → ℕ → Type 0) (m n a b : ℕ) (old new : List ℕ) (r : Result (Unit {0}) Refusal) : Type 0 where
  pub by : (f : ℕ → ℕ → ℕ) → ((k l t : ℕ) → k ≤ M → l ≤ M → P k l t → t ≡ f k l)
      → Laid (joined f (row m (a * m) old) (row m (b * m) old)) (n * m) old new r

-- the inputs' own rows
pub record Startable (F m : ℕ) (slopes : List ℕ) : Type 0 where
  pub scale_small : F ≤ top_scale
  pub inputs_few : m ≤ 16
  pub room : m * m ≤ length slopes

-- value i's ball, as two lists have it
abbrev pub ball_in : List ℤ → List ℕ → ℕ → Ball
ball_in cs rs i = ball (get_or cs i (pos 0)) (get_or rs i 0)

pub record Ranged (cs : List ℤ) (rs : List ℕ) (i : ℕ) : Type 0 where
  pub centre_there : i < length cs
  pub margin_there : i < length rs
  pub is_ball : IsBall (ball_in cs rs i)

-- "w being |c|−r of its operand", which is over 0
pub record RangedAway (cs : List ℤ) (rs : List ℕ) (i : ℕ) : Type 0 where
  pub ranged : Ranged cs rs i
  pub away : get_or rs i 0 < nat_abs (get_or cs i (pos 0))

-- one instruction: the balls of all values and the rows of the first `made` are there
pub record Sloping (F m : ℕ) (i : Instruction) (made : ℕ) (cs : List ℤ) (rs slopes : List ℕ) : Type 0 where
  pub scale_small : F ≤ top_scale
  pub smaller : Smaller F made i
  pub with_inputs : m ≤ made
  pub few : made < 1024
  pub inputs_few : m ≤ 16
  pub layable : Layable m (made * m) slopes
  pub ranged : (j : ℕ) → j < made → Ranged cs rs j
  pub away : (j : ℕ) → i ≡ Reciprocal j → get_or rs j 0 < nat_abs (get_or cs j (pos 0))

-- a list of balls that agrees with two lists on the first of them
abbrev pub Agrees : ℕ → List Ball → List ℤ → List ℕ → Type 0
Agrees n bs cs rs = (j : ℕ) → j < n → get_or bs j no_ball ≡ ball_in cs rs j

pub record Sloped (F m : ℕ) (i : Instruction) (made : ℕ) (cs : List ℤ) (rs old new : List ℕ) (r : Result (Unit {0}) Refusal) : Type 0 where
  pub lays : (bs : List Ball) → Agrees made bs cs rs
      → Laid (slopes_result F m (with_slopes bs (rows m made old) i)) (made * m) old new r

-- all instructions: h is the header of the formula in s, the lists hold the balls of a run that was accepted, and the
-- inputs' slopes stand in front
abbrev pub ranges : Header → BallLists → List Ball
ranges h l = ball_kind.front (places h) l

pub record Gradable (s : List ℕ) (h : Header) (l : BallLists) (slopes : List ℕ) : Type 0 where
  pub is_formula : checked s ≡ value h
  pub balls_room : places h ≤ ball_kind.room l
  pub room : places h * h.inputs ≤ length slopes
  pub legal : All IsBall (ranges h l)
  pub started : List Ball
  pub as_many : length started ≡ h.inputs
  pub ranged : run (ball_rule h.scale) no_ball (meant s).program started ≡ finished (ranges h l)
  pub inputs_there : take (h.inputs * h.inputs) slopes ≡ flat (all_inputs h.scale h.inputs)

abbrev pub grading_of : List ℕ → Header → BallLists → Walk (List ℕ)
grading_of s h l = slope_run h.scale h.inputs (ranges h l) (meant s).program (all_inputs h.scale h.inputs)

-- what is there once all slopes are
abbrev pub Grown : List ℕ → Header → BallLists → List ℕ → List ℕ → Walked → Type 0
Grown s h l old new (Ok d) = new ≡ over (flat (made_by (grading_of s h l))) old
Grown s h l old new (Err e) = Unit {0}

pub record Grades (s : List ℕ) (h : Header) (l : BallLists) (old new : List ℕ) (r : Walked) : Type 0 where
  pub says : walked_said r ≡ walk_end h.inputs (grading_of s h l)
  pub grown : Grown s h l old new r
  pub stands : StandsAfter s r
