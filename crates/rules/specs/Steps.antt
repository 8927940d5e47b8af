-- A step's answer: its result where that is there and within reach; and what each case of the code's answers stands
-- for.
use Rattle.std.specs.Prelude.{◌≡◌, Bool, cond, ℕ, leb, ℤ}
use Rattle.std.specs.declared.result.Result.{Result}
use Rattle.refusals.specs.declared.Refusal.{Refusal}
use Rattle.rules.specs.declared.Ball.{Ball}
use Rattle.rules.specs.declared.Matryoshka.{Matryoshka}
use Rattle.refusals.specs.declared.Refusal.TheVariants.{OutOfReach, MayBeZero}
use Rattle.refusals.specs.Answer.{Answer, value, refuse}
use Rattle.refusals.specs.Places.{says_bare}
use Rattle.rules.specs.Numbers.{M}
use Rattle.rules.specs.Operation.{Operation, divides_by_zero}

-- "A step is refused when its result has too large a reach."
unfoldable pub within_reach : {A : Type 0} → (A → ℕ) → A → Answer A
within_reach reach a = cond (leb (reach a) M) (value a) (refuse OutOfReach)

-- request e: "17 at the step, before its 11"; a is the instruction's result
abbrev pub step_answer : {A : Type 0} → (A → Bool) → (A → ℕ) → Operation A → A → Answer A
step_answer may_be_zero reach o a =
    cond (divides_by_zero may_be_zero o) (refuse MayBeZero) (within_reach reach a)

abbrev pub PlainStep : Type 0
PlainStep = Result ℤ Refusal

abbrev pub BallStep : Type 0
BallStep = Result Ball Refusal

abbrev pub MatryoshkaStep : Type 0
MatryoshkaStep = Result Matryoshka Refusal

abbrev pub plain_answer : PlainStep → Answer ℤ
plain_answer = says_bare

abbrev pub ball_answer : BallStep → Answer Ball
ball_answer = says_bare

abbrev pub matryoshka_answer : MatryoshkaStep → Answer Matryoshka
matryoshka_answer = says_bare

-- the answer to an instruction whose rule does not look at the scale
pub record AtEveryScale {A : Type 0} (rule : ℕ → Operation A → Answer A) (o : Operation A)
    (got : Answer A) : Type 0 where
  pub every : (F : ℕ) → got ≡ rule F o
