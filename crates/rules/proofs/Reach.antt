-- A step's answer is refusal 17 where it divides by what may be 0, else its result where that is within reach, and refusal 11 where it is
-- not. So what is accepted is legal, and divided by nothing that may be 0. Assumes nothing.
use mathlib.Core.Path.{◌≡◌, refl, sym, ◌∙◌, ap, subst}
use mathlib.Core.Bool.{Bool, true, false, cond}
use Prim.Native.Nat.{ℕ, ◌≤◌, ◌<◌}
use native.Mathlib.Omega.{arith}
use lib.Dec.{leb}
use borrow.Author.Tests.{leb-true, leb-false, le-leb, lt-leb}
use lib.IntN.{ℤ}
use Rattle.rules.specs.declared.Ball.{Ball}
use Rattle.rules.specs.declared.Matryoshka.{Matryoshka}
use Rattle.rules.specs.Numbers.{M}
use Rattle.rules.specs.Values.{Allowed, IsBall, IsMatryoshka, plain_reach, ball_reach, matryoshka_reach}
use Rattle.rules.specs.Reciprocals.{plain_may_be_zero, ball_may_be_zero, matryoshka_may_be_zero}
use Rattle.rules.specs.Operation.{Operation, divides_by_zero}
use Rattle.refusals.specs.Refusals.{AtStep, out_of_reach, divided_by_zero}
use Rattle.refusals.proofs.Answers.{no_value, refused_same}
use Rattle.refusals.specs.Answer.{Answer, value, refused, refuse}
use Rattle.rules.specs.Steps.{within_reach, step_answer}
use Rattle.refusals.specs.declared.Refusal.TheVariants.{OutOfReach, MayBeZero}
use Rattle.rules.specs.Plain.{plain_rule, plain_result}
use Rattle.rules.specs.Balls.{ball_rule, ball_result}
use Rattle.rules.specs.Matryoshki.{matryoshka_rule, matryoshka_result}

module _ {A : Type 0} (reach : A → ℕ) where
  pub reach_accepts : (a : A) → reach a ≤ M → within_reach reach a ≡ value a
  unfolding within_reach
  reach_accepts a l = ap (λ (t : Bool). cond t (value a) (refuse OutOfReach)) (le-leb (reach a) M l)

  pub reach_refuses : (a : A) → M < reach a → within_reach reach a ≡ refuse OutOfReach
  unfolding within_reach
  reach_refuses a l = ap (λ (t : Bool). cond t (value a) (refuse OutOfReach)) (lt-leb (reach a) M l)

  -- what an accepted step says: its value is the result, and it is within reach
  pub reach_accepted : (a b : A) → within_reach reach a ≡ value b → (a ≡ b) × (reach b ≤ M)
  unfolding within_reach
  reach_accepted a b e = by_test (leb (reach a) M) refl e
    where
      by_test : (t : Bool) → leb (reach a) M ≡ t → cond t (value a) (refuse OutOfReach) ≡ value b → (a ≡ b) × (reach b ≤ M)
      by_test true u e = let same : a ≡ b = cc in (same, rw same at (leb-true (reach a) M u))
      by_test false u e = absurd (let z : ◌≡◌ {A = ℕ} 0 1 = cc in omega arith)

  -- what a refused step says: the number, and that its result is out of reach
  pub reach_refused : (a : A) {n : ℕ} → within_reach reach a ≡ refused n → (n ≡ 11) × (M < reach a)
  unfolding within_reach
  reach_refused a {n} e = by_test (leb (reach a) M) refl e
    where
      by_test : (t : Bool) → leb (reach a) M ≡ t → cond t (value a) (refuse OutOfReach) ≡ refused n → (n ≡ 11) × (M < reach a)
      by_test true u e = absurd (let z : ◌≡◌ {A = ℕ} 0 1 = cc in omega arith)
      by_test false u e = let same : n ≡ 11 = cc in (same, leb-false (reach a) M u)

-- what an accepted step says of its instruction, its result and its value
pub record Accepted {A : Type 0} (may_be_zero : A → Bool) (reach : A → ℕ) (o : Operation A) (a b : A) : Type 0 where
  pub divisible : divides_by_zero may_be_zero o ≡ false
  pub same : a ≡ b
  pub in_reach : reach b ≤ M

-- why a step is refused, with the number
pub data StepRefused {A : Type 0} (may_be_zero : A → Bool) (reach : A → ℕ) (o : Operation A) (a : A) : ℕ → Type 0 where
  divides : divides_by_zero may_be_zero o ≡ true → StepRefused may_be_zero reach o a 17
  too_far : divides_by_zero may_be_zero o ≡ false → M < reach a → StepRefused may_be_zero reach o a 11

module _ {A : Type 0} (may_be_zero : A → Bool) (reach : A → ℕ) (o : Operation A) (a : A) where
  abbrev tested : Bool → Answer A
  tested t = cond t (refuse MayBeZero) (within_reach reach a)

  -- "17 at the step, before its 11"
  pub step_divides : divides_by_zero may_be_zero o ≡ true → step_answer may_be_zero reach o a ≡ refuse MayBeZero
  step_divides z = ap tested z

  pub step_goes_on : divides_by_zero may_be_zero o ≡ false → step_answer may_be_zero reach o a ≡ within_reach reach a
  step_goes_on z = ap tested z

  pub step_accepts : divides_by_zero may_be_zero o ≡ false → reach a ≤ M → step_answer may_be_zero reach o a ≡ value a
  step_accepts z l = step_goes_on z ∙ reach_accepts reach a l

  pub step_accepted : {b : A} → step_answer may_be_zero reach o a ≡ value b → Accepted may_be_zero reach o a b
  step_accepted {b} e = by_test (divides_by_zero may_be_zero o) refl e
    where
      by_test : (t : Bool) → divides_by_zero may_be_zero o ≡ t → tested t ≡ value b → Accepted may_be_zero reach o a b
      by_test true u e = absurd (no_value e)
      by_test false u e = let r = reach_accepted reach a b e in record { divisible = u; same = r.0; in_reach = r.1 }

  pub step_refused : {n : ℕ} → step_answer may_be_zero reach o a ≡ refused n → StepRefused may_be_zero reach o a n
  step_refused {n} e = by_test (divides_by_zero may_be_zero o) refl e
    where
      by_test : (t : Bool) → divides_by_zero may_be_zero o ≡ t → tested t ≡ refused n → StepRefused may_be_zero reach o a n
      by_test true u e = subst (StepRefused may_be_zero reach o a) (refused_same e) (divides u)
      by_test false u e =
          let r = reach_refused reach a e in
          subst (StepRefused may_be_zero reach o a) (sym r.0) (too_far u r.1)

  pub refuses_step : {n : ℕ} → StepRefused may_be_zero reach o a n → step_answer may_be_zero reach o a ≡ refused n
  refuses_step (divides z) = step_divides z
  refuses_step (too_far z l) = step_goes_on z ∙ reach_refuses reach a l

  -- the numbers that a step gives
  pub step_numbers : {n : ℕ} → step_answer may_be_zero reach o a ≡ refused n → AtStep n
  step_numbers e = by_why (step_refused e)
    where
      by_why : {n : ℕ} → StepRefused may_be_zero reach o a n → AtStep n
      by_why (divides z) = divided_by_zero
      by_why (too_far z l) = out_of_reach

-- "Accepted results are legal": a plain value is allowed, a ball is a ball, a matryoshka a matryoshka
pub plain_legal : (F : ℕ) (o : Operation ℤ) {x : ℤ} → plain_rule F o ≡ value x → Allowed x
plain_legal F o e = (step_accepted plain_may_be_zero plain_reach o (plain_result F o) e).in_reach

pub ball_legal : (F : ℕ) (o : Operation Ball) {b : Ball} → ball_rule F o ≡ value b → IsBall b
ball_legal F o e = (step_accepted ball_may_be_zero ball_reach o (ball_result F o) e).in_reach

pub matryoshka_legal : (F : ℕ) (o : Operation Matryoshka) {m : Matryoshka} → matryoshka_rule F o ≡ value m → IsMatryoshka m
matryoshka_legal F o e = (step_accepted matryoshka_may_be_zero matryoshka_reach o (matryoshka_result F o) e).in_reach
