-- An answer: a value, or why there is none. One after another: the first refusal is the whole's.
use Rattle.std.specs.Prelude.{ℕ}
use Rattle.refusals.specs.declared.Refusal.{Refusal}
use Rattle.refusals.specs.Refusals.{refusal_number}

pub data Outcome (R : Type 0) (A : Type 0) : Type 0 where
  value : A → Outcome R A
  refused : R → Outcome R A

abbrev pub then : {R A B : Type 0} → Outcome R A → (A → Outcome R B) → Outcome R B
then (value a) f = f a
then (refused n) f = refused n

-- what a field or a step answers: a value, or the number of a refusal
abbrev pub Answer : Type 0 → Type 0
Answer A = Outcome ℕ A

abbrev pub refuse : {A : Type 0} → Refusal → Answer A
refuse r = refused (refusal_number r)
