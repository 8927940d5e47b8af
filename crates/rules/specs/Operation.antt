-- Document 01, "The instructions", with the codes of requests b and e: an instruction with the values of its operands,
-- whatever kind of value those are.
use Rattle.std.specs.Prelude.{Bool, false, ℕ, ℤ}

-- "Code 0: constant c, 1: negate, 2: add, 3: subtract, 4: multiply"; "code 5: a constant with a margin";
-- code 6: "a reciprocal"
pub data Operation (A : Type 0) : Type 0 where
  constant : ℤ → Operation A
  negate : A → Operation A
  add : A → A → Operation A
  subtract : A → A → Operation A
  multiply : A → A → Operation A
  coefficient : ℤ → ℕ → Operation A
  reciprocal : A → Operation A

-- the same instruction, with something else made of each operand
abbrev pub each : {A B : Type 0} → (A → B) → Operation A → Operation B
each f (constant c) = constant c
each f (negate a) = negate (f a)
each f (add a b) = add (f a) (f b)
each f (subtract a b) = subtract (f a) (f b)
each f (multiply a b) = multiply (f a) (f b)
each f (coefficient c r) = coefficient c r
each f (reciprocal a) = reciprocal (f a)

-- whether it divides by a value that may be 0
abbrev pub divides_by_zero : {A : Type 0} → (A → Bool) → Operation A → Bool
divides_by_zero may_be_zero (constant c) = false
divides_by_zero may_be_zero (negate a) = false
divides_by_zero may_be_zero (add a b) = false
divides_by_zero may_be_zero (subtract a b) = false
divides_by_zero may_be_zero (multiply a b) = false
divides_by_zero may_be_zero (coefficient c r) = false
divides_by_zero may_be_zero (reciprocal a) = may_be_zero a

-- the same instruction, with operands that are related one by one
pub data Alike {A B : Type 0} (R : A → B → Type 0) : Operation A → Operation B → Type 0 where
  constants : (c : ℤ) → Alike R (constant c) (constant c)
  negations : {a : A} {x : B} → R a x → Alike R (negate a) (negate x)
  sums : {a b : A} {x y : B} → R a x → R b y → Alike R (add a b) (add x y)
  differences : {a b : A} {x y : B} → R a x → R b y → Alike R (subtract a b) (subtract x y)
  products : {a b : A} {x y : B} → R a x → R b y → Alike R (multiply a b) (multiply x y)
  coefficients : (c : ℤ) (r : ℕ) → Alike R (coefficient c r) (coefficient c r)
  reciprocals : {a : A} {x : B} → R a x → Alike R (reciprocal a) (reciprocal x)
