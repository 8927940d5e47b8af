-- Answers: a value is no refusal, and two one after the other give a value only where the first does. Assumes nothing.
use mathlib.Core.Path.{◌≡◌, refl, ap}
use Prim.Native.Nat.{ℕ}
use native.Mathlib.Omega.{arith}
use Rattle.refusals.specs.Answer.{Outcome, value, refused, then, Answer}
use Rattle.refusals.specs.Places.{at_place}

pub no_value : {R A : Type 0} {a : A} {n : R} → refused n ≡ value a → ⊥
no_value e = let z : ◌≡◌ {A = ℕ} 0 1 = cc in omega arith

pub same_value : {R A : Type 0} {a b : A} → ◌≡◌ {A = Outcome R A} (value a) (value b) → a ≡ b
same_value e = cc

pub refused_same : {R A : Type 0} {n m : R} → ◌≡◌ {A = Outcome R A} (refused n) (refused m) → n ≡ m
refused_same e = cc

pub same_refusal : {R A B : Type 0} {m n : R} → ◌≡◌ {A = Outcome R A} (refused m) (refused n) → ◌≡◌ {A = Outcome R B} (refused m) (refused n)
same_refusal e = cc

pub record Before {R A B : Type 0} (a : Outcome R A) (f : A → Outcome R B) (b : B) : Type 0 where
  pub first : A
  pub was : a ≡ value first
  pub then_was : f first ≡ value b

pub first_of : {R A B : Type 0} (a : Outcome R A) (f : A → Outcome R B) {b : B} → then a f ≡ value b → Before a f b
first_of (value x) f e = record { first = x; was = refl; then_was = e }
first_of (refused n) f e = absurd (no_value e)

-- what an answer stands for, once it is known which case it is
pub then_value : {R A B : Type 0} {a : Outcome R A} {x : A} (f : A → Outcome R B) → a ≡ value x → then a f ≡ f x
then_value f e = ap (λ a. then a f) e

pub then_refused : {R A B : Type 0} {a : Outcome R A} {n : R} (f : A → Outcome R B) → a ≡ refused n → then a f ≡ refused n
then_refused f e = ap (λ a. then a f) e

-- a place changes no value
pub placed_value : {A : Type 0} (k : ℕ) (a : Answer A) {x : A} → at_place k a ≡ value x → a ≡ value x
placed_value k (value y) e = ap value (same_value e)
placed_value k (refused n) e = absurd (no_value e)
