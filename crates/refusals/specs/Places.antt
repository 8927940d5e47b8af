-- Request c: "give a place: the reading's index or, for 11, the instruction's. Every other refusal has place 0."
-- Request e: "17 at the step .. with its place".
use Rattle.std.specs.Prelude.{ℕ}
use Rattle.refusals.specs.declared.Refusal.{Refusal}
use Rattle.refusals.specs.declared.Refusal.TheVariants as refusal
use Rattle.std.specs.declared.result.Result.{Result}
use Rattle.std.specs.declared.result.Result.TheVariants.{Ok, Err}
use Rattle.refusals.specs.declared.Refused.{Refused}
use Rattle.refusals.specs.Refusals.{refusal_number, AtStep}
use Rattle.refusals.specs.Answer.{Outcome, value, refused, Answer, refuse}

-- what a job is told: the number of a refusal and its place
pub record Where : Type 0 where
  pub number : ℕ
  pub place : ℕ

abbrev pub Placed : Type 0 → Type 0
Placed A = Outcome Where A

abbrev pub refused_at : {A : Type 0} → ℕ → ℕ → Placed A
refused_at n k = refused (record { number = n; place = k })

-- an answer whose refusal has this place
abbrev pub at_place : {A : Type 0} → ℕ → Answer A → Placed A
at_place k (value a) = value a
at_place k (refused n) = refused_at n k

-- "Every other refusal has place 0."
abbrev pub elsewhere : {A : Type 0} → Answer A → Placed A
elsewhere a = at_place 0 a

abbrev pub refuse_at : {A : Type 0} → Refusal → ℕ → Placed A
refuse_at r k = refused_at (refusal_number r) k

-- the refusals whose place is an index: "the reading's index", or the instruction's for those that a step meets
pub data HasPlace : ℕ → Type 0 where
  instruction : {n : ℕ} → AtStep n → HasPlace n
  negative : HasPlace (refusal_number refusal.NegativeMargin)
  too_large : HasPlace (refusal_number refusal.ReadingTooLarge)

-- a refusal as the code has it
abbrev pub because : Refusal → ℕ → Refused
because q k = record { why = q; place = k }

-- what the code's answer says, with the place of a refusal
abbrev pub says : {A : Type 0} → Result A Refused → Placed A
says (Ok a) = value a
says (Err e) = refuse_at e.why e.place

-- and without one, where f is what the code's values mean
abbrev pub meant_bare : {A B : Type 0} → (A → B) → Result A Refusal → Answer B
meant_bare f (Ok a) = value (f a)
meant_bare f (Err q) = refuse q

abbrev pub says_bare : {A : Type 0} → Result A Refusal → Answer A
says_bare = meant_bare (λ a. a)

-- what a test says
abbrev pub Verdict : Type 0
Verdict = Result (Unit {0}) Refused

abbrev pub verdict_says : Verdict → Placed (Unit {0})
verdict_says = says
