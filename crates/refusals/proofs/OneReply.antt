-- A number stands for one refusal alone, and what is said for one reply: a contract that fixes the one fixes the other. Assumes nothing.
use mathlib.Core.Path.{◌≡◌, refl, sym, ◌∙◌, ap, ap₂}
use mathlib.Core.Bool.{Bool, true, false}
use mathlib.Core.List.{List, [], ◌∷◌}
use Prim.Native.Nat.{ℕ, ◌<◌}
use native.Mathlib.Omega.{arith}
use borrow.Author.Tests.{leb-true, leb-false}
use lib.Dec.{leb}
use lib.ListN.{get_or, get_or-eq_default}
use Rattle.refusals.specs.declared.Refusal.{Refusal}
use Rattle.refusals.specs.declared.Refusal.TheVariants.{Ended, Version, Scale, Count, Code, Operand, Constant, Padding, NoRoom, OutOfReach, AnotherForm, ReadingCount, NegativeMargin, ReadingTooLarge, ReciprocalScale, MayBeZero, Misplaced, TooDeep, CardMisfit, MarginNotZero, NumberText, MarginText, BallReach, DecimalPlaces}
use Rattle.std.specs.Prelude.{IsErrAnd}
use Rattle.std.specs.declared.result.Result.{Result}
use Rattle.std.specs.declared.result.Result.TheVariants.{Ok, Err}
use Rattle.refusals.specs.declared.Refused.{Refused}
use Rattle.refusals.specs.Refusals.{refusal_number}
use Rattle.refusals.specs.Answer.{value, refused, Answer, refuse}
use Rattle.refusals.specs.Places.{Where, Placed, refuse_at, says, says_bare, Verdict, verdict_says}
use Rattle.refusals.specs.Said.{Said, answered, refuses, Reply, reply_said}
use Rattle.refusals.proofs.Answers.{no_value, same_value, refused_same}

-- place n has the refusal of number n; no refusal has number 0, 9, 21 or 23
abbrev in_order : List Refusal
in_order =
    Ended ∷ Ended ∷ Version ∷ Scale ∷ Count ∷ Code ∷ Operand ∷ Constant ∷ Padding ∷ Ended ∷ NoRoom ∷ OutOfReach ∷ AnotherForm
    ∷ ReadingCount ∷ NegativeMargin ∷ ReadingTooLarge ∷ ReciprocalScale ∷ MayBeZero ∷ Misplaced ∷ TooDeep
    ∷ CardMisfit ∷ Ended ∷ MarginNotZero ∷ Ended ∷ NumberText ∷ MarginText ∷ BallReach ∷ DecimalPlaces ∷ []

abbrev pub refusal_of : ℕ → Refusal
refusal_of n = get_or in_order n Ended

pub number_back : (r : Refusal) → refusal_of (refusal_number r) ≡ r
number_back Ended = refl
number_back Version = refl
number_back Scale = refl
number_back Count = refl
number_back Code = refl
number_back Operand = refl
number_back Constant = refl
number_back Padding = refl
number_back NoRoom = refl
number_back OutOfReach = refl
number_back AnotherForm = refl
number_back ReadingCount = refl
number_back NegativeMargin = refl
number_back ReadingTooLarge = refl
number_back ReciprocalScale = refl
number_back MayBeZero = refl
number_back Misplaced = refl
number_back TooDeep = refl
number_back CardMisfit = refl
number_back MarginNotZero = refl
number_back NumberText = refl
number_back MarginText = refl
number_back BallReach = refl
number_back DecimalPlaces = refl

pub same_number : (q r : Refusal) → refusal_number q ≡ refusal_number r → q ≡ r
same_number q r e = sym (number_back q) ∙ ap refusal_of e ∙ number_back r

-- answers that refuse alike refuse for one reason
abbrev number_in : {A : Type 0} → Answer A → ℕ
number_in (value a) = 0
number_in (refused n) = n

-- none has number 0
pub never_zero : (r : Refusal) → refusal_number r ≡ 0 → ⊥
never_zero r z = let e : 1 ≡ refusal_number r = ap refusal_number (sym (ap refusal_of z) ∙ number_back r) in omega arith

-- each fits in a byte
pub number_few : (r : Refusal) → refusal_number r < 256
number_few r = by_test (leb 256 (refusal_number r)) refl
  where
    by_test : (t : Bool) → leb 256 (refusal_number r) ≡ t → refusal_number r < 256
    by_test false u = leb-false 256 (refusal_number r) u
    by_test true u =
        let l = leb-true 256 (refusal_number r) u in
        let e : refusal_number r ≡ 1 = ap refusal_number (sym (number_back r) ∙ get_or-eq_default in_order Ended {n = refusal_number r} (omega arith)) in
        omega arith

pub one_refusal : {A : Type 0} {q r : Refusal} → ◌≡◌ {A = Answer A} (refuse q) (refuse r) → q ≡ r
one_refusal {q = q} {r = r} e = same_number q r (ap number_in e)

-- what is said: how many outputs or which number, and the place
abbrev pub first_said : Said → ℕ
first_said (answered n) = n
first_said (refuses n k) = n

abbrev pub place_said : Said → ℕ
place_said (answered n) = 0
place_said (refuses n k) = k

pub never_both : {n m k : ℕ} → answered n ≡ refuses m k → ⊥
never_both e = let z : ◌≡◌ {A = ℕ} 0 1 = cc in omega arith

pub same_refused : {q r : Refused} → refusal_number q.why ≡ refusal_number r.why → q.place ≡ r.place → q ≡ r
same_refused {q} {r} e f = ap₂ (λ (w : Refusal) (k : ℕ). record { why = w; place = k }) (same_number q.why r.why e) f

pub one_reply : (r t : Reply) → reply_said r ≡ reply_said t → r ≡ t
one_reply (Ok m) (Ok n) e = ap Ok (ap first_said e)
one_reply (Ok m) (Err r) e = absurd (never_both e)
one_reply (Err q) (Ok n) e = absurd (never_both (sym e))
one_reply (Err q) (Err r) e = ap Err (same_refused (ap first_said e) (ap place_said e))

-- so do a refusal with its place, and a test
pub one_place : {A : Type 0} (q r : Refusal) (j k : ℕ) → ◌≡◌ {A = Placed A} (refuse_at q j) (refuse_at r k) → (q ≡ r) × (j ≡ k)
one_place q r j k e =
    let same = refused_same e in
    (same_number q r (ap (λ (w : Where). w.number) same), ap (λ (w : Where). w.place) same)

-- an error that is passed on
pub passed_on : {A E : Type 0} {r : Result A E} {e : E} → IsErrAnd r (λ x. x ≡ e) → r ≡ Err e
passed_on {r = Ok a} n = absurd n
passed_on {r = Err e} p = ap Err p

pub one_answer : {A : Type 0} (r t : Result A Refused) → says r ≡ says t → r ≡ t
one_answer (Ok a) (Ok b) e = ap Ok (same_value e)
one_answer (Ok a) (Err r) e = absurd (no_value (sym e))
one_answer (Err q) (Ok b) e = absurd (no_value e)
one_answer (Err q) (Err r) e =
    let same = refused_same e in
    ap Err (same_refused (ap (λ (w : Where). w.number) same) (ap (λ (w : Where). w.place) same))

pub one_bare : {A : Type 0} (r t : Result A Refusal) → says_bare r ≡ says_bare t → r ≡ t
one_bare (Ok a) (Ok b) e = ap Ok (same_value e)
one_bare (Ok a) (Err r) e = absurd (no_value (sym e))
one_bare (Err q) (Ok b) e = absurd (no_value e)
one_bare (Err q) (Err r) e = ap Err (same_number q r (refused_same e))

pub one_verdict : (r t : Verdict) → verdict_says r ≡ verdict_says t → r ≡ t
one_verdict r t e = one_answer r t e
