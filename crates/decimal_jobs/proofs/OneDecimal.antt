-- Each answer is given exactly when its words say, and two outcomes of a job are equal. Assumes nothing.
use mathlib.Core.Path.{◌≡◌, refl, sym, ◌∙◌, ap, subst}
use mathlib.Core.Bool.{Bool, true, false}
use mathlib.Core.List.{List}
use mathlib.Core.Logic.{◌↔◌}
use mathlib.Core.Option.{Option, some}
use Prim.Native.Nat.{ℕ, ◌≤◌, ◌<◌}
use native.Mathlib.Omega.{arith}
use lib.IntN.{ℤ, nat_abs}
use Rattle.whole.proofs.Cases.{never}
use Rattle.refusals.specs.declared.Refusal.TheVariants as refusal
use Rattle.refusals.specs.Said.{Reply}
use Rattle.std.specs.declared.result.Result.TheVariants.{Err}
use Rattle.refusals.specs.Places.{because}
use Rattle.rules.specs.declared.Ball.{Ball}
use Rattle.rules.specs.Numbers.{M}
use Rattle.rules.specs.Values.{ball_reach}
use Rattle.numerals.specs.declared.Decimal.{Decimal}
use Rattle.decimals.specs.In.{into}
use Rattle.decimal_texts.specs.Places.{Misplaced}
use Rattle.decimal_texts.proofs.Places.{one_misplaced, never_both}
use Rattle.decimal_jobs.specs.Lent.{Leaves}
use Rattle.decimal_jobs.specs.Out.{OutLists, Prints, Shows, ToDecimal}
use Rattle.decimal_jobs.specs.In.{InLists, Puts, FromNumber, Reads, FromDecimal}

-- the same answer, and the same written in front
abbrev Alike : {L : Type 0} → Reply → L → Reply → L → Type 0
Alike r front q behind = (r ≡ q) × (front ≡ behind)

-- where the words give one answer, a job has one outcome
abbrev OneAnswer : {L : Type 0} → (L → Reply → L → Type 0) → L → Type 0
OneAnswer {L} Answers old = (r q : Reply) (front behind : L) → Answers old r front → Answers old q behind → Alike r front q behind

module _ {L : Type 0} {put : L → L → L} {Answers : L → Reply → L → Type 0} {old : L} where
  exactly : {new : L} {q : Reply} → Leaves put Answers old new q → OneAnswer Answers old → (r : Reply)
      → (q ≡ r) ↔ ((front : L) × Answers old r front)
  exactly x one r = (λ e. (x.front, subst (λ s. Answers old s x.front) e x.answers), λ a. (one _ _ _ _ x.answers a.1).0)

  one_outcome : {new₁ new₂ : L} {r q : Reply} → Leaves put Answers old new₁ r → Leaves put Answers old new₂ q → OneAnswer Answers old
      → (r ≡ q) × (new₁ ≡ new₂)
  one_outcome x y one =
      let e = one _ _ _ _ x.answers y.answers in
      (e.0, x.writes ∙ ap (λ l. put l old) e.1 ∙ sym y.writes)

apart : {A : Type 0} {t : Bool} → t ≡ true → t ≡ false → A
apart e f = never (sym e ∙ f)

far : {A : Type 0} {n m : ℕ} → n ≤ m → m < n → A
far l k = absurd (omega arith)

-- ---- out

module _ {lent : OutLists} where
  one_print : {F d : ℕ} {b : Ball} {r q : Reply} {front behind : OutLists} → Prints lent F d b r front → Prints lent F d b q behind → Alike r front q behind
  one_print (Prints.ten e) (Prints.ten f) = (refl, refl)
  one_print (Prints.ten e) (Prints.done f) = apart f e
  one_print (Prints.done e) (Prints.ten f) = apart e f
  one_print (Prints.done e) (Prints.done f) = (refl, refl)

  one_shown : {F d : ℤ} {b : Ball} {r q : Reply} {front behind : OutLists} → Shows lent F d b r front → Shows lent F d b q behind → Alike r front q behind
  one_shown (Shows.three e) (Shows.three f) = (refl, refl)
  one_shown (Shows.three e) (Shows.twenty_seven f g) = apart f e
  one_shown (Shows.three e) (Shows.twenty_six f g l) = apart f e
  one_shown (Shows.three e) (Shows.asked a p) = apart a.scale e
  one_shown (Shows.twenty_seven e f) (Shows.three g) = apart e g
  one_shown (Shows.twenty_seven e f) (Shows.twenty_seven g k) = (refl, refl)
  one_shown (Shows.twenty_seven e f) (Shows.twenty_six g k l) = apart k f
  one_shown (Shows.twenty_seven e f) (Shows.asked a p) = apart a.decimals f
  one_shown (Shows.twenty_six e f l) (Shows.three g) = apart e g
  one_shown (Shows.twenty_six e f l) (Shows.twenty_seven g k) = apart f k
  one_shown (Shows.twenty_six e f l) (Shows.twenty_six g k m) = (refl, refl)
  one_shown (Shows.twenty_six e f l) (Shows.asked a p) = far a.legal l
  one_shown (Shows.asked a p) (Shows.three e) = apart a.scale e
  one_shown (Shows.asked a p) (Shows.twenty_seven e f) = apart a.decimals f
  one_shown (Shows.asked a p) (Shows.twenty_six e f l) = far a.legal l
  one_shown (Shows.asked a p) (Shows.asked c q) = one_print p q

-- the reply is r exactly when r is the answer that the words give
pub out_exactly : {F d : ℤ} {b : Ball} {old new : OutLists} {q : Reply} → ToDecimal F d b old new q → (r : Reply)
    → (q ≡ r) ↔ ((front : OutLists) × Shows old F d b r front)
out_exactly x r = exactly x (λ s q f g. one_shown) r

pub out_one_outcome : {F d : ℤ} {b : Ball} {old new₁ new₂ : OutLists} {r q : Reply} → ToDecimal F d b old new₁ r → ToDecimal F d b old new₂ q
    → (r ≡ q) × (new₁ ≡ new₂)
out_one_outcome x y = one_outcome x y (λ s q f g. one_shown)

-- ---- in

-- a text says one number, or goes wrong at one place
said_once : {A : Type 0} {o : Option A} {a c : A} → o ≡ some a → o ≡ some c → a ≡ c
said_once {A} {o} {a} {c} e f = same (sym e ∙ f)
  where
    same : some a ≡ some c → a ≡ c
    same g = cc

wrong_not_said : {A B : Type 0} {f : List ℕ → Option A} {s : List ℕ} {p : ℕ} {a : A} → Misplaced f s p → f s ≡ some a → B
wrong_not_said {a = a} w e = absurd (never_both w (record { worth = a; is = e }))

module _ {lent : InLists} where
  one_put : {b : Ball} {r q : Reply} {front behind : InLists} → Puts lent b r front → Puts lent b q behind → Alike r front q behind
  one_put (Puts.ten e) (Puts.ten f) = (refl, refl)
  one_put (Puts.ten e) (Puts.done f) = apart f e
  one_put (Puts.done e) (Puts.ten f) = apart e f
  one_put (Puts.done e) (Puts.done f) = (refl, refl)

  module _ {F : ℕ} {y : Decimal ℤ} {s : List ℕ} where
    one_margin : {r q : Reply} {front behind : InLists} → FromNumber lent F y s r front → FromNumber lent F y s q behind → Alike r front q behind
    one_margin (FromNumber.twenty_five w) (FromNumber.twenty_five v) = (ap (λ p. Err (because refusal.MarginText p)) (one_misplaced w v), refl)
    one_margin (FromNumber.twenty_five w) (FromNumber.twenty_six e l) = wrong_not_said w e
    one_margin (FromNumber.twenty_five w) (FromNumber.legal e l p) = wrong_not_said w e
    one_margin (FromNumber.twenty_six e l) (FromNumber.twenty_five w) = wrong_not_said w e
    one_margin (FromNumber.twenty_six e l) (FromNumber.twenty_six f k) = (refl, refl)
    one_margin (FromNumber.twenty_six e l) (FromNumber.legal f k p) = far k (subst (λ m. M < ball_reach (into F y m)) (said_once e f) l)
    one_margin (FromNumber.legal e l p) (FromNumber.twenty_five w) = wrong_not_said w e
    one_margin (FromNumber.legal e l p) (FromNumber.twenty_six f k) = far l (subst (λ m. M < ball_reach (into F y m)) (said_once f e) k)
    one_margin {q = q} {behind = behind} (FromNumber.legal e l p) (FromNumber.legal f k u) =
        one_put p (subst (λ m. Puts lent (into F y m) q behind) (said_once f e) u)

  one_read : {F : ℤ} {s t : List ℕ} {r q : Reply} {front behind : InLists} → Reads lent F s t r front → Reads lent F s t q behind → Alike r front q behind
  one_read (Reads.three e) (Reads.three f) = (refl, refl)
  one_read (Reads.three e) (Reads.twenty_four f w) = apart f e
  one_read (Reads.three e) (Reads.says f g n) = apart f e
  one_read (Reads.twenty_four e w) (Reads.three f) = apart e f
  one_read (Reads.twenty_four e w) (Reads.twenty_four f v) = (ap (λ p. Err (because refusal.NumberText p)) (one_misplaced w v), refl)
  one_read (Reads.twenty_four e w) (Reads.says f g n) = wrong_not_said w g
  one_read (Reads.says e g n) (Reads.three f) = apart e f
  one_read (Reads.says e g n) (Reads.twenty_four f w) = wrong_not_said w g
  one_read {F} {t = t} {q = q} {behind = behind} (Reads.says e g n) (Reads.says f k o) =
      one_margin n (subst (λ y. FromNumber lent (nat_abs F) y t q behind) (said_once k g) o)

pub in_exactly : {F : ℤ} {s t : List ℕ} {old new : InLists} {q : Reply} → FromDecimal F s t old new q → (r : Reply)
    → (q ≡ r) ↔ ((front : InLists) × Reads old F s t r front)
in_exactly x r = exactly x (λ u q f g. one_read) r

pub in_one_outcome : {F : ℤ} {s t : List ℕ} {old new₁ new₂ : InLists} {r q : Reply} → FromDecimal F s t old new₁ r → FromDecimal F s t old new₂ q
    → (r ≡ q) × (new₁ ≡ new₂)
in_one_outcome x y = one_outcome x y (λ u q f g. one_read)
