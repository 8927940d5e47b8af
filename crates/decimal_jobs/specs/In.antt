-- In: "Text of a decimal number .. and a margin of the same form without a minus, to a ball at scale F". Each answer of
-- the job, given exactly when; "Bad text and a reach over M get numbered answers of their own kind, with the place".
use Rattle.std.specs.Prelude.{◌≡◌, Bool, true, false, List, [], ◌∷◌, ℕ, ◌≤◌, ◌<◌, ℤ, pos, nat_abs, length}
use Rattle.std.proofs.Math.Option.{some}
use Rattle.std.specs.declared.result.Result.TheVariants.{Ok, Err}
use Rattle.refusals.specs.Places.{because}
use Rattle.whole.specs.Limits.{is_below}
use Rattle.lists.specs.Over.{over}
use Rattle.refusals.specs.declared.Refusal.TheVariants as refusal
use Rattle.refusals.specs.Said.{Reply}
use Rattle.rules.specs.declared.Ball.{Ball}
use Rattle.rules.specs.Numbers.{M}
use Rattle.rules.specs.Values.{ball_reach}
use Rattle.numerals.specs.declared.Decimal.{Decimal}
use Rattle.decimals.specs.In.{into}
use Rattle.decimal_texts.specs.Texts.{read, read_unsigned}
use Rattle.decimal_texts.specs.Places.{Misplaced}
use Rattle.decimal_jobs.specs.Tests.{have_places}
use Rattle.decimal_jobs.specs.Lent.{Leaves}

-- the lists that are lent, as a ball run takes its readings
pub record InLists : Type 0 where
  pub centres : List ℤ
  pub margins : List ℤ

abbrev pub in_lists : List ℤ → List ℤ → InLists
in_lists centres margins = record { centres = centres; margins = margins }

-- one in front of the other
abbrev pub put_in : InLists → InLists → InLists
put_in front old = in_lists (over front.centres old.centres) (over front.margins old.margins)

-- what is written in front of each
abbrev pub nothing_in : InLists
nothing_in = in_lists [] []

abbrev pub reading_in : Ball → InLists
reading_in b = in_lists (b.centre ∷ []) (pos b.margin ∷ [])

abbrev pub has_place : InLists → Bool
has_place lent = have_places (length lent.centres) (length lent.margins)

-- of a legal ball: 10 when a list is too short, else one reading
pub data Puts (lent : InLists) (b : Ball) : Reply → InLists → Type 0 where
  ten : has_place lent ≡ false → Puts lent b (Err (because refusal.NoRoom 0)) nothing_in
  done : has_place lent ≡ true → Puts lent b (Ok 1) (reading_in b)

-- of a number that was read: 25 at the byte where the margin's text goes wrong, then 26 for a reach over M
pub data FromNumber (lent : InLists) (F : ℕ) (y : Decimal ℤ) (margin : List ℕ) : Reply → InLists → Type 0 where
  twenty_five : {p : ℕ} → Misplaced read_unsigned margin p → FromNumber lent F y margin (Err (because refusal.MarginText p)) nothing_in
  twenty_six : {m : Decimal ℕ} → read_unsigned margin ≡ some m → M < ball_reach (into F y m)
      → FromNumber lent F y margin (Err (because refusal.BallReach 0)) nothing_in
  legal : {m : Decimal ℕ} {r : Reply} {front : InLists} → read_unsigned margin ≡ some m → ball_reach (into F y m) ≤ M
      → Puts lent (into F y m) r front → FromNumber lent F y margin r front

-- 3 for the scale, then 24 at the byte where the number's text goes wrong
pub data Reads (lent : InLists) (F : ℤ) (number margin : List ℕ) : Reply → InLists → Type 0 where
  three : is_below 31 F ≡ false → Reads lent F number margin (Err (because refusal.Scale 0)) nothing_in
  twenty_four : {p : ℕ} → is_below 31 F ≡ true → Misplaced read number p
      → Reads lent F number margin (Err (because refusal.NumberText p)) nothing_in
  says : {y : Decimal ℤ} {r : Reply} {front : InLists} → is_below 31 F ≡ true → read number ≡ some y
      → FromNumber lent (nat_abs F) y margin r front → Reads lent F number margin r front

abbrev pub FromDecimal : ℤ → List ℕ → List ℕ → InLists → InLists → Reply → Type 0
FromDecimal F number margin = Leaves put_in (λ lent. Reads lent F number margin)
