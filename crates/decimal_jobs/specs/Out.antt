-- Out: "A ball (c, r) at scale F and a number of decimals d from 0 to 9, to a decimal centre and a decimal margin", "as
-- numbers, and as text". Each answer of the job, given exactly when, and what it leaves in the lent lists.
use Rattle.std.specs.Prelude.{◌≡◌, Bool, true, false, List, [], ◌∷◌, ℕ, ◌≤◌, ◌<◌, ℤ, nat_abs, length}
use Rattle.std.specs.declared.result.Result.TheVariants.{Ok, Err}
use Rattle.refusals.specs.Places.{because}
use Rattle.whole.specs.Limits.{is_below}
use Rattle.lists.specs.Over.{over}
use Rattle.refusals.specs.declared.Refusal.TheVariants as refusal
use Rattle.refusals.specs.Said.{Reply}
use Rattle.rules.specs.declared.Ball.{Ball}
use Rattle.rules.specs.Numbers.{M}
use Rattle.rules.specs.Values.{ball_reach}
use Rattle.decimals.specs.Out.{out}
use Rattle.decimal_texts.specs.Texts.{ball_text}
use Rattle.decimal_jobs.specs.Tests.{have_room}
use Rattle.decimal_jobs.specs.Lent.{Leaves}

-- the lists that are lent, one for the decimal centre, one for the decimal margin, one for the text of both
pub record OutLists : Type 0 where
  pub centres : List ℤ
  pub margins : List ℕ
  pub text : List ℕ

abbrev pub out_lists : List ℤ → List ℕ → List ℕ → OutLists
out_lists centres margins text = record { centres = centres; margins = margins; text = text }

-- one in front of the other
abbrev pub put_out : OutLists → OutLists → OutLists
put_out front old =
    out_lists (over front.centres old.centres) (over front.margins old.margins) (over front.text old.text)

-- what is written in front of each
abbrev pub nothing_out : OutLists
nothing_out = out_lists [] [] []

-- `0.5625 +- 0.5625`
abbrev pub text_of : ℕ → ℕ → Ball → List ℕ
text_of F d b = ball_text d (out F d b).centre (out F d b).margin

abbrev pub decimals_out : ℕ → ℕ → Ball → OutLists
decimals_out F d b = out_lists ((out F d b).centre ∷ []) ((out F d b).margin ∷ []) (text_of F d b)

abbrev pub has_room : OutLists → OutLists → Bool
has_room new old = have_room (length new.text) (length old.text) (length old.centres) (length old.margins)

-- 10 when a list is too short, else both numbers and the text; the reply tells its bytes
pub data Prints (lent : OutLists) (F d : ℕ) (b : Ball) : Reply → OutLists → Type 0 where
  ten : has_room (decimals_out F d b) lent ≡ false → Prints lent F d b (Err (because refusal.NoRoom 0)) nothing_out
  done : has_room (decimals_out F d b) lent ≡ true → Prints lent F d b (Ok (length (text_of F d b))) (decimals_out F d b)

-- a scale from 0 to 30, a number of decimals from 0 to 9 and a legal ball
pub record Asked (F d : ℤ) (b : Ball) : Type 0 where
  pub scale : is_below 31 F ≡ true
  pub decimals : is_below 10 d ≡ true
  pub legal : ball_reach b ≤ M

-- 3 for the scale, then 27 for the number of decimals, then 26 for a reach over M
pub data Shows (lent : OutLists) (F d : ℤ) (b : Ball) : Reply → OutLists → Type 0 where
  three : is_below 31 F ≡ false → Shows lent F d b (Err (because refusal.Scale 0)) nothing_out
  twenty_seven : is_below 31 F ≡ true → is_below 10 d ≡ false → Shows lent F d b (Err (because refusal.DecimalPlaces 0)) nothing_out
  twenty_six : is_below 31 F ≡ true → is_below 10 d ≡ true → M < ball_reach b → Shows lent F d b (Err (because refusal.BallReach 0)) nothing_out
  asked : {r : Reply} {front : OutLists} → Asked F d b → Prints lent (nat_abs F) (nat_abs d) b r front → Shows lent F d b r front

abbrev pub ToDecimal : ℤ → ℤ → Ball → OutLists → OutLists → Reply → Type 0
ToDecimal F d b = Leaves put_out (λ lent. Shows lent F d b)
