-- What the two jobs assure: no margin is lost on the way out or in.
use Rattle.std.specs.Prelude.{◌≡◌, List, [], ◌∷◌, ℕ, ◌≤◌, ℤ, pos, nat_abs, take}
use Rattle.std.proofs.Math.Option.{some}
use Rattle.rules.specs.declared.Ball.{Ball}
use Rattle.rules.specs.Values.{Fraction, Contains, IsBall}
use Rattle.numerals.specs.declared.Decimal.{Decimal}
use Rattle.numerals.specs.Decimals.{decimal}
use Rattle.decimals.specs.Units.{Within}
use Rattle.decimals.specs.Out.{NothingLost}
use Rattle.decimal_texts.specs.Texts.{most_digits, figures, text, unsigned_text, decimal_ball, ball_means, read_ball, read, read_unsigned}
use Rattle.decimal_jobs.specs.Out.{OutLists}
use Rattle.decimal_jobs.specs.In.{InLists}

-- "every fraction inside the ball is within the decimal margin of the decimal centre", "the margin is the least such for
-- that centre", "a margin of zero is printed only where nothing was lost"; "what such a text means .. is that count of
-- 10^-d, and a text of at most nine digits .. gives it back"
pub record OutAssures (F d : ℤ) (b : Ball) (left : OutLists) (bytes : ℕ) : Type 0 where
  pub centre : ℤ
  pub margin : ℕ
  pub centre_there : take 1 left.centres ≡ centre ∷ []
  pub margin_there : take 1 left.margins ≡ margin ∷ []
  pub encloses : (x : Fraction) → Contains (nat_abs F) b x → Within (decimal centre (nat_abs d)) (decimal margin (nat_abs d)) x
  pub least : (n : ℕ) → ((x : Fraction) → Contains (nat_abs F) b x → Within (decimal centre (nat_abs d)) (decimal n (nat_abs d)) x) → margin ≤ n
  pub zero_only_so : margin ≡ 0 → NothingLost (nat_abs F) (nat_abs d) b
  pub text_means : ball_means (take bytes left.text) ≡ some (decimal_ball (decimal centre (nat_abs d)) (decimal margin (nat_abs d)))
  pub reads_back : figures (text (nat_abs d) centre) ≤ most_digits → figures (unsigned_text (nat_abs d) margin) ≤ most_digits
      → read_ball (take bytes left.text) ≡ some (decimal_ball (decimal centre (nat_abs d)) (decimal margin (nat_abs d)))
  pub few_bytes : bytes ≤ 45

-- "every fraction within the written margin of the written number is inside the ball"
pub record InAssures (F : ℤ) (number margin : List ℕ) (left : InLists) (readings : ℕ) : Type 0 where
  pub one_reading : readings ≡ 1
  pub written : Decimal ℤ
  pub give_or_take : Decimal ℕ
  pub says_number : read number ≡ some written
  pub says_margin : read_unsigned margin ≡ some give_or_take
  pub reading : Ball
  pub centre_there : take 1 left.centres ≡ reading.centre ∷ []
  pub margin_there : take 1 left.margins ≡ pos reading.margin ∷ []
  pub legal : IsBall reading
  pub encloses : (x : Fraction) → Within written give_or_take x → Contains (nat_abs F) reading x
