-- An answer is right where the text means it, or goes wrong at its place. One answer is right of each text.
use Rattle.std.specs.Prelude.{◌≡◌, List, ℕ, ◌^◌, ◌≤◌, ◌<◌, ℤ, nat_abs}
use Rattle.std.proofs.Math.Option.{Option, some}
use Rattle.std.specs.declared.result.Result.{Result}
use Rattle.std.specs.declared.result.Result.TheVariants.{Ok, Err}
use Rattle.numerals.specs.declared.Decimal.{Decimal}
use Rattle.numerals.specs.declared.Wrong.{Wrong}
use Rattle.decimal_texts.specs.Texts.{read_unsigned, read}
use Rattle.decimal_texts.specs.Places.{Misplaced}

abbrev pub Is : {A : Type 0} → (List ℕ → Option (Decimal A)) → List ℕ → Result (Decimal A) Wrong → Type 0
Is f s (Ok y) = f s ≡ some y
Is f s (Err w) = Misplaced f s w.place

-- at most nine digits, one of them before the point
abbrev pub Small : {A : Type 0} → (A → ℕ) → Result (Decimal A) Wrong → Type 0
Small size (Ok y) = (size y.count < 10 ^ 9) × (y.places ≤ 8)
Small size (Err w) = Unit {0}

-- what f reads of a text
pub record Tells {A : Type 0} (f : List ℕ → Option (Decimal A)) (size : A → ℕ) (s : List ℕ) (r : Result (Decimal A) Wrong) : Type 0 where
  pub is : Is f s r
  pub small : Small size r

abbrev pub TellsMargin : List ℕ → Result (Decimal ℕ) Wrong → Type 0
TellsMargin = Tells read_unsigned (λ n. n)

abbrev pub TellsNumber : List ℕ → Result (Decimal ℤ) Wrong → Type 0
TellsNumber = Tells read nat_abs
