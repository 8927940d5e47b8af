-- One answer is right of each text. Assumes nothing.
use mathlib.Core.Path.{◌≡◌, ap}
use mathlib.Core.List.{List}
use mathlib.Core.Option.{Option}
use Prim.Native.Nat.{ℕ}
use lib.IntN.{ℤ}
use Rattle.std.specs.declared.result.Result.{Result}
use Rattle.std.specs.declared.result.Result.TheVariants.{Ok, Err}
use Rattle.numerals.specs.declared.Decimal.{Decimal}
use Rattle.numerals.specs.declared.Wrong.{Wrong}
use Rattle.decimal_texts.proofs.Places.{one_misplaced, never_both}
use Rattle.decimal_reader.specs.Answers.{Is, Tells, TellsMargin, TellsNumber}

one_outcome : {A : Type 0} {f : List ℕ → Option (Decimal A)} {size : A → ℕ} {s : List ℕ} (r t : Result (Decimal A) Wrong) → Tells f size s r
    → Tells f size s t → r ≡ t
one_outcome {A} {f} {size} {s} r t k l = by_case r t k.is l.is
  where
    by_case : (r t : Result (Decimal A) Wrong) → Is f s r → Is f s t → r ≡ t
    by_case (Ok x) (Ok y) k l = let same : x ≡ y = cc in ap Ok same
    by_case (Ok x) (Err w) k l = absurd (never_both l (record { worth = x; is = k }))
    by_case (Err w) (Ok y) k l = absurd (never_both k (record { worth = y; is = l }))
    by_case (Err v) (Err w) k l = ap (λ p. Err (record { place = p })) (one_misplaced k l)

module _ {s : List ℕ} where
  pub margin_one_outcome : (r t : Result (Decimal ℕ) Wrong) → TellsMargin s r → TellsMargin s t → r ≡ t
  margin_one_outcome = one_outcome

  pub number_one_outcome : (r t : Result (Decimal ℤ) Wrong) → TellsNumber s r → TellsNumber s t → r ≡ t
  number_one_outcome = one_outcome
