-- A text without a minus, by what reading the number in front of it told. Assumes nothing.
use mathlib.Core.List.{List}
use Prim.Native.Nat.{ℕ, ◌≤◌, ◌<◌}
use lib.ListN.{length}
use Rattle.std.specs.declared.result.Result.TheVariants.{Ok, Err}
use Rattle.numerals.specs.declared.Numeral.{Numeral}
use Rattle.numerals.specs.declared.Wrong.{Wrong}
use Rattle.numerals.specs.Digits.{reading, Reads}
use Rattle.decimal_texts.proofs.Stops.{read_whole, read_short, digit_missing}
use Rattle.decimal_reader.specs.Answers.{TellsMargin}

pub margin_missing : (s : List ℕ) {w : Wrong} → Reads s 1 (reading s) (Err w) → TellsMargin s (Err w)
margin_missing s k = record { is = digit_missing s k.is k.within.1; small = tt }

module _ (s : List ℕ) {front : Numeral} (k : Reads s 1 (reading s) (Ok front)) where
  pub margin_short : front.end < length s → TellsMargin s (Err (record { place = front.end }))
  margin_short l = record { is = read_short s k.is l; small = tt }

  pub margin_whole : length s ≤ front.end → TellsMargin s (Ok front.number)
  margin_whole l = record { is = read_whole s k.is l; small = (k.within.0, k.within.1) }
