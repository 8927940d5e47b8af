-- A text with a minus or without, by what reading the rest told. Assumes nothing.
use mathlib.Core.Path.{◌≡◌, sym, ◌∙◌, subst}
use mathlib.Core.Bool.{Bool, true, false, not}
use mathlib.Core.List.{List}
use Prim.Native.Nat.{ℕ, ◌+◌, ◌-◌, ◌^◌, ◌<◌}
use native.Mathlib.Numerals.{add-one}
use native.Mathlib.Omega.{arith}
use borrow.Author.Rules.{part_to_end}
use borrow.Author.Tests.{not-true, not-false}
use lib.IntN.{pos, ◌-ℤ◌}
use lib.ListN.{length, take, drop}
use mir.Syntax.{w64}
use mir.Val.{to_z}
use mir.ValLaws.{to_z_pos}
use Rattle.std.specs.declared.result.Result.{Result}
use Rattle.std.specs.declared.result.Result.TheVariants.{Ok, Err}
use Rattle.whole.proofs.Machine.{back}
use Rattle.whole.proofs.Minus.{size_minus, minus_back}
use Rattle.numerals.specs.declared.Decimal.{Decimal}
use Rattle.numerals.specs.declared.Wrong.{Wrong}
use Rattle.numerals.specs.Decimals.{decimal}
use Rattle.decimal_texts.specs.Texts.{minus_first}
use Rattle.decimal_texts.proofs.Signs.{read_below, read_above, misplaced_below, misplaced_above}
use Rattle.decimal_reader.specs.Answers.{TellsMargin, TellsNumber}

-- without a minus
module _ (s : List ℕ) {t : Bool} (m : t ≡ minus_first s) (k : not t ≡ true) where
  none_first : minus_first s ≡ false
  none_first = sym m ∙ not-true t k

  pub above_wrong : {w : Wrong} → TellsMargin s (Err w) → TellsNumber s (Err w)
  above_wrong d = record { is = misplaced_above s none_first d.is; small = tt }

  pub above_is : {y : Decimal ℕ} → TellsMargin s (Ok y) → TellsNumber s (Ok (decimal (to_z w64 y.count) y.places))
  above_is {y} d =
      let brief : y.count < 2 ^ 63 = omega (arith, d.small.0) in
      rw (to_z_pos w64 y.count brief) (record { is = read_above s none_first d.is; small = d.small })

-- behind one
module _ (s : List ℕ) {t : Bool} (m : t ≡ minus_first s) (k : not t ≡ false) {r : Result (Decimal ℕ) Wrong}
    (d : TellsMargin (take (length s - 1) (drop 1 s)) r) where
  one_first : minus_first s ≡ true
  one_first = sym m ∙ not-false t k

  rest : {i : Result (Decimal ℕ) Wrong} → r ≡ i → TellsMargin (drop 1 s) i
  rest e = subst (TellsMargin (drop 1 s)) e (subst (λ l. TellsMargin l r) (part_to_end s 1) d)

  pub below_wrong : {w : Wrong} → r ≡ Err w → TellsNumber s (Err (record { place = w.place + 1 }))
  below_wrong {w} g = record { is = rw (add-one w.place) (misplaced_below s one_first (rest g).is); small = tt }

  pub below_is : {y : Decimal ℕ} → r ≡ Ok y → TellsNumber s (Ok (decimal (back (pos 0 -ℤ to_z w64 y.count)) y.places))
  below_is {y} g =
      let q = rest g in
      let brief : y.count < 2 ^ 63 = omega (arith, q.small.0) in
      rw (minus_back {n = y.count} brief)
      (record { is = read_below s one_first q.is; small = (omega (arith, size_minus y.count, q.small.0), q.small.1) })
