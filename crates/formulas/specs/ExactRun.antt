-- "Exact arithmetic takes the same instructions on fractions": all values of a formula, exactly.
use Rattle.std.specs.Prelude.{List, [], ◌∷◌, ◌++◌, ℕ, pos}
use Rattle.std.proofs.Common.{le_refl}
use Rattle.rules.specs.Values.{Fraction}
use Rattle.rules.specs.Exact.{Exact}
use Rattle.formulas.specs.declared.Instruction.{Instruction}
use Rattle.formulas.specs.Run.{with_values}

abbrev pub nought : Fraction
nought = record { numerator = pos 0; denominator = 1; at_least_one = le_refl 1 }

-- from the inputs xs, the instructions give all the values ys
pub data ExactRun (F : ℕ) : List Instruction → List Fraction → List Fraction → Type 0 where
  end : {xs : List Fraction} → ExactRun F [] xs xs
  step : {i : Instruction} {is : List Instruction} {xs ys : List Fraction} (x : Fraction)
      → Exact F (with_values nought xs i) x → ExactRun F is (xs ++ x ∷ []) ys → ExactRun F (i ∷ is) xs ys
