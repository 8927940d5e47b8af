-- What is printed for an input whose lines are parted.
use Rattle.std.specs.Prelude.{List, ◌∷◌, ℕ, ◌≤◌, length, Some}
use Rattle.parsing.specs.Lines.{some_then, lines}
use Rattle.telling.specs.Program.{longest_input, if_lines}

-- what is printed, of an input whose first two lines are ended
abbrev pub by_parts : List ℕ → List ℕ → List ℕ → List ℕ
by_parts formula word readings = if_lines (some_then (lines readings) (λ ls. Some (formula ∷ word ∷ ls)))

-- two parts of an input that is not too long, and room for every answer
pub record Short (formula rest out : List ℕ) : Type 0 where
  pub formula_short : length formula ≤ longest_input
  pub rest_short : length rest ≤ longest_input
  pub room : 2048 ≤ length out
