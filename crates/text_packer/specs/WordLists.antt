-- The words that a text's instructions are kept in, as the packer's lists.
use Rattle.std.specs.Prelude.{List, [], ◌∷◌, ℕ, pos}
use Rattle.packing.specs.Raw.{Parts, parts}
use Rattle.text_packer.specs.WordNumbers.{code_in, first_in, second_in, column_of}

-- with the one output
abbrev pub words_parts : ℕ → List ℕ → Parts
words_parts v words = parts (column_of code_in words) (column_of first_in words) (column_of second_in words) (pos v ∷ [])
