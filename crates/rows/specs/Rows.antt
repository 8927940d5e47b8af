-- "Then one line a reading: 1 (`plain`), 2 (`ball`) or 3 (`admit`) decimal numbers with one space between."
use Rattle.std.specs.Prelude.{List, [], ◌∷◌, map, ℕ, zero, suc, ℤ, pos, get_or, Option, Some, None}
use Rattle.parsing.specs.Lines.{some_then, until_none, lines, ended_lines}
use Rattle.parsing.specs.Cut.{cut}
use Rattle.parsing.specs.Number.{number_meant}

abbrev pub space : ℕ
space = 32

-- k numbers, one space between
abbrev pub row : ℕ → List ℕ → Option (List ℤ)
row zero line = None
row (suc zero) line = some_then (number_meant line) (λ x. Some (x ∷ []))
row (suc (suc k)) line =
    some_then (cut space line) (λ h. some_then (number_meant h.front)
    (λ x. some_then (row (suc k) h.rest) (λ xs. Some (x ∷ xs))))

-- number j of a line
abbrev pub number_of : ℕ → Option (List ℤ) → Option ℤ
number_of j None = None
number_of j (Some xs) = Some (get_or xs j (pos 0))

abbrev pub each_row : ℕ → List (List ℕ) → Option (List (List ℤ))
each_row k [] = Some []
each_row k (l ∷ ls) = some_then (row k l) (λ x. some_then (each_row k ls) (λ xs. Some (x ∷ xs)))

-- number j of each reading line
abbrev pub column : ℕ → List (List ℤ) → List ℤ
column j rows = map (λ (xs : List ℤ). get_or xs j (pos 0)) rows

-- the reading lines that stand in s, k numbers on each; and number j of each
abbrev pub rows_of : ℕ → List ℕ → Option (List (List ℤ))
rows_of k s = some_then (lines s) (each_row k)

abbrev pub column_of : ℕ → ℕ → List ℕ → Option (List ℤ)
column_of k j s = some_then (rows_of k s) (λ rows. Some (column j rows))

-- number j of each ended line before the first that has another form
abbrev pub rows_front : ℕ → ℕ → List (List ℕ) → List ℤ
rows_front k j [] = []
rows_front k j (l ∷ ls) = until_none (number_of j (row k l)) (rows_front k j ls)

abbrev pub column_front : ℕ → ℕ → List ℕ → List ℤ
column_front k j s = rows_front k j (ended_lines s)
