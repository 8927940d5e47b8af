-- Document 01, "The program": "lines ended by LF". What is of another form is `None`.
use Rattle.std.specs.Prelude.{cond, List, [], ◌∷◌, ◌++◌, ℕ, eqb, Option, Some, None}

abbrev pub LF : ℕ
LF = 10

abbrev pub some_then : {A B : Type 0} → Option A → (A → Option B) → Option B
some_then None next = None
some_then (Some a) next = next a

-- what stands in front of the first that is none
abbrev pub until_none : {A : Type 0} → Option A → List A → List A
until_none None rest = []
until_none (Some a) rest = a ∷ rest

-- "input whose last line has no LF": a line that is begun and not ended
abbrev pub if_closed : List ℕ → Option (List (List ℕ))
if_closed [] = Some []
if_closed (b ∷ begun) = None

-- the lines of what follows, where `begun` stands already in the first of them
abbrev pub lines_after : List ℕ → List ℕ → Option (List (List ℕ))
lines_after begun [] = if_closed begun
lines_after begun (b ∷ s) =
    cond (eqb b LF) (some_then (lines_after [] s) (λ ls. Some (begun ∷ ls))) (lines_after (begun ++ b ∷ []) s)

unfoldable pub lines : List ℕ → Option (List (List ℕ))
lines s = lines_after [] s

-- the lines that are ended, whatever stands behind the last of them
abbrev pub ended_after : List ℕ → List ℕ → List (List ℕ)
ended_after begun [] = []
ended_after begun (b ∷ s) = cond (eqb b LF) (begun ∷ ended_after [] s) (ended_after (begun ++ b ∷ []) s)

unfoldable pub ended_lines : List ℕ → List (List ℕ)
ended_lines s = ended_after [] s
