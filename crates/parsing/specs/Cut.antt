-- Text at the first place of a byte.
use Rattle.std.specs.Prelude.{cond, List, [], ◌∷◌, ℕ, eqb, Option, Some, None}
use Rattle.parsing.specs.Lines.{some_then}

-- what stands before the first byte b, and what follows it
pub record Halves : Type 0 where
  pub front : List ℕ
  pub rest : List ℕ

abbrev pub in_halves : List ℕ → List ℕ → Halves
in_halves front rest = record { front = front; rest = rest }

abbrev pub cut : ℕ → List ℕ → Option Halves
cut b [] = None
cut b (x ∷ s) =
    cond (eqb x b) (Some (record { front = []; rest = s }))
    (some_then (cut b s) (λ h. Some (record { front = x ∷ h.front; rest = h.rest })))
