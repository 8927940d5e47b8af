-- "Decimal numbers .. each of 1 to 10 digits after an optional minus."
use Rattle.std.specs.Prelude.{◌&&◌, cond, List, [], ◌∷◌, ℕ, ◌+◌, ◌*◌, ◌-◌, leb, eqb, ℤ, pos, neg_ℤ, length, Option, Some, None}
use Rattle.parsing.specs.Lines.{some_then}

-- the number that digits make after those that made n
abbrev pub digits_after : ℕ → List ℕ → Option ℕ
digits_after n [] = Some n
digits_after n (b ∷ s) = cond (leb 48 b && leb b 57) (digits_after (10 * n + (b - 48)) s) None

unfoldable pub digits_meant : List ℕ → Option ℕ
digits_meant s = cond (leb 1 (length s) && leb (length s) 10) (digits_after 0 s) None

unfoldable pub number_meant : List ℕ → Option ℤ
number_meant [] = None
number_meant (b ∷ s) =
    cond (eqb b 45) (some_then (digits_meant s) (λ n. Some (neg_ℤ (pos n))))
    (some_then (digits_meant (b ∷ s)) (λ n. Some (pos n)))
