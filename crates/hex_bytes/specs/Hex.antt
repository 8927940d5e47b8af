-- "Line 1: the formula in lower-case hex." "An odd count of hex digits" is another form.
use Rattle.std.specs.Prelude.{◌&&◌, cond, List, [], ◌∷◌, ℕ, ◌+◌, ◌*◌, ◌-◌, leb, Option, Some, None}
use Rattle.parsing.specs.Lines.{some_then, until_none}

-- 0 to 9 are bytes 48 to 57, a to f 97 to 102
unfoldable pub hex_digit : ℕ → Option ℕ
hex_digit b =
    cond (leb 48 b && leb b 57) (Some (b - 48)) (cond (leb 97 b && leb b 102) (Some (b - 87)) None)

unfoldable pub hex_byte : ℕ → ℕ → Option ℕ
hex_byte a b = some_then (hex_digit a) (λ x. some_then (hex_digit b) (λ y. Some (16 * x + y)))

unfoldable pub hex : List ℕ → Option (List ℕ)
hex [] = Some []
hex (a ∷ []) = None
hex (a ∷ b ∷ s) = some_then (hex_byte a b) (λ x. some_then (hex s) (λ bytes. Some (x ∷ bytes)))

-- the bytes of the pairs before the first that is none
unfoldable pub hex_front : List ℕ → List ℕ
hex_front [] = []
hex_front (a ∷ []) = []
hex_front (a ∷ b ∷ s) = until_none (hex_byte a b) (hex_front s)
