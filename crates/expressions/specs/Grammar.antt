-- The grammar, as it is written in the request.
use Rattle.std.specs.Prelude.{List, [], ◌∷◌, ◌++◌, ℕ, suc, ◌+◌, ◌*◌}
use Rattle.expressions.specs.Tree.{Tree, input, written, negated}
use Rattle.expressions.specs.Kind.{Kind, opens, closes, star, plus, minus, point, digit, letter}

-- "A number has 1 to 9 digits in all, with an optional point between digits." l more digits could follow (9 − l stand), e stand after the point,
-- and v is what the digits say without the point: the number is v/10^e
pub data Number : ℕ → ℕ → List Kind → ℕ → Type 0 where
  first : {d : ℕ} → Number 8 0 (digit d ∷ []) d
  next : {l v : ℕ} {s : List Kind} (d : ℕ) → Number (suc l) 0 s v → Number l 0 (s ++ digit d ∷ []) (10 * v + d)
  pointed : {l v : ℕ} {s : List Kind} (d : ℕ) → Number (suc l) 0 s v → Number l 1 (s ++ point ∷ digit d ∷ []) (10 * v + d)
  further : {l e v : ℕ} {s : List Kind} (d : ℕ) → Number (suc l) (suc e) s v → Number l (suc (suc e)) (s ++ digit d ∷ []) (10 * v + d)

pub data Level : Type 0 where
  a_sum : Level
  a_product : Level
  a_factor : Level

-- the text gives the tree, with at most n parentheses and factor's minuses open at once
pub data Gives : Level → ℕ → List Kind → Tree → Type 0 where
  -- "a factor is a letter a to p, a number, a minus and a factor, or a sum in parentheses"
  a_letter : {n i : ℕ} → Gives a_factor n (letter i ∷ []) (input i)
  a_number : {n l e v : ℕ} {s : List Kind} → Number l e s v → Gives a_factor n s (written v e)
  a_minus : {n : ℕ} {s : List Kind} {t : Tree} → Gives a_factor n s t → Gives a_factor (suc n) (minus ∷ s) (negated t)
  in_parentheses : {n : ℕ} {s : List Kind} {t : Tree} → Gives a_sum n s t → Gives a_factor (suc n) (opens ∷ (s ++ closes ∷ [])) t
  -- "a product is factors joined by *", "grouped from the left"
  one_factor : {n : ℕ} {s : List Kind} {t : Tree} → Gives a_factor n s t → Gives a_product n s t
  times : {n : ℕ} {s r : List Kind} {t u : Tree} → Gives a_product n s t → Gives a_factor n r u → Gives a_product n (s ++ star ∷ r) (Tree.product t u)
  -- "A sum is products joined by + or −", "grouped from the left"
  one_product : {n : ℕ} {s : List Kind} {t : Tree} → Gives a_product n s t → Gives a_sum n s t
  added : {n : ℕ} {s r : List Kind} {t u : Tree} → Gives a_sum n s t → Gives a_product n r u → Gives a_sum n (s ++ plus ∷ r) (Tree.sum t u)
  taken : {n : ℕ} {s r : List Kind} {t u : Tree} → Gives a_sum n s t → Gives a_product n r u → Gives a_sum n (s ++ minus ∷ r) (Tree.difference t u)
