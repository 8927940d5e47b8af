-- Texts are bytes: what the grammar and the parser say of bytes.
use Rattle.std.specs.Prelude.{List, ◌++◌, map, ℕ, suc, ◌-◌, ◌<◌, length, take}
use Rattle.expressions.specs.Tree.{Tree}
use Rattle.expressions.specs.Kind.{kind}
use Rattle.expressions.specs.Grammar.{a_sum, Gives}
use Rattle.expressions.specs.Parser.{Outcome, accepted, stopped, run, beginning}

-- the bytes s are a text over m letters that says t, with at most n parentheses and minuses open at once
pub record Text (m n : ℕ) (s : List ℕ) (t : Tree) : Type 0 where
  pub gives : Gives a_sum n (map (kind m) s) t

-- some text with at most n open at once begins so
pub record Begins (m n : ℕ) (s : List ℕ) : Type 0 where
  pub rest : List ℕ
  pub says : Tree
  pub is_text : Text m n (s ++ rest) says

-- the parser's answer: the tree, or a refusal's number and place
pub data Parsed : Type 0 where
  tree : Tree → Parsed
  refused_at : ℕ → ℕ → Parsed

abbrev pub placed : ℕ → Outcome → Parsed
placed n (accepted t) = tree t
placed n (stopped r cs) = refused_at r (n - length cs)

abbrev pub open_at_once : ℕ
open_at_once = 32

abbrev pub parse : ℕ → ℕ → List ℕ → Parsed
parse m n s = placed (length s) (run (beginning n) (map (kind m) s))

-- "18 at the first byte that no text of this grammar with this beginning has there (or at the end), or 19 at the 33rd parenthesis or factor's
-- minus open at once, whichever byte is earlier, its offset the place": the bytes before the place begin a text with at most n open at once
pub data Refusal (m n : ℕ) (s : List ℕ) : ℕ → ℕ → Type 0 where
  -- no text, with any number open at once, begins with these bytes and this one
  wrong_byte : {p : ℕ} → p < length s → Begins m n (take p s) → ((j : ℕ) → Begins m j (take (suc p) s) → ⊥) → Refusal m n s 18 p
  -- a text could go on so, and this is none
  wrong_end : Begins m n s → ((j : ℕ) (t : Tree) → Text m j s t → ⊥) → Refusal m n s 18 (length s)
  -- texts begin so, but all with more than n open at once, and n + 1 are enough
  too_many : {p : ℕ} → p < length s → Begins m n (take p s) → Begins m (suc n) (take (suc p) s) → (Begins m n (take (suc p) s) → ⊥) → Refusal m n s 19 p
