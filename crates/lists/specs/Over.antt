-- Lists that a caller lends: what one holds after its front was written, and how many places several have.
use Rattle.std.specs.Prelude.{cond, List, ◌++◌, ℕ, leb, length, drop}

-- the new values, then what it held from there on
abbrev pub over : {A : Type 0} → List A → List A → List A
over new old = new ++ drop (length new) old

unfoldable pub least : ℕ → ℕ → ℕ
least a b = cond (leb a b) a b
