-- A line with a number on it is not empty. Assumes nothing.
use Rattle.std.proofs.Common.{◌≡◌, ℕ, zero, suc, ◌≤◌, refl, sym, ◌∙◌, List, [], ◌∷◌, length, ℤ, arith, Option, Some, None}
use Rattle.parsing.specs.Number.{number_meant}
use Rattle.rows.specs.Rows.{row, number_of}

empty_row : (k j : ℕ) → number_of j (row k []) ≡ None
unfolding number_meant
empty_row zero j = refl
empty_row (suc zero) j = refl
empty_row (suc (suc k)) j = refl

pub row_some : (line : List ℕ) (k j : ℕ) {x : ℤ} → number_of j (row k line) ≡ Some x → 1 ≤ length line
row_some [] k j e = let never : ◌≡◌ {A = Option ℤ} None (Some _) = sym (empty_row k j) ∙ e in cc
row_some (b ∷ line) k j e = omega arith
