-- Number j of each reading line, gathered line by line: the lines by the first LF. Assumes nothing.
use Rattle.std.proofs.Common.{◌≡◌, ℕ, ◌+◌, ◌<◌, ◌≤◌, refl, sym, ◌∙◌, ap, Bool, true, false, eqb, List, [], ◌∷◌, length, set, eqb-true, ℤ, arith, SFits, w64, to_z-of_z, Option, Some, None}
use borrow.Author.Tests.{eqb-false}
use Rattle.whole.proofs.Machine.{back}
use Rattle.parsing.specs.Lines.{LF, some_then, until_none, lines}
use Rattle.parsing.specs.Cut.{Halves, in_halves, cut}
use Rattle.parsing.specs.ParsingAnswers.{Gathers}
use Rattle.parsing.proofs.Cuts.{lined, lines_cut, ended_by, ended_cut, cut_long}
use Rattle.parsing.proofs.Gathering.{first_then, Gathering, gathered_room, gathered_one, gathered_all, gathered_malformed}
use Rattle.rows.specs.Rows.{row, number_of, each_row, column, column_of, rows_front, column_front}
use Rattle.rows.proofs.Numbers.{row_some}

module _ (k j : ℕ) where
  abbrev columned : Option (List (List ℤ)) → Option (List ℤ)
  columned o = some_then o (λ rows. Some (column j rows))

  of_lines : Option (List (List ℕ)) → Option (List ℤ)
  of_lines o = columned (some_then o (each_row k))

  by_cut : (s : List ℕ) {o : Option Halves} → cut LF s ≡ o → column_of k j s ≡ of_lines (lined [] s o)
  unfolding of_lines
  by_cut s e = ap of_lines (lines_cut s ∙ ap (lined [] s) e)

  rows_one : (line : List ℕ) (x : Option ℤ) → number_of j (row k line) ≡ x → (o : Option (List (List ℕ)))
      → of_lines (some_then o (λ ls. Some (line ∷ ls))) ≡ first_then x (of_lines o)
  unfolding of_lines
  rows_one line x e None = nothing x
    where
      nothing : (x : Option ℤ) → None ≡ first_then x None
      nothing None = refl
      nothing (Some v) = refl
  rows_one line x e (Some ls) = by_row (row k line) e (each_row k ls)
    where
      by_row : (r : Option (List ℤ)) → number_of j r ≡ x → (rest : Option (List (List ℤ)))
          → columned (some_then r (λ xs. some_then rest (λ rows. Some (xs ∷ rows)))) ≡ first_then x (columned rest)
      by_row None d rest = ap (λ (x : Option ℤ). first_then x (columned rest)) d
      by_row (Some xs) d None = ap (λ (x : Option ℤ). first_then x None) d
      by_row (Some xs) d (Some rows) = ap (λ (x : Option ℤ). first_then x (Some (column j rows))) d

  -- the first line, then the others; or a line that is begun and not ended
  column_cut : (s : List ℕ) {h : Halves} → cut LF s ≡ Some h → {x : Option ℤ} → number_of j (row k h.front) ≡ x
      → column_of k j s ≡ first_then x (column_of k j h.rest)
  unfolding of_lines
  column_cut s {h} e {x} d = by_cut s e ∙ rows_one h.front x d (lines h.rest)

  column_open : (s : List ℕ) → 0 < length s → cut LF s ≡ None → column_of k j s ≡ None
  unfolding of_lines
  column_open [] l e = absurd (omega arith)
  column_open (b ∷ s) l e = by_cut (b ∷ s) e

  abbrev front_by : Option Halves → List ℤ
  front_by o = rows_front k j (ended_by [] o)

  front_cut : (s : List ℕ) {o : Option Halves} → cut LF s ≡ o → column_front k j s ≡ front_by o
  front_cut s e = ap (rows_front k j) (ended_cut s) ∙ ap front_by e

module _ (k j : ℕ) {s rest : List ℕ} {n : ℕ} {old new : List ℤ}
    (g : Gathering (column_of k j) (column_front k j) s rest old new n) {empty : Bool} (tested : empty ≡ eqb (length rest) 0) where
  pub column_all : empty ≡ true → Gathers (column_of k j s) (column_front k j s) old new (Some n)
  unfolding lines
  column_all e = by_rest rest refl
    where
      by_rest : (r : List ℕ) → rest ≡ r → Gathers (column_of k j s) (column_front k j s) old new (Some n)
      by_rest [] q = gathered_all g (ap (column_of k j) q)
      by_rest (b ∷ r) q = let none : length rest ≡ 0 = eqb-true (length rest) 0 (sym tested ∙ e) in absurd (omega (arith, ap length q))

  module _ (more : empty ≡ false) where
    some_left : 0 < length rest
    some_left = let d : length rest ≡ 0 → ⊥ = eqb-false (length rest) 0 (sym tested ∙ more) in omega arith

    pub column_unended : cut LF rest ≡ None → {r : Option ℕ} → r ≡ None → Gathers (column_of k j s) (column_front k j s) old new r
    column_unended uncut e = rw e (gathered_malformed g (column_open k j rest some_left uncut) (front_cut k j rest uncut))

    module _ {line behind : List ℕ} (there : cut LF rest ≡ Some (in_halves line behind)) {v : Option ℤ} (d : v ≡ number_of j (row k line)) where
      first_line : {o : Option ℤ} → v ≡ o → column_of k j rest ≡ first_then o (column_of k j behind)
      first_line e = column_cut k j rest there (sym d ∙ e)

      front_line : {o : Option ℤ} → v ≡ o → column_front k j rest ≡ until_none o (column_front k j behind)
      front_line e = front_cut k j rest there ∙ ap (λ o. until_none o (column_front k j behind)) (sym d ∙ e)

      pub column_bad : v ≡ None → {r : Option ℕ} → r ≡ None → Gathers (column_of k j s) (column_front k j s) old new r
      column_bad b q = rw q (gathered_malformed g (first_line b) (front_line b))

      pub column_one : {x : ℤ} → v ≡ Some x → SFits w64 x → length s ≤ length old + length old
          → Gathering (column_of k j) (column_front k j) s behind old (set new n (back x)) (n + 1)
      column_one {x} b fits room =
          let one = row_some line k j (sym d ∙ b) in
          let same = b ∙ ap Some (sym (to_z-of_z fits)) in
          gathered_one g (back x) (gathered_room g some_left room) (omega (arith, cut_long LF rest there, one)) (first_line same) (front_line same)
