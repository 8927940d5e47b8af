-- Document 01, "The program": "a line for each output: y joined to its index from 0, middle, stray, static margin, in
-- decimal, a minus before one below zero, one space between fields, each line ended by LF. `ball` prints centre and
-- margin, `plain` the centre."
use Rattle.std.specs.Prelude.{◌≡◌, List, [], ◌∷◌, ◌++◌, ℕ, suc, ◌<◌, ℤ, length, slice_index_or}
use Rattle.lists.specs.Written.{Wrote}
use Rattle.rules.specs.declared.Ball.{Ball}
use Rattle.rules.specs.declared.Matryoshka.{Matryoshka}
use Rattle.printing.specs.Decimal.{decimal, signed_decimal}

-- each field after its space
abbrev pub plain_fields : ℤ → List ℕ
plain_fields x = 32 ∷ signed_decimal x

abbrev pub ball_fields : Ball → List ℕ
ball_fields b = (32 ∷ signed_decimal b.centre) ++ (32 ∷ decimal b.margin)

abbrev pub matryoshka_fields : Matryoshka → List ℕ
matryoshka_fields m = (32 ∷ signed_decimal m.middle) ++ (32 ∷ decimal m.stray) ++ (32 ∷ decimal m.margin)

-- "y joined to its index", the fields of the value, LF
abbrev pub line : {A : Type 0} → (A → List ℕ) → ℕ → A → List ℕ
line fields i v = (121 ∷ decimal i) ++ fields v ++ (10 ∷ [])

-- the lines of the values, the first of index i
unfoldable pub listed : {A : Type 0} → (A → List ℕ) → ℕ → List A → List ℕ
listed fields i [] = []
listed fields i (v ∷ vs) = line fields i v ++ listed fields (suc i) vs

-- the lines of values were written, of each index below n one that is given for it
pub record Lists {A : Type 0} (fields : A → List ℕ) (gives : ℕ → A → Type 0) (n at : ℕ) (old now : List ℕ) (r : ℕ) : Type 0 where
  pub values : List A
  pub many : length values ≡ n
  pub given : (i : ℕ) (d : A) → i < n → gives i (slice_index_or values i d)
  pub writes : Wrote (listed fields 0 values) at old now r
