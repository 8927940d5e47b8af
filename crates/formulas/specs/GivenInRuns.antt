-- Document 01, "Numbered replies and their order", the column "Given exactly when", for refusals 10 and 11 of a job of
-- any kind, request c's words for 13, 14 and 15, and request e's for 17.
use Rattle.std.specs.Prelude.{◌≡◌, List, [], ◌∷◌, ◌++◌, ◌⊎◌, ℕ, ◌+◌, ◌≤◌, ◌<◌, ℤ, pos, negsuc, nat_abs, length}
use Rattle.refusals.specs.Answer.{Answer, value}
use Rattle.rules.specs.Numbers.{M}
use Rattle.rules.specs.Values.{plain_reach, ball_reach, matryoshka_reach}
use Rattle.rules.specs.Operation.{Operation, reciprocal}
use Rattle.rules.specs.Plain.{plain_result}
use Rattle.rules.specs.Balls.{ball_result}
use Rattle.rules.specs.Matryoshki.{matryoshka_result}
use Rattle.formulas.specs.declared.Header.{Header}
use Rattle.formulas.specs.declared.Instruction.{Instruction}
use Rattle.formulas.specs.Formula.{Formula, places}
use Rattle.formulas.specs.Run.{finished, with_values, run}
use Rattle.formulas.specs.Readings.{Reading, reading_reach}
use Rattle.formulas.specs.Kinds.{Kind, plain_kind, ball_kind, matryoshka_kind, tested}
use Rattle.formulas.specs.Job.{Lent}

-- what the words say of a kind: which of its values may be 0, a step's result, how far it reaches, and how many places
-- each lent list has
pub record Terms (K : Kind) : Type 1 where
  pub MayBeZero : K.Value → Type 0
  pub result : ℕ → Operation K.Value → K.Value
  pub reach : K.Value → ℕ
  pub lengths : K.Lists → List ℕ

-- "if a is 0 (plain), |a| is at most r (ball) or |A| is at most R+r (admission)"
abbrev pub plain_terms : Terms plain_kind
plain_terms =
    record {
      MayBeZero = λ a. a ≡ pos 0;
      result = plain_result;
      reach = plain_reach;
      lengths = λ l. length l ∷ [];
    }

abbrev pub ball_terms : Terms ball_kind
ball_terms =
    record {
      MayBeZero = λ x. nat_abs x.centre ≤ x.margin;
      result = ball_result;
      reach = ball_reach;
      lengths = λ l. length l.centres ∷ length l.margins ∷ [];
    }

abbrev pub matryoshka_terms : Terms matryoshka_kind
matryoshka_terms =
    record {
      MayBeZero = λ x. nat_abs x.middle ≤ x.stray + x.margin;
      result = matryoshka_result;
      reach = matryoshka_reach;
      lengths = λ l. length l.middles ∷ length l.strays ∷ length l.margins ∷ [];
    }

-- "13 wrong number of readings": one of the lists that carry them has not m
abbrev pub OneOther : ℕ → List ℕ → Type 0
OneOther m [] = ⊥
OneOther m (n ∷ ns) = (n ≡ m → ⊥) ⊎ OneOther m ns

-- "14 if a stray or margin is negative"
abbrev pub BelowZero : ℤ → Type 0
BelowZero (pos n) = ⊥
BelowZero (negsuc n) = Unit

abbrev pub Negative : Reading → Type 0
Negative g = BelowZero g.stray ⊎ BelowZero g.margin

-- "15 for reach or size"
abbrev pub TooLarge : Reading → Type 0
TooLarge g = M < reading_reach g

abbrev pub Bad : Reading → Type 0
Bad g = Negative g ⊎ TooLarge g

-- "the lowest": no reading before it is bad
pub record Lowest (m : ℕ) (g : ℕ → Reading) (k : ℕ) : Type 0 where
  pub among : k < m
  pub none_before : (j : ℕ) → j < k → Bad (g j) → ⊥

-- the bytes are a formula, so none of 1 to 8 is given
pub record Read (a : Answer Formula) : Type 0 where
  pub formula : Formula
  pub means : a ≡ value formula

-- the bytes are a formula and the readings pass, so none of 1 to 8 and of 13 to 15 is given
pub record Passed (K : Kind) (a : Answer Formula) (given : K.Readings) : Type 0 where
  pub formula : Formula
  pub means : a ≡ value formula
  pub values : List K.Value
  pub fits : tested K formula.header.inputs given ≡ value values

-- one of these lists has under n places
abbrev pub OneUnder : ℕ → List ℕ → Type 0
OneUnder n [] = ⊥
OneUnder n (k ∷ ks) = (k < n) ⊎ OneUnder n ks

-- "a work list has under m+l places or an output list under n"
pub data NoRoom (K : Kind) (T : Terms K) (h : Header) (lent : Lent K) : Type 0 where
  work_short : OneUnder (places h) (T.lengths lent.work) → NoRoom K T h lent
  output_short : OneUnder h.outputs (T.lengths lent.output) → NoRoom K T h lent

-- the first k instructions were carried out, and then comes the next one
pub record Comes (K : Kind) (f : Formula) (values : List K.Value) (k : ℕ) : Type 0 where
  pub earlier : List Instruction
  pub instruction : Instruction
  pub later : List Instruction
  pub in_order : f.program ≡ earlier ++ instruction ∷ later
  pub number : length earlier ≡ k
  pub made : List K.Value
  pub carried_out : run (K.rule f.header.scale) K.nothing earlier values ≡ finished made

-- that instruction with the values of its operands
abbrev pub coming : {K : Kind} {f : Formula} {values : List K.Value} {k : ℕ} → Comes K f values k
    → Operation K.Value
coming {K} c = with_values K.nothing c.made c.instruction

-- 17: a reciprocal of what may be 0
pub data DividesBy {A : Type 0} (MayBeZero : A → Type 0) : Operation A → Type 0 where
  reciprocal_of : {a : A} → MayBeZero a → DividesBy MayBeZero (reciprocal a)

-- "a step's result is out of reach"
abbrev pub TooFar : {K : Kind} → Terms K → ℕ → Operation K.Value → Type 0
TooFar T F o = M < T.reach (T.result F o)

-- in each list that carries readings as many as the formula has inputs
abbrev pub Counted : (K : Kind) → Formula → K.Readings → Type 0
Counted K f given = OneOther f.header.inputs (K.brought given).counts → ⊥

-- each number's condition, and its place
pub data GivenInRun (K : Kind) (T : Terms K) (a : Answer Formula) (given : K.Readings)
    (lent : Lent K) : ℕ → ℕ → Type 0 where
  thirteen : (r : Read a) → OneOther r.formula.header.inputs (K.brought given).counts
      → GivenInRun K T a given lent 13 0
  fourteen : (r : Read a) → Counted K r.formula given → {k : ℕ}
      → Lowest r.formula.header.inputs (K.brought given).reading_at k
      → Negative ((K.brought given).reading_at k) → GivenInRun K T a given lent 14 k
  fifteen : (r : Read a) → Counted K r.formula given → {k : ℕ}
      → Lowest r.formula.header.inputs (K.brought given).reading_at k
      → (Negative ((K.brought given).reading_at k) → ⊥) → TooLarge ((K.brought given).reading_at k)
      → GivenInRun K T a given lent 15 k
  ten : (p : Passed K a given) → NoRoom K T p.formula.header lent → GivenInRun K T a given lent 10 0
  eleven : (p : Passed K a given) → (NoRoom K T p.formula.header lent → ⊥)
      → {k : ℕ} → (c : Comes K p.formula p.values k) → (DividesBy T.MayBeZero (coming c) → ⊥)
      → TooFar T p.formula.header.scale (coming c) → GivenInRun K T a given lent 11 k
  seventeen : (p : Passed K a given) → (NoRoom K T p.formula.header lent → ⊥)
      → {k : ℕ} → (c : Comes K p.formula p.values k) → DividesBy T.MayBeZero (coming c)
      → GivenInRun K T a given lent 17 k

-- which numbers a job gives: "9 is no longer given", and 12 is the program's own
pub record JobNumber (n : ℕ) : Type 0 where
  pub not_nine : n ≡ 9 → ⊥
  pub not_twelve : n ≡ 12 → ⊥
  pub most : n ≤ 17
