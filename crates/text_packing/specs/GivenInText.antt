-- Request h: each refusal of packing a text, "given exactly when", and what an accepted text leaves.
use Rattle.std.specs.Prelude.{◌≡◌, true, List, [], ◌∷◌, ◌++◌, ℕ, ◌+◌, ◌≤◌, ◌<◌, ℤ, nat_abs, length, take, get_or}
use Rattle.lists.specs.Each.{Each}
use Rattle.refusals.specs.Answer.{value}
use Rattle.rules.specs.Numbers.{M}
use Rattle.rules.specs.Values.{Fraction}
use Rattle.formulas.specs.declared.Instruction.{Instruction}
use Rattle.formulas.specs.declared.Instruction.TheVariants.{Constant, Negate, Add, Subtract}
use Rattle.formulas.specs.declared.Instruction.TheVariants.{Multiply, Coefficient, Reciprocal}
use Rattle.formulas.specs.Formula.{Formula}
use Rattle.formulas.specs.ExactRun.{nought, ExactRun}
use Rattle.packed.specs.Items.{scale, inputs}
use Rattle.packed.specs.Meaning.{formula}
use Rattle.packing.specs.Packing.{fits}
use Rattle.packing.specs.Slots.{packed_bytes}
use Rattle.packing.specs.GivenInPacking.{Unfit}
use Rattle.expressions.specs.Tree.{Tree}
use Rattle.expressions.specs.Texts.{Text, Refusal, open_at_once}
use Rattle.expressions.specs.Compiled.{constant_fits, compiled, worth, Same}

-- a scale and a number of inputs that fit, and bytes that are a text
pub record IsText (F m : ℤ) (s : List ℕ) : Type 0 where
  pub scale_fits : fits scale F ≡ true
  pub inputs_fit : fits inputs m ≡ true
  pub says : Tree
  pub is_text : Text (nat_abs m) open_at_once s says

-- "the one output is the whole text"
abbrev pub formula_said : ℤ → ℤ → Tree → Formula
formula_said F m t =
    let c = compiled (nat_abs F) t (nat_abs m) in
    record {
      header = record { scale = nat_abs F; inputs = nat_abs m; instructions = length c.program; outputs = 1 };
      program = c.program;
      results = c.result ∷ [];
    }

abbrev pub formula_in : {F m : ℤ} {s : List ℕ} → IsText F m s → Formula
formula_in {F} {m} x = formula_said F m x.says

-- "a constant out of range": its reach is over M
abbrev pub OutOfRange : Instruction → Type 0
OutOfRange (Constant c) = M < nat_abs c
OutOfRange (Negate i) = ⊥
OutOfRange (Add i j) = ⊥
OutOfRange (Subtract i j) = ⊥
OutOfRange (Multiply i j) = ⊥
OutOfRange (Coefficient c r) = M < nat_abs c + r
OutOfRange (Reciprocal i) = ⊥

-- none of the instructions is number 513, and each constant is in range
pub record Passed (is : List Instruction) : Type 0 where
  pub few : length is ≤ 512
  pub in_range : Each (λ k i. constant_fits i ≡ true) 0 is

-- "the first instruction that", k standing before it
pub record First (is : List Instruction) (P : ℕ → Instruction → Type 0) : Type 0 where
  pub earlier : List Instruction
  pub this : Instruction
  pub later : List Instruction
  pub in_order : is ≡ earlier ++ this ∷ later
  pub passed : Passed earlier
  pub holds : P (length earlier) this

abbrev pub Number513 : ℕ → Instruction → Type 0
Number513 k i = k ≡ 512

abbrev pub ElseOutOfRange : ℕ → Instruction → Type 0
ElseOutOfRange k i = (k < 512) × OutOfRange i

-- "3 and 4 for scale and m; then, over the whole text, 18 .. or 19 .., its offset the place; then the first instruction
-- that is number 513 (4) or, else, a constant out of range (7); then 10 as in the packer"
pub data GivenInText (room : ℕ) (F m : ℤ) (s : List ℕ) : ℕ → ℕ → Type 0 where
  three : Unfit scale F → GivenInText room F m s 3 0
  four : fits scale F ≡ true → Unfit inputs m → GivenInText room F m s 4 0
  misread : {n p : ℕ} → fits scale F ≡ true → fits inputs m ≡ true → Refusal (nat_abs m) open_at_once s n p → GivenInText room F m s n p
  too_many : (x : IsText F m s) → First (formula_in x).program Number513 → GivenInText room F m s 4 0
  seven : (x : IsText F m s) → First (formula_in x).program ElseOutOfRange → GivenInText room F m s 7 0
  ten : (x : IsText F m s) → Passed (formula_in x).program → room < length (packed_bytes (formula_in x)) → GivenInText room F m s 10 0

-- the bytes of an accepted text are the packer's, of its instructions
pub record Accepts (room : ℕ) (F m : ℤ) (s bytes : List ℕ) : Type 0 where
  pub text : IsText F m s
  pub passed : Passed (formula_in text).program
  pub is : bytes ≡ packed_bytes (formula_in text)
  pub has_room : length bytes ≤ room

-- x is among the exact results of a formula with one output, xs being the inputs
pub record AmongResults (f : Formula) (xs : List Fraction) (x : Fraction) : Type 0 where
  pub output : ℕ
  pub one_output : f.results ≡ output ∷ []
  pub all : List Fraction
  pub runs : ExactRun f.header.scale f.program xs all
  pub is : Same (get_or all output nought) x

-- what an accepted text leaves: n bytes that hold its formula. "Every text has at most one reading", and "exact
-- arithmetic on the text, taking numbers as written, is among the exact results of the formula"
pub record HoldsText (F m : ℤ) (s places : List ℕ) (n : ℕ) : Type 0 where
  pub text : IsText F m s
  pub one_reading : (j : ℕ) (t : Tree) → Text (nat_abs m) j s t → t ≡ text.says
  pub means : formula (take n places) ≡ value (formula_in text)
  pub exact : (xs : List Fraction) → length xs ≡ nat_abs m → AmongResults (formula_in text) xs (worth (λ i. get_or xs i nought) text.says)
