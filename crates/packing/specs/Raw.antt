-- Request a: what is handed over for packing, numbers that may be anything, and the formula that they make where they
-- are permitted.
use Rattle.std.specs.Prelude.{Bool, true, cond, ◌&&◌, List, [], ◌∷◌, map, ℕ, zero, suc, eqb, ℤ, pos, negsuc, nat_abs, length}
use Rattle.formulas.specs.declared.Instruction.{Instruction}
use Rattle.formulas.specs.declared.Instruction.TheVariants.{Constant, Negate, Add, Subtract}
use Rattle.formulas.specs.declared.Instruction.TheVariants.{Multiply, Coefficient, Reciprocal}
use Rattle.formulas.specs.Formula.{Formula}

-- an instruction, "just the fields its code has": a code with one field leaves the second alone
pub record RawInstruction : Type 0 where
  pub code : ℤ
  pub first : ℤ
  pub second : ℤ

-- "from scale, m, a list of instructions .. and a list of outputs"; whether the lists that carried the instructions
-- were as long as one another
pub record RawFormula : Type 0 where
  pub scale : ℤ
  pub inputs : ℤ
  pub program : List RawInstruction
  pub as_long : Bool
  pub results : List ℤ

abbrev pub raw : ℤ → ℤ → ℤ → RawInstruction
raw c a b = record { code = c; first = a; second = b }

-- l; lists of different lengths name no number of instructions, and a number below 0 stands for none
abbrev pub number_of : Bool → ℕ → ℤ
number_of as_long l = cond as_long (pos l) (negsuc 0)

abbrev pub count : RawFormula → ℤ
count r = number_of r.as_long (length r.program)

-- ---- held "as readings are, one list a part"

pub record Parts : Type 0 where
  pub codes : List ℤ
  pub firsts : List ℤ
  pub seconds : List ℤ
  pub outputs : List ℤ

abbrev pub parts : List ℤ → List ℤ → List ℤ → List ℤ → Parts
parts codes firsts seconds outputs = record { codes = codes; firsts = firsts; seconds = seconds; outputs = outputs }

-- lists of these lengths are as long as one another
abbrev pub same_lengths : ℕ → ℕ → ℕ → Bool
same_lengths codes firsts seconds = eqb codes firsts && eqb codes seconds

-- as far as all three go
abbrev pub instructions_of : List ℤ → List ℤ → List ℤ → List RawInstruction
instructions_of [] fs ss = []
instructions_of (c ∷ cs) [] ss = []
instructions_of (c ∷ cs) (a ∷ fs) [] = []
instructions_of (c ∷ cs) (a ∷ fs) (b ∷ ss) = raw c a b ∷ instructions_of cs fs ss

abbrev pub handed : ℤ → ℤ → Parts → RawFormula
handed F m p =
    record {
      scale = F;
      inputs = m;
      program = instructions_of p.codes p.firsts p.seconds;
      as_long = same_lengths (length p.codes) (length p.firsts) (length p.seconds);
      results = p.outputs;
    }

abbrev pub parts_of : RawFormula → Parts
parts_of r =
    record {
      codes = map (λ i. i.code) r.program;
      firsts = map (λ i. i.first) r.program;
      seconds = map (λ i. i.second) r.program;
      outputs = r.results;
    }

-- ---- a formula, as it would be handed over: one case for each instruction; a missing field is 0

abbrev pub raw_of : Instruction → RawInstruction
raw_of (Constant c) = raw (pos 0) c (pos 0)
raw_of (Negate i) = raw (pos 1) (pos i) (pos 0)
raw_of (Add i j) = raw (pos 2) (pos i) (pos j)
raw_of (Subtract i j) = raw (pos 3) (pos i) (pos j)
raw_of (Multiply i j) = raw (pos 4) (pos i) (pos j)
raw_of (Coefficient c r) = raw (pos 5) c (pos r)
raw_of (Reciprocal i) = raw (pos 6) (pos i) (pos 0)

abbrev pub raw_formula : Formula → RawFormula
raw_formula f =
    record {
      scale = pos f.header.scale;
      inputs = pos f.header.inputs;
      program = map raw_of f.program;
      as_long = true;
      results = map pos f.results;
    }

-- ---- what was handed over, as a formula: one case for each code; a number that no field may hold is read as some
-- number

abbrev pub made_of : ℤ → ℤ → ℤ → Instruction
made_of (pos zero) a b = Constant a
made_of (pos (suc zero)) a b = Negate (nat_abs a)
made_of (pos (suc (suc zero))) a b = Add (nat_abs a) (nat_abs b)
made_of (pos (suc (suc (suc zero)))) a b = Subtract (nat_abs a) (nat_abs b)
made_of (pos (suc (suc (suc (suc zero))))) a b = Multiply (nat_abs a) (nat_abs b)
made_of (pos (suc (suc (suc (suc (suc zero)))))) a b = Coefficient a (nat_abs b)
made_of (pos (suc (suc (suc (suc (suc (suc k))))))) a b = Reciprocal (nat_abs a)
made_of (negsuc k) a b = Constant a

abbrev pub instruction_of : RawInstruction → Instruction
instruction_of r = made_of r.code r.first r.second

abbrev pub formula_of : RawFormula → Formula
formula_of r =
    record {
      header =
          record {
            scale = nat_abs r.scale;
            inputs = nat_abs r.inputs;
            instructions = length r.program;
            outputs = length r.results;
          };
      program = map instruction_of r.program;
      results = map nat_abs r.results;
    }

-- ---- the same with 0 for what the codes leave alone: one case for each code

abbrev pub own_second : ℤ → ℤ → ℤ
own_second (pos zero) b = pos 0
own_second (pos (suc zero)) b = pos 0
own_second (pos (suc (suc zero))) b = b
own_second (pos (suc (suc (suc zero)))) b = b
own_second (pos (suc (suc (suc (suc zero))))) b = b
own_second (pos (suc (suc (suc (suc (suc zero)))))) b = b
own_second (pos (suc (suc (suc (suc (suc (suc k))))))) b = pos 0
own_second (negsuc k) b = b

abbrev pub own : RawInstruction → RawInstruction
own r = raw r.code r.first (own_second r.code r.second)

abbrev pub own_formula : RawFormula → RawFormula
own_formula r =
    record {
      scale = r.scale;
      inputs = r.inputs;
      program = map own r.program;
      as_long = r.as_long;
      results = r.results;
    }
