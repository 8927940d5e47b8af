-- A walk over a checked formula's instructions, once for the three kinds: what it asks, what it leaves in the work
-- lists, and how it ends.
use Rattle.std.specs.Prelude.{◌≡◌, List, ℕ, ◌+◌, ◌^◌, ◌≤◌, ◌<◌, get_or}
use Rattle.std.specs.declared.result.Result.{Result}
use Rattle.refusals.specs.declared.Refused.{Refused}
use Rattle.lists.specs.All.{All}
use Rattle.std.specs.declared.result.Result.TheVariants.{Ok, Err}
use Rattle.refusals.specs.Refusals.{refusal_number}
use Rattle.refusals.specs.Answer.{Answer, value}
use Rattle.refusals.specs.Said.{Said, answered, refuses}
use Rattle.rules.specs.Numbers.{top_scale}
use Rattle.bits.specs.declared.Cursor.{Cursor}
use Rattle.bits.specs.Reader.{Read}
use Rattle.bits.specs.Fields.{before}
use Rattle.formulas.specs.declared.Header.{Header}
use Rattle.formulas.specs.declared.Instruction.{Instruction}
use Rattle.formulas.specs.Formula.{Smaller, places}
use Rattle.formulas.specs.Run.{Walk, with_values, run, made_by, walk_end}
use Rattle.formulas.specs.Kinds.{Kind, Stands, Puts}
use Rattle.packed.specs.Items.{read}
use Rattle.packed.specs.Format.{results, all_wide}
use Rattle.packed.specs.Meaning.{meant, checked}

-- h is the header of the formula in s, the lists have room for all its values, and its inputs stand in front
pub record Walkable (K : Kind) (s : List ℕ) (h : Header) (l : K.Lists) : Type 0 where
  pub is_formula : checked s ≡ value h
  pub room : places h ≤ K.room l
  pub legal : All K.Legal (K.front h.inputs l)

-- where a walk came to, or the refusal and the instruction that was refused
abbrev pub Walked : Type 0
Walked = Result Cursor Refused

-- the number and place for each way to end
abbrev pub walked_said : Walked → Said
walked_said (Ok d) = answered 0
walked_said (Err e) = refuses (refusal_number e.why) e.place

-- the cursor stands after the header's 32 bits and those of all the instructions, where the output fields begin
pub record AtOutputs (s : List ℕ) (d : Cursor) : Type 0 where
  pub stands : d.at ≡ 32 + all_wide (meant s).program
  pub near : d.at ≤ 2 ^ 20
  pub all : Read (List ℕ)
  pub reads : read (results (meant s).header.outputs (places (meant s).header)) (before s d) ≡ value all
  pub are : all.got ≡ (meant s).results

abbrev pub StandsAfter : List ℕ → Walked → Type 0
StandsAfter s (Ok d) = AtOutputs s d
StandsAfter s (Err e) = Unit {0}

abbrev pub walk_of : (K : Kind) → List ℕ → Header → K.Lists → Walk K.Value
walk_of K s h l = run (K.rule h.scale) K.nothing (meant s).program (K.front h.inputs l)

-- it says how the run ends, the lists hold the values that it made, and a walk that finished stands after the
-- instructions
pub record Walks (K : Kind) (s : List ℕ) (h : Header) (old new : K.Lists) (r : Walked) : Type 0 where
  pub says : walked_said r ≡ walk_end h.inputs (walk_of K s h old)
  pub holds : K.Holds (made_by (walk_of K s h old)) old new
  pub stands : StandsAfter s r

-- value o of the work lists, put as output k
pub record Gives (K : Kind) (k o : ℕ) (work old new : K.Lists) : Type 0 where
  pub given : K.Value
  pub stands : Stands K o work given
  pub puts : Puts K k given old new

-- what reading the value that an operand names asks, of the first `made`, and gives
pub record Named (K : Kind) (made i : ℕ) (l : K.Lists) : Type 0 where
  pub below : i < made
  pub room : made ≤ K.room l
  pub legal : All K.Legal (K.front made l)

pub record Operand (K : Kind) (made i : ℕ) (l : K.Lists) (v : K.Value) : Type 0 where
  pub is : v ≡ get_or (K.front made l) i K.nothing
  pub is_legal : K.Legal v

-- what one instruction on the first `made` values asks, and what answers it
pub record Steppable (K : Kind) (F : ℕ) (i : Instruction) (made : ℕ) (l : K.Lists) : Type 0 where
  pub scale_small : F ≤ top_scale
  pub smaller : Smaller F made i
  pub room : made ≤ K.room l
  pub legal : All K.Legal (K.front made l)

pub record Stepped (K : Kind) (F : ℕ) (i : Instruction) (made : ℕ) (l : K.Lists)
    (got : Answer K.Value) : Type 0 where
  pub by_rule : got ≡ K.rule F (with_values K.nothing (K.front made l) i)
