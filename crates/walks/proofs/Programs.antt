-- The instructions at a cursor: the first of them, and those after it. Assumes nothing.
use mathlib.Core.Path.{◌≡◌, sym, ◌∙◌, ap}
use mathlib.Core.List.{List, ◌∷◌}
use Prim.Native.Nat.{ℕ, suc}
use Rattle.refusals.specs.Answer.{value}
use Rattle.bits.specs.declared.Cursor.{Cursor}
use Rattle.bits.specs.Reader.{Read}
use Rattle.bits.specs.Fields.{before}
use Rattle.bits.proofs.Digits.{bits_are, are_bits_drop}
use Rattle.formulas.specs.declared.Instruction.{Instruction}
use Rattle.packed.specs.Items.{Form, done, read, ◌>>=◌}
use Rattle.packed.specs.Format.{instruction, several, program}
use Rattle.formulas.specs.Formula.{Smaller}
use Rattle.lists.specs.Each.{Each}
use Rattle.packed.proofs.InTurn.{read_bind}
use Rattle.refusals.proofs.Answers.{first_of, same_value}
use Rattle.packed.proofs.WellFormed.{read_gives, several_gives, instruction_gives}

-- so many instructions of a formula of scale F stand at the cursor, the first of which makes value v
pub record Program (s : List ℕ) (F : ℕ) (c : Cursor) (count v : ℕ) : Type 0 where
  pub all : Read (List Instruction)
  pub reads : read (program F count v) (before s c) ≡ value all

pub program_smaller : {s : List ℕ} {F : ℕ} {c : Cursor} {n v : ℕ} (p : Program s F c n v) → Each (Smaller F) v p.all.got
program_smaller {s} {F} {c} {n} {v} p = (read_gives (several_gives (instruction_gives F) n v) (are_bits_drop c.at (bits_are s)) p.reads).0

-- the first instruction, and the bits after it hold the others
pub record Split (s : List ℕ) (F : ℕ) (c : Cursor) (n v : ℕ) (all : Read (List Instruction)) : Type 0 where
  pub here : Read Instruction
  pub reads_here : read (instruction F v) (before s c) ≡ value here
  pub rest : Read (List Instruction)
  pub reads_rest : read (several (instruction F) n (suc v)) here.left ≡ value rest
  pub both : all.got ≡ here.got ∷ rest.got
  pub last : rest.left ≡ all.left

pub program_split : {s : List ℕ} {F : ℕ} {c : Cursor} {n v : ℕ} (p : Program s F c (suc n) v) → Split s F c n v p.all
unfolding several
program_split {s} {F} {c} {n} {v} p =
    let after : Instruction → Form (List Instruction) = λ a. several (instruction F) n (suc v) >>= λ more. done (a ∷ more) in
    let a = first_of (read (instruction F v) (before s c)) (λ x. read (after x.got) x.left) (sym (read_bind (instruction F v) after (before s c)) ∙ p.reads) in
    let h = a.first in
    let b =
    first_of (read (several (instruction F) n (suc v)) h.left) (λ y. value (record { got = h.got ∷ y.got; left = y.left }))
    (sym (read_bind (several (instruction F) n (suc v)) (λ more. done (h.got ∷ more)) h.left) ∙ a.then_was) in
    record {
      here = h;
      reads_here = a.was;
      rest = b.first;
      reads_rest = b.was;
      both = sym (ap (λ (r : Read (List Instruction)). r.got) (same_value b.then_was));
      last = ap (λ (r : Read (List Instruction)). r.left) (same_value b.then_was);
    }
