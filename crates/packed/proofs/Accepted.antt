-- The parts of an accepted formula, each read from where the one before it ended. Assumes nothing.
use mathlib.Core.Path.{◌≡◌, refl, sym, ◌∙◌, ap, subst}
use mathlib.Core.List.{List}
use Prim.Native.Nat.{ℕ, ◌+◌}
use lib.ListN.{drop}
use lib.Seq.{drop-drop}
use Rattle.refusals.specs.Answer.{Answer, value, refused, then}
use Rattle.bits.specs.Bits.{bits}
use Rattle.bits.specs.Reader.{Read}
use Rattle.formulas.specs.declared.Header.{Header}
use Rattle.formulas.specs.declared.Instruction.{Instruction}
use Rattle.packed.specs.Items.{FieldKind, width, Form, done, ask, read, ◌>>=◌}
use Rattle.packed.specs.Format.{header, program, results}
use Rattle.formulas.specs.Formula.{Formula}
use Rattle.packed.specs.Meaning.{body, whole, if_padded, formula, checked}
use Rattle.packed.proofs.InTurn.{read_bind}
use Rattle.refusals.proofs.Answers.{first_of, no_value, same_value, same_refusal}
use Rattle.packed.proofs.Shapes.{asked}
use Rattle.packed.proofs.WellFormed.{if_value}

-- a form that takes so many bits, whatever it reads
data Takes {A : Type 0} : ℕ → Form A → Type 0 where
  none : {a : A} → Takes 0 (done a)
  some : {k : FieldKind} {f : ℕ → Form A} (w : ℕ) → ((n : ℕ) → Takes w (f n)) → Takes (width k + w) (ask k f)

takes_left : {A : Type 0} {w : ℕ} {f : Form A} (bs : List ℕ) {x : Read A} → Takes w f → read f bs ≡ value x
    → x.left ≡ drop w bs
takes_left bs none e = ap (λ (r : Read _). r.left) (sym (same_value e))
takes_left bs (some {k} {f} w t) e =
    let a = asked k f bs e in
    takes_left (drop (width k) bs) (t _) a.follows ∙ drop-drop w (width k) bs

header_takes : Takes 32 header
unfolding header
header_takes = some 25 λ v. some 20 λ F. some 15 λ m. some 5 λ l. some 0 λ n. none

pub header_ends : (bs : List ℕ) {x : Read Header} → read header bs ≡ value x → x.left ≡ drop 32 bs
header_ends bs e = takes_left bs header_takes e

-- the instructions stand 32 bits from the start, and the outputs after them
pub record AcceptedParts (s : List ℕ) (f : Formula) : Type 0 where
  pub instructions : Read (List Instruction)
  pub reads_instructions :
      read (program f.header.scale f.header.instructions f.header.inputs) (drop 32 (bits s)) ≡ value instructions
  pub is_program : instructions.got ≡ f.program
  pub outputs : Read (List ℕ)
  pub reads_outputs :
      read (results f.header.outputs (f.header.inputs + f.header.instructions)) instructions.left
      ≡ value outputs
  pub are_results : outputs.got ≡ f.results

-- what follows the header gives a formula with that header
record BodyParts (h : Header) (bs : List ℕ) (y : Read Formula) : Type 0 where
  is : Read (List Instruction)
  reads_is : read (program h.scale h.instructions h.inputs) bs ≡ value is
  os : Read (List ℕ)
  reads_os : read (results h.outputs (h.inputs + h.instructions)) is.left ≡ value os
  makes : record { header = h; program = is.got; results = os.got } ≡ y.got

body_parts : (h : Header) (bs : List ℕ) {y : Read Formula} → read (body h) bs ≡ value y → BodyParts h bs y
unfolding body
body_parts h bs {y} e =
    let bound = sym (read_bind the_program outs bs) ∙ e in
    let a = first_of (read the_program bs) (λ x. read (outs x.got) x.left) bound in
    let x = a.first in
    let b =
    first_of (read the_results x.left) (λ z. value (record { got = made x.got z.got; left = z.left }))
    (sym (read_bind the_results (λ os. done (made x.got os)) x.left) ∙ a.then_was) in
    let g = ap (λ (r : Read Formula). r.got) (same_value b.then_was) in
    record { is = x; reads_is = a.was; os = b.first; reads_os = b.was; makes = g }
  where
    the_program : Form (List Instruction)
    the_program = program h.scale h.instructions h.inputs

    the_results : Form (List ℕ)
    the_results = results h.outputs (h.inputs + h.instructions)

    made : List Instruction → List ℕ → Formula
    made is os = record { header = h; program = is; results = os }

    outs : List Instruction → Form Formula
    outs is = the_results >>= λ os. done (made is os)

pub accepted_parts : (s : List ℕ) {f : Formula} → formula s ≡ value f → AcceptedParts s f
unfolding formula
accepted_parts s {f} e =
    let a = first_of (read whole (bits s)) if_padded e in
    let bound = sym (read_bind header body (bits s)) ∙ a.was in
    let b = first_of (read header (bits s)) (λ x. read (body x.got) x.left) bound in
    let p = body_parts b.first.got (drop 32 (bits s)) (rw (header_ends (bits s) b.was) at b.then_was) in
    subst (AcceptedParts s) (p.makes ∙ if_value a.first a.then_was)
    (record {
      instructions = p.is;
      reads_instructions = p.reads_is;
      is_program = refl;
      outputs = p.os;
      reads_outputs = p.reads_os;
      are_results = refl;
    })

-- a header that was checked is the header of a formula
pub record Headed (s : List ℕ) (h : Header) : Type 0 where
  pub meant : Formula
  pub means : formula s ≡ value meant
  pub is_header : meant.header ≡ h

pub checked_headed : (s : List ℕ) {h : Header} → checked s ≡ value h → Headed s h
unfolding checked
checked_headed s e =
    let a = first_of (formula s) (λ f. value f.header) e in
    record { meant = a.first; means = a.was; is_header = same_value a.then_was }

pub refused_unread : (s : List ℕ) {n : ℕ} → checked s ≡ refused n → formula s ≡ refused n
unfolding checked
refused_unread s {n} e = by_formula (formula s) refl e
  where
    by_formula : (a : Answer Formula) → formula s ≡ a → then a (λ f. value f.header) ≡ refused n
        → formula s ≡ refused n
    by_formula (value f) u e = absurd (no_value (sym e))
    by_formula (refused m) u e = u ∙ same_refusal e
