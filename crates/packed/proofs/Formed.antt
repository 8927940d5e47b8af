-- What a checked header says of the bytes: the formula that they hold, its parts where they stand, and its limits.
-- Assumes nothing.
use mathlib.Core.Path.{◌≡◌, sym, ◌∙◌, ap, subst}
use mathlib.Core.List.{List}
use Prim.Native.Nat.{ℕ}
use lib.ListN.{drop}
use Rattle.refusals.specs.Answer.{value}
use Rattle.bits.specs.Bits.{bits}
use Rattle.bits.specs.Reader.{Read}
use Rattle.formulas.specs.declared.Header.{Header}
use Rattle.formulas.specs.declared.Instruction.{Instruction}
use Rattle.formulas.specs.Formula.{Formula, InLimits, WellFormed, places}
use Rattle.packed.specs.Items.{read}
use Rattle.packed.specs.Format.{program, results}
use Rattle.packed.specs.Meaning.{formula, formula_in, meant, checked}
use Rattle.packed.proofs.WellFormed.{accepted_well_formed}
use Rattle.packed.proofs.Accepted.{accepted_parts, checked_headed}

pub record Formed (s : List ℕ) (h : Header) : Type 0 where
  pub means : formula s ≡ value (meant s)
  pub is_header : (meant s).header ≡ h
  pub well : WellFormed (meant s)
  pub instructions : Read (List Instruction)
  pub reads_instructions : read (program h.scale h.instructions h.inputs) (drop 32 (bits s)) ≡ value instructions
  pub is_program : instructions.got ≡ (meant s).program
  pub outputs : Read (List ℕ)
  pub reads_outputs : read (results h.outputs (places h)) instructions.left ≡ value outputs
  pub are_results : outputs.got ≡ (meant s).results

pub meant_is : (s : List ℕ) {f : Formula} → formula s ≡ value f → meant s ≡ f
unfolding meant
meant_is s e = ap formula_in e

pub formed : (s : List ℕ) {h : Header} → checked s ≡ value h → Formed s h
formed s e =
    let g = checked_headed s e in
    let f = g.meant in
    let p = accepted_parts s g.means in
    let m : f ≡ meant s = sym (meant_is s g.means) in
    subst (Formed s) g.is_header
    (record {
      means = g.means ∙ ap value m;
      is_header = ap (λ (x : Formula). x.header) (sym m);
      well = subst WellFormed m (accepted_well_formed s g.means);
      instructions = p.instructions;
      reads_instructions = p.reads_instructions;
      is_program = p.is_program ∙ ap (λ (x : Formula). x.program) m;
      outputs = p.outputs;
      reads_outputs = p.reads_outputs;
      are_results = p.are_results ∙ ap (λ (x : Formula). x.results) m;
    })

pub limits_of : {s : List ℕ} {h : Header} → Formed s h → InLimits h
limits_of f = subst InLimits f.is_header f.well.limits
