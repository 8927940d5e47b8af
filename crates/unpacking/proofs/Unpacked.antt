-- What reading back says and leaves, in the code's shape: the bytes are no formula, a list is too short, or the lists are
-- filled. Assumes nothing.
use mathlib.Core.Path.{◌≡◌, sym, ◌∙◌, ap, ap₂}
use mathlib.Core.Bool.{false}
use mathlib.Core.List.{List}
use Prim.Native.Nat.{ℕ, ◌≤◌}
use native.Mathlib.Omega.{arith}
use borrow.Author.Tests.{le-leb}
use lib.IntN.{ℤ, pos}
use lib.ListN.{length, length-map}
use Rattle.lists.specs.Over.{over}
use Rattle.refusals.specs.declared.Refusal.TheVariants as refusal
use Rattle.refusals.specs.Answer.{Answer, value, refused, refuse, then}
use Rattle.refusals.proofs.Answers.{no_value, same_refusal, then_refused}
use Rattle.bits.specs.declared.Cursor.{Cursor}
use Rattle.formulas.specs.declared.Header.{Header}
use Rattle.formulas.specs.Formula.{WellFormed, places}
use Rattle.formulas.specs.Formula as formulas
use Rattle.packed.specs.Meaning.{formula, meant, checked}
use Rattle.packed.proofs.Formed.{Formed, formed, limits_of}
use Rattle.walks.specs.Walks.{AtOutputs}
use Rattle.packing.specs.Raw.{RawFormula, Parts, parts, raw_of, raw_formula, formula_of}
use Rattle.packing.specs.Unpacking.{has_places, unpack_into}
use Rattle.packing.specs.PackAnswers.{unpacked_header, unpacked_front, Unpacks}
use Rattle.outputs.specs.Picking.{Pickable}
use Rattle.filling.specs.Filling.{parts_in}

-- a refusal writes nothing
unpacks_nothing : (s : List ℕ) (p : Parts) {n : ℕ} → unpack_into p s ≡ refused n → Unpacks s p p (refused n)
unpacks_nothing s p e =
    record {
      says = sym (ap unpacked_header e);
      writes_codes = sym (ap (λ (a : Answer RawFormula). over (unpacked_front a).codes p.codes) e);
      writes_firsts = sym (ap (λ (a : Answer RawFormula). over (unpacked_front a).firsts p.firsts) e);
      writes_seconds = sym (ap (λ (a : Answer RawFormula). over (unpacked_front a).seconds p.seconds) e);
      writes_outputs = sym (ap (λ (a : Answer RawFormula). over (unpacked_front a).outputs p.outputs) e);
    }

pub unpack_refused : {s : List ℕ} {p : Parts} {n : ℕ} → refused n ≡ checked s → Unpacks s p p (refused n)
unfolding unpack_into checked
unpack_refused {s} {p} {n} e = unpacks_nothing s p (then_refused _ (unread (formula s) (sym e)))
  where
    unread : (x : Answer formulas.Formula) → then x (λ f. value f.header) ≡ refused n → x ≡ refused n
    unread (value f) e = absurd (no_value (sym e))
    unread (refused m) e = same_refusal e

-- F, m, l and n are those of the lists
same_header : (f : formulas.Formula) → WellFormed f → (formula_of (raw_formula f)).header ≡ f.header
same_header f w =
    ap₂ (λ (l n : ℕ). record { scale = f.header.scale; inputs = f.header.inputs; instructions = l; outputs = n })
    (length-map f.program raw_of ∙ w.program_long) (length-map f.results pos ∙ w.results_long)

module _ {s : List ℕ} {h : Header} (passed : value h ≡ checked s) where
  there : Formed s h
  there = formed s (sym passed)

  pub unpack_cramped : {p : Parts} → has_places h p ≡ false → Unpacks s p p (refuse refusal.NoRoom)
  unfolding unpack_into
  unpack_cramped {p} e = unpacks_nothing s p (rw (there.means, there.is_header, e))

  pub unpack_picks : {c : Cursor} {n : ℕ} → AtOutputs s c → h.outputs ≤ n → Pickable s c h.outputs (places (meant s).header) n
  unpack_picks at room =
      record {
        at_outputs = at;
        counts = ap (λ (g : Header). g.outputs) (sym there.is_header);
        few = (limits_of there).outputs_few;
        enough = omega arith;
        room = room;
      }

  -- the lists are filled
  pub unpack_done : {codes codes' firsts firsts' seconds seconds' outputs outputs' : List ℤ}
      → h.instructions ≤ length codes → h.instructions ≤ length firsts → h.instructions ≤ length seconds → h.outputs ≤ length outputs
      → codes' ≡ over (parts_in s).codes codes → firsts' ≡ over (parts_in s).firsts firsts
      → seconds' ≡ over (parts_in s).seconds seconds → outputs' ≡ over (parts_in s).outputs outputs
      → Unpacks s (parts codes firsts seconds outputs) (parts codes' firsts' seconds' outputs') (value h)
  unfolding unpack_into
  unpack_done {codes} {codes'} {firsts} {firsts'} {seconds} {seconds'} {outputs} {outputs'} lc lf ls lo c f d o =
      record {
        says = ap value (sym (same_header (meant s) there.well ∙ there.is_header)) ∙ sym (ap unpacked_header e);
        writes_codes = c ∙ sym (ap (λ (a : Answer RawFormula). over (unpacked_front a).codes codes) e);
        writes_firsts = f ∙ sym (ap (λ (a : Answer RawFormula). over (unpacked_front a).firsts firsts) e);
        writes_seconds = d ∙ sym (ap (λ (a : Answer RawFormula). over (unpacked_front a).seconds seconds) e);
        writes_outputs = o ∙ sym (ap (λ (a : Answer RawFormula). over (unpacked_front a).outputs outputs) e);
      }
    where
      e : unpack_into (parts codes firsts seconds outputs) s ≡ value (raw_formula (meant s))
      e =
          rw (
            there.means,
            there.is_header,
            le-leb h.instructions (length codes) lc,
            le-leb h.instructions (length firsts) lf,
            le-leb h.instructions (length seconds) ls,
            le-leb h.outputs (length outputs) lo,
          )
