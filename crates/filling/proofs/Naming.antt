-- The list of the outputs' numbers: none yet, one more, all. Assumes nothing.
use mathlib.Core.Path.{◌≡◌, sym, ◌∙◌, ap}
use mathlib.Core.List.{List, map}
use Prim.Native.Nat.{ℕ, ◌+◌, ◌≤◌, ◌<◌}
use native.Mathlib.Omega.{arith}
use lib.IntN.{ℤ, pos}
use lib.ListN.{length, set, length-map, get_or-map}
use Rattle.std.specs.declared.option.Option.TheVariants.{Some}
use Rattle.whole.proofs.Machine.{back, back_is}
use Rattle.lists.specs.Over.{over}
use Rattle.lists.proofs.Front.{Filled, filled_one, filled_all}
use Rattle.bits.specs.declared.Cursor.{Cursor}
use Rattle.bits.specs.Fields.{Field}
use Rattle.bits.specs.Reader.{field}
use Rattle.bits.specs.Fields.{before, field_answer, Advanced}
use Rattle.formulas.specs.Formula.{places}
use Rattle.packed.specs.Meaning.{meant}
use Rattle.outputs.specs.Picking.{Pickable}
use Rattle.outputs.proofs.Turns.{Past, results_many, is_output}

-- the first k of them
pub record Naming (s : List ℕ) (c : Cursor) (count : ℕ) (old now : List ℤ) (k : ℕ) : Type 0 where
  pub pickable : Pickable s c count (places (meant s).header) (length old)
  pub filled : Filled (map pos (meant s).results) old now k

-- a field's number is kept
field_back : (at : Cursor) (r : Field) (x : ℕ × Cursor) → Advanced at 10 r → r ≡ Some x → back (pos x.0) ≡ pos x.0
field_back at r x a got = let b = rw got at a in back_is (pos x.0) (omega (arith, b.1))

module _ {s : List ℕ} {c : Cursor} {count : ℕ} {old now : List ℤ} {k : ℕ} (w : Naming s c count old now k) where
  long : length (map pos (meant s).results) ≡ count
  long = length-map (meant s).results pos ∙ results_many w.pickable

  pub naming_all : count ≤ k → now ≡ over (map pos (meant s).results) old
  naming_all l = filled_all (map pos (meant s).results) old (omega (arith, long)) w.filled

  pub naming_one : {at : Cursor} {r : Field} {x : ℕ × Cursor} → Past c at count k → k < count
      → field_answer s r ≡ field 10 (before s at) → r ≡ Some x → Advanced at 10 r
      → Naming s c count old (set now k (back (pos x.0))) (k + 1)
  naming_one {at} {r} {x} turn more reads got a =
      let is =
      field_back at r x a got ∙ ap pos (is_output w.pickable turn more reads got)
      ∙ sym (get_or-map pos (meant s).results k 0) in
      record {
        pickable = w.pickable;
        filled =
            filled_one (map pos (meant s).results) old (pos 0) (omega (arith, long, w.pickable.room)) (omega (arith, long)) is
            w.filled;
      }
