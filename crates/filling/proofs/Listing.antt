-- One list of one part of the instructions: none yet, one more, all. Assumes nothing.
use mathlib.Core.Path.{◌≡◌, sym, ◌∙◌, ap}
use mathlib.Core.List.{List, map}
use Prim.Native.Nat.{ℕ, ◌+◌, ◌≤◌, ◌<◌}
use native.Mathlib.Omega.{arith}
use lib.IntN.{ℤ}
use lib.ListN.{length, set, length-map, get_or-map}
use Rattle.whole.proofs.Machine.{back, back_is}
use Rattle.lists.specs.Over.{over}
use Rattle.lists.proofs.Front.{Filled, filled_none, filled_one, filled_all}
use Rattle.rules.specs.Values.{Allowed}
use Rattle.bits.specs.declared.Cursor.{Cursor}
use Rattle.formulas.specs.declared.Header.{Header}
use Rattle.formulas.specs.declared.Instruction.{Instruction}
use Rattle.formulas.specs.declared.Instruction.TheVariants.{Constant, Negate, Add, Subtract, Multiply, Coefficient, Reciprocal}
use Rattle.formulas.specs.Formula.{Smaller}
use Rattle.packed.specs.Meaning.{meant}
use Rattle.packed.specs.declared.loaded.Loaded.{Loaded}
use Rattle.packed.specs.Loading.{Loads}
use Rattle.packed.specs.Walk.{DecodesFrom}
use Rattle.packing.specs.Raw.{RawInstruction, raw, raw_of}
use Rattle.filling.proofs.Turns.{Turn, turn_long, turn_smaller, turn_here}

-- the first k of them, in a list with a place for each
pub record Listing (part : RawInstruction → ℤ) (s : List ℕ) (h : Header) (old now : List ℤ) (k : ℕ) : Type 0 where
  pub room : h.instructions ≤ length old
  pub filled : Filled (map part (map raw_of (meant s).program)) old now k

-- every number that stands for an instruction is small
raw_small : (i : Instruction) → Smaller 0 1024 i → Allowed (raw_of i).code × Allowed (raw_of i).first × Allowed (raw_of i).second
raw_small (Constant c) p = (omega arith, p, omega arith)
raw_small (Negate a) p = (omega arith, omega arith, omega arith)
raw_small (Add a b) p = (omega arith, omega arith, omega arith)
raw_small (Subtract a b) p = (omega arith, omega arith, omega arith)
raw_small (Multiply a b) p = (omega arith, omega arith, omega arith)
raw_small (Coefficient c r) p = (omega arith, omega arith, omega arith)
raw_small (Reciprocal a) p = (omega arith, omega arith, omega arith)

pub allowed_back : (z : ℤ) → Allowed z → back z ≡ z
allowed_back z l = back_is z (omega arith)

module _ {part : RawInstruction → ℤ} {s : List ℕ} {h : Header} {old : List ℤ} where
  pub listing_none : h.instructions ≤ length old → Listing part s h old old 0
  listing_none r = record { room = r; filled = filled_none (map part (map raw_of (meant s).program)) old }

  module _ {now : List ℤ} {k : ℕ} (w : Listing part s h old now k) where
    module _ {c : Cursor} (t : Turn s h c k) where
      long : length (map part (map raw_of (meant s).program)) ≡ h.instructions
      long = length-map (map raw_of (meant s).program) part ∙ length-map (meant s).program raw_of ∙ turn_long t

      pub listing_all : h.instructions ≤ k → now ≡ over (map part (map raw_of (meant s).program)) old
      listing_all l = filled_all (map part (map raw_of (meant s).program)) old (omega (arith, long)) w.filled

      module _ (more : k < h.instructions) {l : Loaded} (loads : Loads s c l) {i : Instruction} {e : Cursor} (from : DecodesFrom s l i e) where
        listing_one : {v : ℤ} → v ≡ part (raw_of i) → Listing part s h old (set now k v) (k + 1)
        listing_one q =
            let is =
            q ∙ ap (λ (j : Instruction). part (raw_of j)) (turn_here t more loads from)
            ∙ sym (get_or-map part (map raw_of (meant s).program) k (raw_of i) ∙ ap part (get_or-map raw_of (meant s).program k i)) in
            record {
              room = w.room;
              filled =
                  filled_one (map part (map raw_of (meant s).program)) old (part (raw_of i)) (omega (arith, long, w.room)) (omega (arith, long)) is
                  w.filled;
            }

-- as the code keeps them
module _ {s : List ℕ} {h : Header} {old now : List ℤ} {k : ℕ} {c : Cursor} {l : Loaded} {i : Instruction} {e : Cursor} {code first second : ℤ} where
  pub codes_one : Listing (λ r. r.code) s h old now k → Turn s h c k → k < h.instructions → Loads s c l → DecodesFrom s l i e
      → raw code first second ≡ raw_of i → Listing (λ r. r.code) s h old (set now k (back code)) (k + 1)
  codes_one w t more loads from a =
      let small = (raw_small i (turn_smaller t more loads from)).0 in
      listing_one w t more loads from (ap (λ r. back r.code) a ∙ allowed_back (raw_of i).code small)

  pub firsts_one : Listing (λ r. r.first) s h old now k → Turn s h c k → k < h.instructions → Loads s c l → DecodesFrom s l i e
      → raw code first second ≡ raw_of i → Listing (λ r. r.first) s h old (set now k (back first)) (k + 1)
  firsts_one w t more loads from a =
      let small = (raw_small i (turn_smaller t more loads from)).1 in
      listing_one w t more loads from (ap (λ r. back r.first) a ∙ allowed_back (raw_of i).first small)

  pub seconds_one : Listing (λ r. r.second) s h old now k → Turn s h c k → k < h.instructions → Loads s c l → DecodesFrom s l i e
      → raw code first second ≡ raw_of i → Listing (λ r. r.second) s h old (set now k (back second)) (k + 1)
  seconds_one w t more loads from a =
      let small = (raw_small i (turn_smaller t more loads from)).2 in
      listing_one w t more loads from (ap (λ r. back r.second) a ∙ allowed_back (raw_of i).second small)
