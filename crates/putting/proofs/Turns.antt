-- A turn of putting instructions and of putting outputs, in the code's shape. Assumes nothing.
use mathlib.Core.Path.{◌≡◌, refl, sym, ◌∙◌, ap, ap₂, subst}
use mathlib.Core.List.{List, [], ◌∷◌, ◌++◌, append-nil}
use Prim.Native.Nat.{ℕ, zero, suc, ◌+◌, ◌^◌, ◌≤◌, ◌<◌}
use native.Mathlib.Omega.{arith}
use lib.IntN.{ℤ, pos, negsuc, nat_abs}
use lib.ListN.{length, get_or}
use lib.Signed.{mag}
use Rattle.whole.proofs.Cases.{ap₃}
use Rattle.whole.proofs.Machine.{back}
use Rattle.lists.proofs.Again.{wrote_long}
use Rattle.bits.specs.Bits.{to_bits}
use Rattle.writing.specs.declared.Writer.{Writer}
use Rattle.writing.specs.Pending.{MayPut, Puts}
use Rattle.packed.specs.Items.{operand}
use Rattle.packing.specs.declared.Handed.TheInside.{Inside}
use Rattle.packing.specs.Lent.{lent}
use Rattle.packing.specs.Raw.{RawInstruction, RawFormula, raw}
use Rattle.packing.specs.Slots.{Slot, slot, encoded, instruction_slots, output_slots, several_slots, program_slots}
use Rattle.packing.specs.Slots.{slots_bits, slots_width}
use Rattle.packing.proofs.Packs.{tested_all}
use Rattle.packing.proofs.Lengths.{width_append}
use Rattle.fitting.proofs.Programs.{same_long, program_long, no_instruction, instruction_at, read_back}
use Rattle.putting.specs.Putting.{Written, PutsSlots, InstructionPuttable, PutsInstruction, ProgramPuttable, PutsProgram}
use Rattle.putting.specs.Putting.{ResultsPuttable, PutsResults}
use Rattle.putting.proofs.Puttings.{slots_bits_append, slots_put}
use Rattle.putting.proofs.Instructions.{Named, named}
use Rattle.putting.proofs.Loops.{Putting, putting_none, putting_asks, putting_more, putting_ends}

-- ---- the same bits, whatever values are made

pub record SameBits (ss ts : List Slot) : Type 0 where
  pub bits_same : slots_bits ss ≡ slots_bits ts
  pub width_same : slots_width ss ≡ slots_width ts

puts_same : {ss ts : List Slot} {w r : Writer} {old new : List ℕ} → SameBits ss ts → PutsSlots ss w old new r
    → PutsSlots ts w old new r
puts_same {w = w} {r = r} {new = new} e p =
    record {
      onward = λ all base h. subst (λ (bs : List ℕ). Written (all ++ bs) base new r) e.bits_same (p.onward all base h);
      place = omega (arith, p.place, e.width_same);
      few = p.few;
    }

instruction_same : (F G u v : ℕ) (c a b : ℤ) → SameBits (instruction_slots F u (raw c a b)) (instruction_slots G v (raw c a b))
instruction_same F G u v (pos zero) a b = record { bits_same = refl; width_same = refl }
instruction_same F G u v (pos (suc zero)) a b = record { bits_same = refl; width_same = refl }
instruction_same F G u v (pos (suc (suc zero))) a b = record { bits_same = refl; width_same = refl }
instruction_same F G u v (pos (suc (suc (suc zero)))) a b = record { bits_same = refl; width_same = refl }
instruction_same F G u v (pos (suc (suc (suc (suc zero))))) a b = record { bits_same = refl; width_same = refl }
instruction_same F G u v (pos (suc (suc (suc (suc (suc zero)))))) a b = record { bits_same = refl; width_same = refl }
instruction_same F G u v (pos (suc (suc (suc (suc (suc (suc zero))))))) a b = record { bits_same = refl; width_same = refl }
instruction_same F G u v (pos (suc (suc (suc (suc (suc (suc (suc k)))))))) a b = record { bits_same = refl; width_same = refl }
instruction_same F G u v (negsuc k) a b = record { bits_same = refl; width_same = refl }

append_same : {ss ts us vs : List Slot} → SameBits ss ts → SameBits us vs → SameBits (ss ++ us) (ts ++ vs)
append_same {ss} {ts} {us} {vs} p q =
    record {
      bits_same =
          slots_bits_append ss us ∙ ap₂ (λ (x y : List ℕ). x ++ y) p.bits_same q.bits_same
          ∙ sym (slots_bits_append ts vs);
      width_same = omega (arith, width_append ss us, width_append ts vs, p.width_same, q.width_same);
    }

program_same : (F G u v : ℕ) (rs : List RawInstruction) → SameBits (program_slots F u rs) (program_slots G v rs)
program_same F G u v [] = record { bits_same = refl; width_same = refl }
program_same F G u v (r ∷ rs) =
    append_same (instruction_same F G u v r.code r.first r.second) (program_same F G (suc u) (suc v) rs)

results_same : (u v j : ℕ) (os : List ℤ)
    → SameBits (several_slots (output_slots u) j os) (several_slots (output_slots v) j os)
results_same u v j [] = record { bits_same = refl; width_same = refl }
results_same u v j (o ∷ os) =
    append_same {ss = slot (operand u) o ∷ []} {ts = slot (operand v) o ∷ []}
    (record { bits_same = refl; width_same = refl }) (results_same u v (suc j) os)

-- ---- instructions

pub record ProgramPutting (given : RawFormula) (w₀ : Writer) (out₀ : List ℕ) (k : ℕ) (w : Writer) (out : List ℕ) : Type 0 where
  pub asked : ProgramPuttable given w₀ out₀
  pub putting : Putting (instruction_slots asked.scale) asked.makes given.program w₀ out₀ k w out

pub program_starts : {given : RawFormula} {w : Writer} {out : List ℕ} → ProgramPuttable given w out → ProgramPutting given w out 0 w out
program_starts {given} p = record { asked = p; putting = putting_none (instruction_slots p.scale) p.makes given.program p.puttable }

-- as the code holds what is handed over
module _ (h : Inside) {given : RawFormula} (holds : lent h ≡ given) {w₀ w : Writer} {out₀ out : List ℕ} {k : ℕ}
    (g : ProgramPutting given w₀ out₀ k w out) where
  pub program_done : length h.codes.now ≤ k → PutsProgram given w₀ out₀ out w
  program_done l =
      record {
        puts =
            λ F m.
            puts_same (program_same g.asked.scale F g.asked.makes m given.program)
            (putting_ends (instruction_slots g.asked.scale) g.asked.makes given.program g.putting
            (omega (arith, program_long h holds g.asked.as_long)));
      }

  module _ (l : k < length h.codes.now) where
    within : k < length given.program
    within = omega (arith, program_long h holds g.asked.as_long)

    pub lists_inside : (k < length h.firsts.now) × (k < length h.seconds.now)
    lists_inside =
        let s = same_long h holds g.asked.as_long in
        (omega (arith, s.0), omega (arith, s.1))

    module _ (sc : mag (get_or h.codes.now k (pos 0)) < 2 ^ 63) (sf : mag (get_or h.firsts.now k (pos 0)) < 2 ^ 63)
        (st : mag (get_or h.seconds.now k (pos 0)) < 2 ^ 63) where
      abbrev here : RawInstruction
      here = raw (back (get_or h.codes.now k (pos 0))) (back (get_or h.firsts.now k (pos 0))) (back (get_or h.seconds.now k (pos 0)))

      is_kept : get_or given.program k no_instruction ≡ here
      is_kept =
          ap (λ (r : RawFormula). get_or r.program k no_instruction) (sym holds)
          ∙ instruction_at h.codes.now h.firsts.now h.seconds.now k l lists_inside.0 lists_inside.1
          ∙ ap₃ raw (sym (read_back h.codes.now k sc)) (sym (read_back h.firsts.now k sf)) (sym (read_back h.seconds.now k st))

      pub program_asks : InstructionPuttable here w out
      program_asks =
          subst (λ (i : RawInstruction). InstructionPuttable i w out) is_kept
          (record {
            scale = g.asked.scale;
            makes = g.asked.makes + k;
            low = omega (arith, g.asked.low);
            puttable =
                putting_asks (instruction_slots g.asked.scale) g.asked.makes given.program g.putting no_instruction within;
          })

      pub program_goes_on : {r : Writer} {new : List ℕ} → PutsInstruction here w out new r → length new ≡ length out
          → ProgramPutting given w₀ out₀ (k + 1) r new
      program_goes_on {r} {new} p e =
          record {
            asked = g.asked;
            putting =
                putting_more (instruction_slots g.asked.scale) g.asked.makes given.program g.putting no_instruction within
                ((subst (λ (i : RawInstruction). PutsInstruction i w out new r) (sym is_kept) p).puts g.asked.scale (g.asked.makes + k)) e;
          }

-- ---- outputs

pub record ResultsPutting (os : List ℤ) (w₀ : Writer) (out₀ : List ℕ) (k : ℕ) (w : Writer) (out : List ℕ) : Type 0 where
  pub asked : ResultsPuttable os w₀ out₀
  pub putting : Putting (output_slots asked.values) 0 os w₀ out₀ k w out

module _ {os : List ℤ} {w₀ : Writer} {out₀ : List ℕ} where
  pub results_start : ResultsPuttable os w₀ out₀ → ResultsPutting os w₀ out₀ 0 w₀ out₀
  results_start p = record { asked = p; putting = putting_none (output_slots p.values) 0 os p.puttable }

  module _ {k : ℕ} {w : Writer} {out : List ℕ} (g : ResultsPutting os w₀ out₀ k w out) where
    abbrev v : ℕ
    v = g.asked.values

    pub results_done : length os ≤ k → PutsResults os w₀ out₀ out w
    results_done l =
        record { puts = λ u. puts_same (results_same v u 0 os) (putting_ends (output_slots v) 0 os g.putting l) }

    module _ (l : k < length os) (s : mag (get_or os k (pos 0)) < 2 ^ 63) where
      here_named : Named (get_or os k (pos 0))
      here_named =
          named g.asked.low
          (tested_all (slot (operand v) (get_or os k (pos 0)) ∷ []) (putting_asks (output_slots v) 0 os g.putting (pos 0) l).passed).0

      pub output_natural : back (get_or os k (pos 0)) ≡ pos (nat_abs (back (get_or os k (pos 0))))
      output_natural = rw (read_back os k s) (sym here_named.is)

      module _ {n : ℕ} (e : n ≡ encoded (back (get_or os k (pos 0)))) where
        number_is : n ≡ encoded (get_or os k (pos 0))
        number_is = e ∙ ap encoded (read_back os k s)

        pub output_room : MayPut w 10 n out
        output_room =
            let p = putting_asks (output_slots v) 0 os g.putting (pos 0) l in
            record { narrow = omega arith; fits = omega (arith, number_is, here_named.low); few = p.few; room = p.room }

        pub results_turn : {r : Writer} {new : List ℕ} → Puts w 10 n out new r → ResultsPutting os w₀ out₀ (k + 1) r new
        results_turn {r} {new} p =
            record {
              asked = g.asked;
              putting =
                  putting_more (output_slots v) 0 os g.putting (pos 0) l
                  (slots_put (slot (operand v) (get_or os k (pos 0)) ∷ []) 10
                  (append-nil (to_bits 10 (encoded (get_or os k (pos 0)))) ∙ ap (to_bits 10) (sym number_is)) refl
                  output_room p) (wrote_long p.wrote);
            }
