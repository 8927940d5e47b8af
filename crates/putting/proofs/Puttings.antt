-- Fields put one after another: their bits behind what was written. Assumes nothing.
use mathlib.Core.Path.{◌≡◌, refl, sym, ◌∙◌, ap, subst, subst₂}
use mathlib.Core.List.{List, [], ◌∷◌, ◌++◌, append_assoc, append-nil}
use Prim.Native.Nat.{ℕ, ◌+◌, ◌*◌, ◌/◌, ◌%◌, ◌<◌}
use native.Mathlib.Omega.{arith}
use Rattle.lists.proofs.Again.{wrote_then}
use Rattle.bits.specs.Bits.{to_bits}
use Rattle.writing.specs.declared.Writer.{Writer}
use Rattle.writing.specs.Pending.{Pending, given_out, joined_bits, MayPut, Puts}
use Rattle.writing.proofs.Giving.{length_given_out}
use Rattle.writing.proofs.Pendings.{write_field}
use Rattle.packed.specs.Items.{width}
use Rattle.packing.specs.Slots.{Slot, encoded, slots_bits, slots_width}
use Rattle.packing.proofs.Lengths.{width_append}
use Rattle.putting.specs.Putting.{Written, PutsSlots}

-- a number of so many bits behind what was written
put_number : {w r : Writer} {width n : ℕ} {old new : List ℕ} → MayPut w width n old → Puts w width n old new r
    → (all base : List ℕ) → Written all base old w → Written (all ++ to_bits width n) base new r
put_number {w} {r} {width} {n} m p all base h =
    record {
      bytes = h.bytes ++ given_out (4 * (total / 32)) (total % 32) x;
      wrote = wrote_then h.wrote p.wrote;
      pending =
          subst₂ (λ (c y : ℕ). Pending (all ++ to_bits width n) (h.bytes ++ given_out (4 * (total / 32)) (total % 32) x) c y)
          (sym p.counts) (sym p.holds)
          (write_field (4 * (total / 32)) (total % 32) width n (omega (arith, m.few, m.narrow)) (omega arith) m.fits
          h.pending);
    }
  where
    total : ℕ
    total = w.count + width

    x : ℕ
    x = joined_bits w width n

-- fields whose bits are those of one number
pub slots_put : (ss : List Slot) {w r : Writer} (width : ℕ) {n : ℕ} {old new : List ℕ} → slots_bits ss ≡ to_bits width n
    → slots_width ss ≡ width → MayPut w width n old → Puts w width n old new r → PutsSlots ss w old new r
slots_put ss {w} {r} width {n} {new = new} e wide m p =
    record {
      onward =
          λ all base h. subst (λ (bs : List ℕ). Written (all ++ bs) base new r) (sym e) (put_number m p all base h);
      place =
          omega (
            arith,
            wide,
            p.counts,
            p.wrote.after,
            length_given_out (4 * ((w.count + width) / 32)) ((w.count + width) % 32) (joined_bits w width n),
          );
      few = omega (arith, p.counts);
    }

-- ---- one after another

pub slots_bits_append : (ss ts : List Slot) → slots_bits (ss ++ ts) ≡ slots_bits ss ++ slots_bits ts
slots_bits_append [] ts = refl
slots_bits_append (s ∷ ss) ts =
    ap (λ (l : List ℕ). to_bits (width s.kind) (encoded s.number) ++ l) (slots_bits_append ss ts)
    ∙ sym (append_assoc (to_bits (width s.kind) (encoded s.number)) (slots_bits ss) (slots_bits ts))

pub slots_then : {ss ts : List Slot} {w r s : Writer} {old mid new : List ℕ} → PutsSlots ss w old mid r
    → PutsSlots ts r mid new s → PutsSlots (ss ++ ts) w old new s
slots_then {ss} {ts} {s = s} {new = new} p q =
    record {
      onward =
          λ all base h.
          subst (λ (bs : List ℕ). Written bs base new s)
          (append_assoc all (slots_bits ss) (slots_bits ts)
          ∙ ap (λ (bs : List ℕ). all ++ bs) (sym (slots_bits_append ss ts)))
          (q.onward (all ++ slots_bits ss) base (p.onward all base h));
      place = omega (arith, p.place, q.place, width_append ss ts);
      few = q.few;
    }

pub slots_none : {w : Writer} {out : List ℕ} → w.count < 32 → PutsSlots [] w out out w
slots_none {w} {out} f =
    record {
      onward = λ all base h. subst (λ (bs : List ℕ). Written bs base out w) (sym (append-nil all)) h;
      place = omega arith;
      few = f;
    }
