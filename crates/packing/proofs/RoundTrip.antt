-- "Reading what it wrote gives the same list back, and writing what the reader read gives the same bytes." Assumes nothing.
use mathlib.Core.Path.{◌≡◌, refl, sym, ◌∙◌, ap}
use mathlib.Core.Bool.{Bool, true, false, cond, ◌&&◌}
use mathlib.Core.List.{List, [], ◌∷◌, ◌++◌}
use mathlib.Core.Logic.{◌↔◌}
use Prim.Native.Nat.{ℕ, ◌<◌}
use native.Mathlib.Nat.{mod-lt}
use borrow.Author.Tests.{ltb-true, lt-ltb, eqb-true}
use lib.Dec.{ltb, eqb, lit<}
use lib.ListN.{length, replicate, length-replicate}
use Rattle.whole.proofs.Cases.{never}
use Rattle.refusals.specs.Answer.{Answer, value, refused, then}
use Rattle.bits.specs.Bits.{bits, number}
use Rattle.bits.specs.Reader.{Read}
use Rattle.bits.proofs.Digits.{AreBits, none, are_bits_append, to_bits_are, bits_are}
use Rattle.packed.specs.Items.{width, read}
use Rattle.packed.specs.Format.{is_padding}
use Rattle.packed.specs.Meaning.{whole, if_padded, formula}
use Rattle.formulas.specs.Formula.{Formula, WellFormed}
use Rattle.refusals.proofs.Answers.{no_value, same_value, first_of}
use Rattle.packed.proofs.WellFormed.{accepted_well_formed}
use Rattle.writing.specs.Bytes.{pad, bytes_of, AreBytes}
use Rattle.packing.specs.Slots.{Slot, encoded, fields_of, slots_bits, packed_bytes}
use Rattle.writing.proofs.Bits.{number_zeros, all_zeros, bits_bytes_of, bytes_of_bits, bytes_of_are}
use Rattle.packing.proofs.Forms.{read_asked, Told, read_tells}
use Rattle.packing.proofs.Formats.{whole_asks, whole_tells}

pub slots_bits_are : (ss : List Slot) → AreBits (slots_bits ss)
slots_bits_are [] = none
slots_bits_are (s ∷ ss) = are_bits_append (to_bits_are (width s.kind) (encoded s.number)) (slots_bits_are ss)

pub packed_are : (f : Formula) → AreBytes (packed_bytes f)
unfolding packed_bytes
packed_are f = bytes_of_are (slots_bits_are (fields_of f))

-- ---- padding

zeros_padding : (n : ℕ) → n < 8 → is_padding (replicate n 0) ≡ true
unfolding is_padding
zeros_padding n l = rw (length-replicate {A = ℕ} n 0, number_zeros n, lt-ltb n 8 l)

padding_zeros : {bs : List ℕ} → AreBits bs → is_padding bs ≡ true → (length bs < 8) × (bs ≡ replicate (length bs) 0)
unfolding is_padding
padding_zeros {bs} p e = by_long (ltb (length bs) 8) refl
  where
    by_long : (t : Bool) → ltb (length bs) 8 ≡ t → (length bs < 8) × (bs ≡ replicate (length bs) 0)
    by_long true u = (ltb-true (length bs) 8 u, all_zeros p (eqb-true (number bs) 0 (sym (ap (λ (t : Bool). t && eqb (number bs) 0) u) ∙ e)))
    by_long false u = never (sym e ∙ ap (λ (t : Bool). t && eqb (number bs) 0) u)

-- ---- the two halves

-- "Reading what it wrote gives the same list back"
pub read_packed : (f : Formula) → WellFormed f → formula (packed_bytes f) ≡ value f
unfolding formula packed_bytes
read_packed f w =
    ap (λ (bs : List ℕ). then (read whole bs) if_padded) (bits_bytes_of (slots_bits_are (fields_of f)))
    ∙ ap (λ (a : Answer (Read Formula)). then a if_padded) (read_asked (whole_asks f w) (replicate n 0))
    ∙ ap (λ (t : Bool). cond t (value f) (refused 8)) (zeros_padding n (mod-lt _ (lit< tt)))
  where
    n : ℕ
    n = pad (length (slots_bits (fields_of f)))

-- "writing what the reader read gives the same bytes"
pub packed_read : (s : List ℕ) {f : Formula} → AreBytes s → formula s ≡ value f → packed_bytes f ≡ s
unfolding formula packed_bytes
packed_read s {f} b e =
    let a = first_of (read whole (bits s)) if_padded e in
    by_padding a.first (read_tells (λ ss g. ss ≡ fields_of g) whole whole_tells (bits_are s) a.was) (is_padding a.first.left) refl a.then_was
  where
    by_padding : (x : Read Formula) → Told (λ ss g. ss ≡ fields_of g) (bits s) x → (t : Bool) → is_padding x.left ≡ t → cond {A = Answer Formula} t (value x.got) (refused 8) ≡ value f
        → bytes_of (slots_bits (fields_of f)) ≡ s
    by_padding x told true p v =
        let z = padding_zeros told.are p in
        bytes_of_bits (slots_bits (fields_of f)) (length x.left) b
        (told.were ∙ ap (λ (ss : List Slot). slots_bits ss ++ x.left) (told.holds ∙ ap fields_of (same_value v)) ∙ ap (λ (c : List ℕ). slots_bits (fields_of f) ++ c) z.1)
        z.0
    by_padding x told false p v = absurd (no_value v)

-- so the bytes of a formula are the one file that holds it
pub one_file : (s t : List ℕ) {f : Formula} → AreBytes s → AreBytes t → formula s ≡ value f → formula t ≡ value f → s ≡ t
one_file s t p q d e = sym (packed_read s p d) ∙ packed_read t q e

pub holds_exactly : (s : List ℕ) (f : Formula) → AreBytes s → (formula s ≡ value f) ↔ (WellFormed f × (packed_bytes f ≡ s))
holds_exactly s f b = (λ e. (accepted_well_formed s e, packed_read s b e), λ h. ap formula (sym h.1) ∙ read_packed f h.0)
