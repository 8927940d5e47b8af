-- Reading back, in the terms of what was handed over; each of its refusals exactly when its words say. Assumes nothing.
use mathlib.Core.Path.{◌≡◌, refl, sym, ◌∙◌, ap, subst}
use mathlib.Core.Bool.{Bool, true, false, cond, ◌&&◌}
use mathlib.Core.List.{List, [], ◌∷◌}
use mathlib.Core.Logic.{◌⊎◌, inl, inr, ◌↔◌}
use Prim.Native.Nat.{ℕ, ◌<◌}
use borrow.Author.Tests.{leb-false, lt-leb}
use lib.Dec.{leb}
use lib.ListN.{length}
use Rattle.refusals.specs.Answer.{Answer, value, refused, then}
use Rattle.refusals.proofs.Answers.{no_value, same_value, refused_same, first_of, then_refused}
use Rattle.writing.specs.Bytes.{AreBytes}
use Rattle.formulas.specs.declared.Header.{Header}
use Rattle.formulas.specs.Formula.{Formula}
use Rattle.formulas.specs.GivenInRuns.{OneUnder}
use Rattle.packed.specs.Meaning.{formula, checked}
use Rattle.packed.proofs.WellFormed.{accepted_well_formed}
use Rattle.packed.proofs.Accepted as accepted
use Rattle.packed.proofs.GivenExactly as reading_refused
use Rattle.packing.specs.Raw.{RawFormula, Parts, raw_formula, own_formula}
use Rattle.packing.specs.Slots.{packed_bytes}
use Rattle.packing.specs.Packing.{pack}
use Rattle.packing.specs.Unpacking.{unpack, has_places, unpack_into}
use Rattle.packing.specs.GivenInPacking.{GivenInUnpacking, reading, no_room}
use Rattle.packing.proofs.RoundTrip.{read_packed, packed_read}
use Rattle.packing.proofs.Packs.{pack_accepted, pack_well_formed}

-- "Reading what it wrote gives the same list back"
pub unpack_packed : (r : RawFormula) {f : Formula} → pack r ≡ value f → unpack (packed_bytes f) ≡ value (own_formula r)
unfolding unpack
unpack_packed r {f} e =
    let a = pack_accepted r e in
    ap (λ (x : Answer Formula). then x (λ g. value (raw_formula g))) (read_packed f a.well_formed)
    ∙ ap value a.same

-- "and writing what the reader read gives the same bytes"
pub record Repacked (s : List ℕ) (r : RawFormula) : Type 0 where
  pub holds : Formula
  pub packs : pack r ≡ value holds
  pub is : packed_bytes holds ≡ s

pub packed_unpack : (s : List ℕ) {r : RawFormula} → AreBytes s → unpack s ≡ value r → Repacked s r
unfolding unpack
packed_unpack s {r} b e =
    let a = first_of (formula s) (λ g. value (raw_formula g)) e in
    subst (Repacked s) (same_value a.then_was)
    (record {
      holds = a.first;
      packs = pack_well_formed a.first (accepted_well_formed s a.was);
      is = packed_read s b a.was;
    })

-- ---- into lists

fails_either : (a b : Bool) → a && b ≡ false → (a ≡ false) ⊎ (b ≡ false)
fails_either true b e = inr e
fails_either false b e = inl refl

and_false : (a : Bool) {b : Bool} → b ≡ false → a && b ≡ false
and_false true e = e
and_false false e = refl

false_and : (b : Bool) {a : Bool} → a ≡ false → a && b ≡ false
false_and b e = ap (λ (t : Bool). t && b) e

module _ (h : Header) (lent : Parts) where
  abbrev Shorter : Type 0
  Shorter =
      OneUnder h.instructions (length lent.codes ∷ length lent.firsts ∷ length lent.seconds ∷ [])
      ⊎ OneUnder h.outputs (length lent.outputs ∷ [])

  under : (n k : ℕ) → leb n k ≡ false → k < n
  under n k e = leb-false n k e

  no_places : has_places h lent ≡ false → Shorter
  no_places e = by_codes (fails_either (leb l (length lent.codes)) _ e)
    where
      l : ℕ
      l = h.instructions

      by_outputs : (leb l (length lent.seconds) ≡ false) ⊎ (leb h.outputs (length lent.outputs) ≡ false) → Shorter
      by_outputs (inl q) = inl (inr (inr (inl (under l (length lent.seconds) q))))
      by_outputs (inr q) = inr (inl (under h.outputs (length lent.outputs) q))

      by_firsts : (leb l (length lent.firsts) ≡ false)
          ⊎ (leb l (length lent.seconds) && leb h.outputs (length lent.outputs) ≡ false) → Shorter
      by_firsts (inl q) = inl (inr (inl (under l (length lent.firsts) q)))
      by_firsts (inr q) = by_outputs (fails_either (leb l (length lent.seconds)) _ q)

      by_codes : (leb l (length lent.codes) ≡ false)
          ⊎ (leb l (length lent.firsts) && (leb l (length lent.seconds) && leb h.outputs (length lent.outputs)) ≡ false)
          → Shorter
      by_codes (inl q) = inl (inl (under l (length lent.codes) q))
      by_codes (inr q) = by_firsts (fails_either (leb l (length lent.firsts)) _ q)

  shorter_none : Shorter → has_places h lent ≡ false
  shorter_none (inl (inl q)) = false_and _ (lt-leb h.instructions (length lent.codes) q)
  shorter_none (inl (inr (inl q))) =
      and_false (leb h.instructions (length lent.codes))
      (false_and _ (lt-leb h.instructions (length lent.firsts) q))
  shorter_none (inl (inr (inr (inl q)))) =
      and_false (leb h.instructions (length lent.codes))
      (and_false (leb h.instructions (length lent.firsts))
      (false_and _ (lt-leb h.instructions (length lent.seconds) q)))
  shorter_none (inl (inr (inr (inr z)))) = absurd z
  shorter_none (inr (inl q)) =
      and_false (leb h.instructions (length lent.codes))
      (and_false (leb h.instructions (length lent.firsts))
      (and_false (leb h.instructions (length lent.seconds))
      (lt-leb h.outputs (length lent.outputs) q)))
  shorter_none (inr (inr z)) = absurd z

module _ (lent : Parts) (s : List ℕ) where
  pub unpacking_refused : {n : ℕ} → GivenInUnpacking lent s n → unpack_into lent s ≡ refused n
  unfolding unpack_into
  unpacking_refused (reading g) = rw (accepted.refused_unread s (reading_refused.given_refused s g))
  unpacking_refused (no_room t) = rw (t.reads, shorter_none t.accepted.header lent t.shorter)

  pub unpacking_given : {n : ℕ} → unpack_into lent s ≡ refused n → GivenInUnpacking lent s n
  unfolding unpack_into checked
  unpacking_given {n} e = by_reading (formula s) refl e
    where
      into : Formula → Answer RawFormula
      into f = cond (has_places f.header lent) (value (raw_formula f)) (refused 10)

      by_room : (f : Formula) → formula s ≡ value f → (t : Bool) → has_places f.header lent ≡ t
          → cond t (value (raw_formula f)) (refused 10) ≡ refused n → GivenInUnpacking lent s n
      by_room f u true q v = absurd (no_value (sym v))
      by_room f u false q v =
          subst (GivenInUnpacking lent s) (refused_same v)
          (no_room (record { accepted = f; reads = u; shorter = no_places f.header lent q }))

      by_reading : (a : Answer Formula) → formula s ≡ a → then a into ≡ refused n → GivenInUnpacking lent s n
      by_reading (value f) u v = by_room f u (has_places f.header lent) refl v
      by_reading (refused m) u v =
          subst (GivenInUnpacking lent s) (refused_same v)
          (reading (reading_refused.refused_given s (then_refused (λ f. value f.header) u)))

  -- "given exactly when"
  pub unpack_refused_exactly : (n : ℕ) → (unpack_into lent s ≡ refused n) ↔ GivenInUnpacking lent s n
  unpack_refused_exactly n = (unpacking_given, unpacking_refused)
