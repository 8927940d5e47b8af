-- Each refusal of packing is given exactly when its words say. Assumes nothing.
use mathlib.Core.Path.{◌≡◌, refl, sym, ◌∙◌, ap, subst}
use mathlib.Core.Bool.{Bool, true, false, cond}
use mathlib.Core.List.{List, [], ◌∷◌, ◌++◌}
use mathlib.Core.Logic.{inl, inr, ◌↔◌}
use Prim.Native.Nat.{ℕ}
use borrow.Author.Tests.{leb-false, lt-leb}
use lib.Dec.{leb}
use lib.IntN.{ℤ, pos, negsuc, nat_abs}
use lib.ListN.{length}
use Rattle.whole.proofs.Cases.{never}
use Rattle.refusals.specs.Refusals.{refusal_number}
use Rattle.refusals.specs.Answer.{Answer, value, refused, refuse, then}
use Rattle.refusals.proofs.Answers.{no_value, refused_same}
use Rattle.rules.specs.Numbers.{M}
use Rattle.formulas.specs.Formula.{Formula}
use Rattle.packed.specs.Items.{FieldKind, version, scale, inputs, instructions, outputs, code, constant, operand, centre, margin, small_scale, complaint}
use Rattle.packed.proofs.GivenExactly.{wrong_is, wrong_not_permitted}
use Rattle.packing.specs.Raw.{RawFormula, formula_of}
use Rattle.packing.specs.Slots.{Slot, slot, raw_slots, packed_bytes}
use Rattle.packing.specs.Packing.{Sort, fixed, natural, signed, sort, fits_as, fits, slots_tested, pack, pack_into}
use Rattle.packing.specs.GivenInPacking.{UnfitAs, Unfit, MeetsUnfit, GivenInPacking}
use Rattle.packing.specs.GivenInPacking.{three, four, five, six, seven, seven_margin, ten, sixteen}

-- ---- a number is unfit exactly where it does not fit

pub unfit_is : (k : FieldKind) (z : ℤ) → fits k z ≡ false → Unfit k z
unfit_is k z e = by_sort (sort k) z e
  where
    by_sort : (s : Sort) (z : ℤ) → fits_as s k z ≡ false → UnfitAs s k z
    by_sort fixed z e = never e
    by_sort natural (pos n) e = wrong_is k n e
    by_sort natural (negsuc n) e = tt
    by_sort signed z e = leb-false (nat_abs z) M e

pub unfit_not : (k : FieldKind) (z : ℤ) → Unfit k z → fits k z ≡ false
unfit_not k z w = by_sort (sort k) z w
  where
    by_sort : (s : Sort) (z : ℤ) → UnfitAs s k z → fits_as s k z ≡ false
    by_sort fixed z w = absurd w
    by_sort natural (pos n) w = wrong_not_permitted k n w
    by_sort natural (negsuc n) w = refl
    by_sort signed z w = lt-leb (nat_abs z) M w

-- ---- the first that does not fit

record FirstUnfit (ss : List Slot) (n : ℕ) : Type 0 where
  kind : FieldKind
  earlier : List Slot
  given : ℤ
  rest : List Slot
  in_order : ss ≡ earlier ++ slot kind given ∷ rest
  fit_so_far : slots_tested earlier ≡ value tt
  unfit : Unfit kind given
  number : n ≡ refusal_number (complaint kind)

first_unfit : (ss : List Slot) {n : ℕ} → slots_tested ss ≡ refused n → FirstUnfit ss n
first_unfit [] e = absurd (no_value (sym e))
first_unfit (s ∷ ss) {n} e = by_test (fits s.kind s.number) refl e (first_unfit ss)
  where
    by_test : (t : Bool) → fits s.kind s.number ≡ t → cond t (slots_tested ss) (refuse (complaint s.kind)) ≡ refused n
        → (slots_tested ss ≡ refused n → FirstUnfit ss n) → FirstUnfit (s ∷ ss) n
    by_test true u e more =
        let f = more e in
        record {
          kind = f.kind;
          earlier = s ∷ f.earlier;
          given = f.given;
          rest = f.rest;
          in_order = ap (λ (l : List Slot). s ∷ l) f.in_order;
          fit_so_far = ap (λ (t : Bool). cond t (slots_tested f.earlier) (refuse (complaint s.kind))) u ∙ f.fit_so_far;
          unfit = f.unfit;
          number = f.number;
        }
    by_test false u e more =
        record {
          kind = s.kind;
          earlier = [];
          given = s.number;
          rest = ss;
          in_order = refl;
          fit_so_far = refl;
          unfit = unfit_is s.kind s.number u;
          number = sym (refused_same e);
        }

unfit_refused : (ss : List Slot) (k : FieldKind) (z : ℤ) (ts : List Slot) → slots_tested ss ≡ value tt → Unfit k z → slots_tested (ss ++ slot k z ∷ ts) ≡ refuse (complaint k)
unfit_refused [] k z ts e w = ap (λ (t : Bool). cond t (slots_tested ts) (refuse (complaint k))) (unfit_not k z w)
unfit_refused (s ∷ ss) k z ts e w = by_test (fits s.kind s.number) e (λ d. unfit_refused ss k z ts d w)
  where
    by_test : (t : Bool) → cond t (slots_tested ss) (refuse (complaint s.kind)) ≡ value tt → (slots_tested ss ≡ value tt → slots_tested (ss ++ slot k z ∷ ts) ≡ refuse (complaint k))
        → cond t (slots_tested (ss ++ slot k z ∷ ts)) (refuse (complaint s.kind)) ≡ refuse (complaint k)
    by_test true e more = more e
    by_test false e more = absurd (no_value e)

-- ---- the packer

meets_refused : (r : RawFormula) {k : FieldKind} → MeetsUnfit r k → pack r ≡ refuse (complaint k)
unfolding pack
meets_refused r {k} m =
    ap (λ (a : Answer (Unit {0})). then a (λ u. value (formula_of r)))
    (ap slots_tested m.in_order ∙ unfit_refused m.earlier k m.given m.later m.fit_so_far m.unfit)

module _ (room : ℕ) (r : RawFormula) where
  short : {n : ℕ} → pack r ≡ refused n → pack_into room r ≡ refused n
  unfolding pack_into
  short e = rw e

  no_room : {f : Formula} → pack r ≡ value f → leb (length (packed_bytes f)) room ≡ false → pack_into room r ≡ refused 10
  unfolding pack_into
  no_room p l = rw (p, l)

  pub given_refused : {n : ℕ} → GivenInPacking room r n → pack_into room r ≡ refused n
  given_refused (three m) = short (meets_refused r m)
  given_refused (four (inl m)) = short (meets_refused r m)
  given_refused (four (inr (inl m))) = short (meets_refused r m)
  given_refused (four (inr (inr m))) = short (meets_refused r m)
  given_refused (five m) = short (meets_refused r m)
  given_refused (six v m) = short (meets_refused r m)
  given_refused (seven (inl m)) = short (meets_refused r m)
  given_refused (seven (inr m)) = short (meets_refused r m)
  given_refused (seven_margin c m) = short (meets_refused r m)
  given_refused (sixteen F m) = short (meets_refused r m)
  given_refused (ten l) = no_room l.packs (lt-leb (length (packed_bytes l.accepted)) room l.longer)

  of_kind : {n : ℕ} (k : FieldKind) → MeetsUnfit r k → refusal_number (complaint k) ≡ n → GivenInPacking room r n
  of_kind version m e = absurd m.unfit
  of_kind scale m e = subst (GivenInPacking room r) e (three m)
  of_kind inputs m e = subst (GivenInPacking room r) e (four (inl m))
  of_kind instructions m e = subst (GivenInPacking room r) e (four (inr (inl m)))
  of_kind outputs m e = subst (GivenInPacking room r) e (four (inr (inr m)))
  of_kind code m e = subst (GivenInPacking room r) e (five m)
  of_kind constant m e = subst (GivenInPacking room r) e (seven (inl m))
  of_kind centre m e = subst (GivenInPacking room r) e (seven (inr m))
  of_kind (margin c) m e = subst (GivenInPacking room r) e (seven_margin c m)
  of_kind (operand v) m e = subst (GivenInPacking room r) e (six v m)
  of_kind (small_scale F) m e = subst (GivenInPacking room r) e (sixteen F m)

  tested_given : {n : ℕ} → slots_tested (raw_slots r) ≡ refused n → GivenInPacking room r n
  tested_given e =
      let f = first_unfit (raw_slots r) e in
      of_kind f.kind
      (record {
        earlier = f.earlier;
        given = f.given;
        later = f.rest;
        in_order = f.in_order;
        fit_so_far = f.fit_so_far;
        unfit = f.unfit;
      })
      (sym f.number)

  pack_given : {n : ℕ} → pack r ≡ refused n → GivenInPacking room r n
  unfolding pack
  pack_given {n} e = by_test (slots_tested (raw_slots r)) refl e
    where
      by_test : (a : Answer (Unit {0})) → slots_tested (raw_slots r) ≡ a
          → then a (λ u. value (formula_of r)) ≡ refused n → GivenInPacking room r n
      by_test (value u) t e = absurd (no_value (sym e))
      by_test (refused m) t e = tested_given (t ∙ ap refused (refused_same e))

  pub refused_given : {n : ℕ} → pack_into room r ≡ refused n → GivenInPacking room r n
  unfolding pack_into
  refused_given {n} e = by_pack (pack r) refl e
    where
      into : Formula → Answer (List ℕ)
      into f = cond (leb (length (packed_bytes f)) room) (value (packed_bytes f)) (refused 10)

      by_room : (f : Formula) → pack r ≡ value f → (t : Bool) → leb (length (packed_bytes f)) room ≡ t
          → cond t (value (packed_bytes f)) (refused 10) ≡ refused n → GivenInPacking room r n
      by_room f p true u e = absurd (no_value (sym e))
      by_room f p false u e =
          subst (GivenInPacking room r) (refused_same e)
          (ten (record { accepted = f; packs = p; longer = leb-false (length (packed_bytes f)) room u }))

      by_pack : (a : Answer Formula) → pack r ≡ a → then a into ≡ refused n → GivenInPacking room r n
      by_pack (value f) p e = by_room f p (leb (length (packed_bytes f)) room) refl e
      by_pack (refused m) p e = subst (GivenInPacking room r) (refused_same e) (pack_given p)

  -- "given exactly when"
  pub pack_refused_exactly : (n : ℕ) → (pack_into room r ≡ refused n) ↔ GivenInPacking room r n
  pack_refused_exactly n = (refused_given, given_refused)
