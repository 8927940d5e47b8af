-- The packer's three ways to end: a refusal of the tests, no room, the bytes. Assumes nothing.
use mathlib.Core.Path.{◌≡◌, sym, ◌∙◌, ap, subst}
use mathlib.Core.List.{List, ◌++◌}
use Prim.Native.Nat.{ℕ, ◌≤◌, ◌<◌}
use native.Mathlib.Nat.{zero-add}
use native.Mathlib.Omega.{arith}
use borrow.Author.Tests.{le-leb, lt-leb}
use lib.ListN.{length, drop}
use Rattle.std.specs.declared.result.Result.TheVariants.{Ok, Err}
use Rattle.refusals.specs.Places.{because}
use Rattle.lists.specs.Over.{over}
use Rattle.refusals.specs.declared.Refused.{Refused}
use Rattle.whole.proofs.Machine.{back}
use lib.IntN.{ℤ}
use mir.Syntax.{w64}
use mir.Val.{SFits}
use mir.ValLaws.{to_z-of_z}
use Rattle.refusals.specs.declared.Refusal.{Refusal}
use Rattle.refusals.specs.declared.Refusal.TheVariants as refusal
use Rattle.refusals.specs.Answer.{Answer, value, refused, refuse, then}
use Rattle.refusals.specs.Said.{answered}
use Rattle.refusals.proofs.Answers.{Before, no_value, refused_same, first_of, same_value}
use Rattle.writing.specs.Bytes.{whole_bytes}
use Rattle.packing.specs.Raw.{RawFormula, Parts, handed, formula_of}
use Rattle.packing.specs.Slots.{Slot, raw_slots, slots_width, packed_bytes}
use Rattle.packing.specs.Packing.{slots_tested, pack, pack_into}
use Rattle.packing.specs.PackAnswers.{packed_said, packed_front, Packs}
use Rattle.packing.proofs.Packs.{tested_all, fit_accepted, pack_all}
use Rattle.packing.proofs.Lengths.{packed_long}
use Rattle.fitting.specs.Sizes.{sized, FormulaSizes}
use Rattle.putting.specs.Writing.{WritesFormula}

-- what the tests said
refused_tests : (ss : List Slot) {n : ℕ} → sized ss ≡ refused n → slots_tested ss ≡ refused n
refused_tests ss {n} e = by_test (slots_tested ss) e
  where
    by_test : (a : Answer (Unit {0})) → then a (λ u. value (slots_width ss)) ≡ refused n → a ≡ refused n
    by_test (value u) e = absurd (no_value (sym e))
    by_test (refused m) e = ap refused (refused_same e)

module _ (given : RawFormula) where
  refused_pack : {n : ℕ} (room : ℕ) → slots_tested (raw_slots given) ≡ refused n → pack_into room given ≡ refused n
  unfolding pack_into pack
  refused_pack room e = rw e

  module _ (e : slots_tested (raw_slots given) ≡ value tt) where
    packs : pack given ≡ value (formula_of given)
    packs = pack_all given (tested_all (raw_slots given) e)

    -- the size is known before a byte is written
    pub size_is : length (packed_bytes (formula_of given)) ≡ whole_bytes (slots_width (raw_slots given))
    size_is =
        packed_long (formula_of given)
        ∙ ap (λ (ss : List Slot). whole_bytes (slots_width ss))
        (fit_accepted given (tested_all (raw_slots given) e)).fields

    into_long : (room : ℕ) → room < whole_bytes (slots_width (raw_slots given)) → pack_into room given ≡ refuse refusal.NoRoom
    unfolding pack_into
    into_long room l = rw (packs, lt-leb (length (packed_bytes (formula_of given))) room (omega (arith, size_is)))

    into_room : (room : ℕ) → whole_bytes (slots_width (raw_slots given)) ≤ room
        → pack_into room given ≡ value (packed_bytes (formula_of given))
    unfolding pack_into
    into_room room l = rw (packs, le-leb (length (packed_bytes (formula_of given))) room (omega (arith, size_is)))

-- the numbers as the code keeps them are those that were handed over
module _ (F m : ℤ) (p : Parts) (fF : SFits w64 F) (fm : SFits w64 m) where
  abbrev given : RawFormula
  given = handed F m p

  abbrev held : RawFormula
  held = handed (back F) (back m) p

  same : held ≡ given
  same = λ i. handed (to_z-of_z w64 F fF i) (to_z-of_z w64 m fm i) p

  pub tests_refuse : {r : Refusal} (old : List ℕ) → FormulaSizes held (Err r) → Packs given old old (Err (because r 0))
  tests_refuse {r} old z =
      let q = refused_pack given (length old) (refused_tests (raw_slots given) (sym (subst (λ g. FormulaSizes g (Err r)) same z).is.answers)) in
      record { says = sym (ap packed_said q); writes = sym (ap (λ a. over (packed_front a) old) q) }

  module _ {n : ℕ} (z : FormulaSizes held (Ok n)) where
    size : Before (slots_tested (raw_slots given)) (λ u. value (slots_width (raw_slots given))) n
    size =
        first_of (slots_tested (raw_slots given)) (λ u. value (slots_width (raw_slots given)))
        (sym (subst (λ g. FormulaSizes g (Ok n)) same z).is.answers)

    pub room_refuses : (old : List ℕ) → length old < whole_bytes n → {e : Refused} → e ≡ because refusal.NoRoom 0
        → Packs given old old (Err e)
    room_refuses old l e =
        let r = into_long given size.was (length old) (omega (arith, same_value size.then_was)) in
        rw e (record { says = sym (ap packed_said r); writes = sym (ap (λ a. over (packed_front a) old) r) })

    module _ {old : List ℕ} (l : whole_bytes n ≤ length old) where
      pub formula_packed : {new : List ℕ} {k : ℕ} → WritesFormula held old new k → Packs given old new (Ok k)
      formula_packed {new} {k} w =
          let q = into_room given size.was (length old) (omega (arith, same_value size.then_was)) in
          let v = (subst (λ (g : RawFormula). WritesFormula g old new k) same w).wrote in
          let bytes = packed_bytes (formula_of given) in
          record {
            says = ap answered (v.after ∙ zero-add (length bytes)) ∙ sym (ap packed_said q);
            writes =
                v.holds ∙ ap (λ (n : ℕ). bytes ++ drop n old) (zero-add (length bytes))
                ∙ sym (ap (λ a. over (packed_front a) old) q);
          }
