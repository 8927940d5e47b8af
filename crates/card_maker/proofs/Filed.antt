-- A card's two lists in the code's shape: the outputs' numbers are filled in, and what they name is picked. Assumes nothing.
use mathlib.Core.Path.{◌≡◌, sym, ◌∙◌, ap, subst}
use mathlib.Core.List.{List, map, map-map}
use Prim.Native.Nat.{ℕ, ◌*◌, ◌≤◌, ◌<◌}
use native.Mathlib.Omega.{arith}
use lib.IntN.{ℤ, pos, nat_abs}
use lib.ListN.{length, get_or, take, length-map, get_or-map}
use lib.Seq.{get_or-take}
use Rattle.lists.specs.Over.{over}
use Rattle.lists.proofs.Over.{over_front, over_long}
use Rattle.lists.proofs.InTurn.{each_place}
use Rattle.bits.specs.declared.Cursor.{Cursor}
use Rattle.formulas.specs.declared.Header.{Header}
use Rattle.formulas.specs.Formula.{places}
use Rattle.packed.specs.Meaning.{meant}
use Rattle.packed.proofs.Formed.{Formed, formed, limits_of}
use Rattle.outputs.specs.Picking as picking
use Rattle.filling.specs.Filling.{parts_in}
use Rattle.cards.specs.Card.{flat}
use Rattle.cards.specs.Lent.{CardLists}
use Rattle.slope_walk.specs.Grading.{row}
use Rattle.card_maker.specs.Parts.{all_places, Pickable, picked_numbers, RowsPickable, picked_rows, Writable, Writes, card_lists}

module _ {s : List ℕ} {h : Header} {c : Cursor} {margins slopes : List ℕ} {old : CardLists} (p : Writable s h c margins slopes old) where
  there : Formed s h
  there = formed s p.is_formula

  same_outputs : (meant s).header.outputs ≡ h.outputs
  same_outputs = ap (λ (a : Header). a.outputs) there.is_header

  as_many : length (map pos (meant s).results) ≡ h.outputs
  as_many = length-map (meant s).results pos ∙ there.well.results_long ∙ same_outputs

  pub pickable_in : {work room : ℕ} → places (meant s).header ≤ work → h.outputs ≤ room → picking.Pickable s c h.outputs work room
  pickable_in enough room =
      record {
        at_outputs = p.at_outputs;
        counts = sym same_outputs;
        few = (limits_of there).outputs_few;
        enough = enough;
        room = room;
      }

  -- at most 16 outputs
  pub outputs_pickable : picking.Pickable s c h.outputs (places (meant s).header) 16
  outputs_pickable = pickable_in (omega arith) (limits_of there).outputs_few

  module _ (outputs : List ℤ) (room : length outputs ≡ 16) {os : List ℤ} (filled : os ≡ over (parts_in s).outputs outputs) where
    in_front : take h.outputs os ≡ map pos (meant s).results
    in_front = ap (take h.outputs) filled ∙ over_front (map pos (meant s).results) outputs as_many

    named : h.outputs ≤ length os
    named =
        let l = (limits_of there).outputs_few in
        omega (arith, ap length filled, over_long (map pos (meant s).results) outputs (omega (arith, as_many)))

    below : (j : ℕ) → j < h.outputs → nat_abs (get_or os j (pos 0)) < all_places
    below j l =
        let e = sym (get_or-take h.outputs os j (pos 0) l) ∙ ap (λ (k : List ℤ). get_or k j (pos 0)) in_front ∙ get_or-map pos (meant s).results j 0 in
        let few = each_place (λ j o. o < places (meant s).header) 0 there.well.results_below j (omega (arith, as_many, length-map (meant s).results pos)) in
        subst (λ (z : ℤ). nat_abs z < all_places) (sym e)
        (omega (arith, few, ap places there.is_header, (limits_of there).inputs_few, (limits_of there).instructions_few))

    numbers_pickable : Pickable os h.outputs margins old.static
    numbers_pickable = record { named = named; below = below; there = p.margins_there; room = p.static_room }

    rows_pickable : RowsPickable os h.outputs h.inputs slopes old.slopes
    rows_pickable =
        record {
          named = named;
          outputs_few = (limits_of there).outputs_few;
          inputs_few = (limits_of there).inputs_few;
          below = below;
          there = p.slopes_there;
          room = p.slope_room;
        }

    writes : {E L : List ℕ} → E ≡ over (picked_numbers os h.outputs margins) old.static
        → L ≡ over (flat (picked_rows os h.outputs h.inputs slopes)) old.slopes → Writes s h margins slopes old (card_lists E L)
    writes a b =
        record {
          static_written =
              a
              ∙ ap (λ (l : List ℕ). over l old.static)
              (ap (map (λ z. get_or margins (nat_abs z) 0)) in_front ∙ map-map (λ z. get_or margins (nat_abs z) 0) pos (meant s).results);
          slopes_written =
              b
              ∙ ap (λ l. over (flat l) old.slopes)
              (ap (map (λ z. row h.inputs (nat_abs z * h.inputs) slopes)) in_front
              ∙ map-map (λ z. row h.inputs (nat_abs z * h.inputs) slopes) pos (meant s).results);
        }

-- as the code has it; the facts that share most with a goal come first
module _ {s : List ℕ} {h : Header} {c : Cursor} (outputs : List ℤ) {os : List ℤ} {margins slopes E L : List ℕ} where
  pub static_pickable : os ≡ over (parts_in s).outputs outputs → Writable s h c margins slopes (card_lists E L)
      → length outputs ≡ 16 → Pickable os h.outputs margins E
  static_pickable f p r = numbers_pickable p outputs r f

  pub slopes_pickable : os ≡ over (parts_in s).outputs outputs → Writable s h c margins slopes (card_lists E L)
      → length outputs ≡ 16 → RowsPickable os h.outputs h.inputs slopes L
  slopes_pickable f p r = rows_pickable p outputs r f

  pub card_written : {E' L' : List ℕ} → E' ≡ over (picked_numbers os h.outputs margins) E
      → L' ≡ over (flat (picked_rows os h.outputs h.inputs slopes)) L → os ≡ over (parts_in s).outputs outputs
      → Writable s h c margins slopes (card_lists E L) → length outputs ≡ 16
      → Writes s h margins slopes (card_lists E L) (card_lists E' L')
  card_written a b f p r = writes p outputs r f a b
