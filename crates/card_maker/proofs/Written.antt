-- A card's two lists in the code's shape, output by output. Assumes nothing.
use mathlib.Core.Path.{◌≡◌, sym, ◌∙◌, ap}
use mathlib.Core.List.{List, map}
use Prim.Native.Nat.{ℕ, ◌+◌, ◌*◌, ◌≤◌, ◌<◌}
use native.Mathlib.Omega.{arith}
use borrow.Rule.Slice.PartMut.{put_mid}
use lib.ListN.{length, get_or, take, drop, set, length-map, get_or-map}
use mir.Syntax.{w64}
use mir.Val.{Fits}
use lib.Seq.{take_all}
use Rattle.std.specs.declared.option.Option.TheVariants.{Some}
use Rattle.lists.specs.Over.{over}
use Rattle.lists.proofs.Front.{Filled, filled_one, filled_all}
use Rattle.bits.specs.declared.Cursor.{Cursor}
use Rattle.formulas.specs.declared.Header.{Header}
use Rattle.formulas.specs.Formula.{places}
use Rattle.packed.specs.Meaning.{meant}
use Rattle.packed.proofs.Formed.{Formed, formed, limits_of}
use Rattle.bits.specs.Fields.{Field, before, field_answer}
use Rattle.bits.specs.Reader.{field}
use Rattle.outputs.specs.Picking.{Pickable}
use Rattle.outputs.proofs.Turns.{Past, is_output, names, results_many}
use Rattle.cards.specs.Card.{flat}
use Rattle.cards.specs.Lent.{CardLists}
use Rattle.slope_walk.specs.Grading.{row}
use Rattle.card_maker.specs.Parts.{all_places, all_slopes, Writable, Writes, card_lists}
use Rattle.card_maker.proofs.Rows.{RowsStand, row_within, value_row, row_stands}
use Rattle.card_maker.proofs.Filed.{pickable_in}

-- those of the first k outputs are written
pub record Writing (s : List ℕ) (h : Header) (c : Cursor) (margins slopes : List ℕ) (old now : CardLists) (k : ℕ) : Type 0 where
  pub writable : Writable s h c margins slopes old
  pub static : Filled (map (λ o. get_or margins o 0) (meant s).results) old.static now.static k
  pub slopes_long : length now.slopes ≡ length old.slopes
  pub front_long : length (flat (map (λ o. row h.inputs (o * h.inputs) slopes) (take k (meant s).results))) ≡ k * h.inputs
  pub slopes_are : now.slopes ≡ over (flat (map (λ o. row h.inputs (o * h.inputs) slopes) (take k (meant s).results))) old.slopes

module _ {s : List ℕ} {h : Header} {c : Cursor} {margins slopes : List ℕ} {old : CardLists} (p : Writable s h c margins slopes old) where
  there : Formed s h
  there = formed s p.is_formula

  pub write_pickable : Pickable s c h.outputs all_places (length old.static)
  write_pickable =
      pickable_in p (omega (arith, ap places there.is_header, (limits_of there).inputs_few, (limits_of there).instructions_few)) p.static_room

  -- the row of a value
  module _ {n : ℕ} (below : n < all_places) where
    row_end : n * h.inputs + h.inputs ≤ all_slopes
    row_end = value_row below (limits_of there).inputs_few

    pub start_fits : Fits w64 (n * h.inputs)
    start_fits = record { fits = omega (arith, row_end) }

    pub end_fits : Fits w64 ((n + 1) * h.inputs)
    end_fits = record { fits = omega (arith, row_end) }

    pub offset_fits : Fits w64 (n * h.inputs * 8)
    offset_fits = record { fits = omega (arith, row_end) }

    pub row_ends : (n + 1) * h.inputs ≤ length slopes
    row_ends = omega (arith, row_end, p.slopes_there)

module _ {s : List ℕ} {h : Header} {c : Cursor} {margins slopes : List ℕ} {old now : CardLists} {k : ℕ}
    (w : Writing s h c margins slopes old now k) where
  p : Writable s h c margins slopes old
  p = w.writable

  pub writing_all : h.outputs ≤ k → Writes s h margins slopes old now
  writing_all l =
      let all = take_all k (meant s).results (omega (arith, results_many (write_pickable p))) in
      record {
        static_written =
            filled_all (map (λ o. get_or margins o 0) (meant s).results) old.static
            (omega (arith, length-map (meant s).results (λ o. get_or margins o 0), results_many (write_pickable p))) w.static;
        slopes_written = w.slopes_are ∙ ap (λ os. over (flat (map (λ o. row h.inputs (o * h.inputs) slopes) os)) old.slopes) all;
      }

  module _ {at : Cursor} (turn : Past c at h.outputs k) (more : k < h.outputs) {r : Field} (reads : field_answer s r ≡ field 10 (before s at))
      {x : ℕ × Cursor} (got : r ≡ Some x) where
    pub below : x.0 < all_places
    below = names (write_pickable p) turn more reads got

    pub value_inside : x.0 < length margins
    value_inside = omega (arith, below, p.margins_there)

    pub writing_more : {mid : List ℕ} {len n : ℕ} → mid ≡ take n (drop (x.0 * h.inputs) slopes) → n ≡ h.inputs → len ≡ h.inputs
        → Writing s h c margins slopes old
        (card_lists (set now.static k (get_or margins x.0 0)) (put_mid (k * h.inputs) len now.slopes mid)) (k + 1)
    writing_more e d f =
        let one =
        row_stands 0 stand (omega (arith, results_many (write_pickable p))) (omega (arith, row_within h.inputs more, p.slope_room, w.slopes_long)) is
        (omega (arith, row_ends p below)) e d f in
        record {
          writable = p;
          static =
              filled_one (map (λ o. get_or margins o 0) (meant s).results) old.static (get_or margins 0 0) (omega (arith, many, p.static_room)) (omega (arith, many))
              (ap (λ o. get_or margins o 0) is ∙ sym (get_or-map (λ o. get_or margins o 0) (meant s).results k 0)) w.static;
          slopes_long = one.as_long;
          front_long = one.front_long;
          slopes_are = one.are;
        }
      where
        many : length (map (λ o. get_or margins o 0) (meant s).results) ≡ h.outputs
        many = length-map (meant s).results (λ o. get_or margins o 0) ∙ results_many (write_pickable p)

        is : x.0 ≡ get_or (meant s).results k 0
        is = is_output (write_pickable p) turn more reads got

        stand : RowsStand (λ (o : ℕ). o) (meant s).results h.inputs slopes old.slopes now.slopes k
        stand = record { as_long = w.slopes_long; front_long = w.front_long; are = w.slopes_are }
