-- The outputs' numbers and rows in the code's shape: those of the first k outputs, one more, all. Assumes nothing.
use mathlib.Core.Path.{◌≡◌, sym, ◌∙◌, ap}
use mathlib.Core.List.{List, map}
use Prim.Native.Nat.{ℕ, ◌+◌, ◌*◌, ◌<◌}
use native.Mathlib.Omega.{arith}
use borrow.Rule.Slice.PartMut.{put_mid}
use lib.IntN.{ℤ, pos, nat_abs}
use lib.ListN.{length, get_or, take, drop, set, length-map, get_or-map}
use lib.Seq.{get_or-take, length-take-le}
use Rattle.whole.proofs.Machine.{back, back_is}
use Rattle.lists.specs.Over.{over}
use Rattle.lists.proofs.Front.{Filled, filled_one}
use Rattle.cards.specs.Card.{flat}
use Rattle.card_maker.specs.Parts.{all_places, Pickable, picked_numbers, RowsPickable, picked_rows}
use Rattle.card_maker.proofs.Rows.{RowsStand, row_within, value_row, row_stands}

-- a number that a field may hold is read as it is
size_is : (z : ℤ) {v : ℕ} → nat_abs z < all_places → v ≡ nat_abs (back z) → v ≡ nat_abs z
size_is z l e = e ∙ ap nat_abs (back_is z (omega arith))

-- ---- one number an output

pub record Picking (os : List ℤ) (n : ℕ) (work old now : List ℕ) (k : ℕ) : Type 0 where
  pub asked : Pickable os n work old
  pub filled : Filled (picked_numbers os n work) old now k

module _ {os : List ℤ} {n : ℕ} {work old now : List ℕ} {k : ℕ} (w : Picking os n work old now k) where
  numbers_long : length (picked_numbers os n work) ≡ n
  numbers_long = length-map (take n os) (λ z. get_or work (nat_abs z) 0) ∙ length-take-le n os w.asked.named

  pub picking_more : k < n → {v : ℕ} → v ≡ nat_abs (back (get_or os k (pos 0))) → Picking os n work old (set now k (get_or work v 0)) (k + 1)
  picking_more more {v} e =
      record {
        asked = w.asked;
        filled =
            filled_one (picked_numbers os n work) old (get_or work 0 0) (omega (arith, numbers_long, w.asked.room)) (omega (arith, numbers_long))
            (ap (λ (o : ℕ). get_or work o 0) (size_is (get_or os k (pos 0)) (w.asked.below k more) e)
            ∙ sym
            (get_or-map (λ z. get_or work (nat_abs z) 0) (take n os) k (pos 0)
            ∙ ap (λ (z : ℤ). get_or work (nat_abs z) 0) (get_or-take n os k (pos 0) more)))
            w.filled;
      }

-- ---- a row an output

pub record RowsPicking (os : List ℤ) (n m : ℕ) (work old now : List ℕ) (k : ℕ) : Type 0 where
  pub asked : RowsPickable os n m work old
  pub as_long : length now ≡ length old
  pub front_long : length (flat (picked_rows os k m work)) ≡ k * m
  pub are : now ≡ over (flat (picked_rows os k m work)) old

pub rows_more : {os : List ℤ} {n m : ℕ} {work old now : List ℕ} {k : ℕ} → RowsPicking os n m work old now k → k < n → {v : ℕ}
    → v ≡ nat_abs (back (get_or os k (pos 0))) → {mid : List ℕ} {len c : ℕ} → mid ≡ take c (drop (v * m) work) → c ≡ m → len ≡ m
    → RowsPicking os n m work old (put_mid (k * m) len now mid) (k + 1)
rows_more {os} {n} {m} {work} {old} {now} {k} w more {v} e a d f =
    let is = size_is (get_or os k (pos 0)) (w.asked.below k more) e in
    let stand : RowsStand nat_abs os m work old now k = record { as_long = w.as_long; front_long = w.front_long; are = w.are } in
    let one =
    row_stands (pos 0) stand (omega (arith, w.asked.named)) (omega (arith, row_within m more, w.asked.room, w.as_long)) is
    (omega (arith, value_row {v = v} (omega (arith, is, w.asked.below k more)) w.asked.inputs_few, w.asked.there)) a d f in
    record {
      asked = w.asked;
      as_long = one.as_long;
      front_long = one.front_long;
      are = one.are;
    }
