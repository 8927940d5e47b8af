-- Rows of m numbers, one of each thing listed, put behind one another. Assumes nothing.
use mathlib.Core.Path.{◌≡◌, sym, ◌∙◌, ap, ap₂}
use mathlib.Core.List.{List, [], ◌∷◌, ◌++◌, map}
use Prim.Native.Nat.{ℕ, ◌+◌, ◌*◌, ◌≤◌, ◌<◌}
use native.Mathlib.Nat.{le_refl, mul-le-mul}
use native.Mathlib.Omega.{arith}
use borrow.Rule.Slice.PartMut.{put_mid}
use lib.ListN.{length, get_or, take, drop, length-append, length-drop, take-append-drop}
use lib.Seq.{drop-drop, drop-append-add, length-take-le}
use Rattle.std.proofs.lemmas.List.{take_more, map-append}
use Rattle.std.proofs.lemmas.Slice.{take-put_mid, drop-put_mid}
use Rattle.lists.specs.Over.{over}
use Rattle.lists.proofs.Over.{over_front, over_long}
use Rattle.cards.specs.Card.{flat}
use Rattle.slope_walk.specs.Grading.{row}
use Rattle.slope_walk.proofs.Turns.{flat_behind}
use Rattle.card_maker.specs.Parts.{all_places, all_slopes}

-- row k is among those of n
pub row_within : {k n : ℕ} (m : ℕ) → k < n → k * m + m ≤ n * m
row_within {k} {n} m l = let next : k + 1 ≤ n = omega arith in omega (arith, mul-le-mul next (le_refl m))

-- the row of any value
pub value_row : {v m : ℕ} → v < all_places → m ≤ 16 → v * m + m ≤ all_slopes
value_row {v} l few = let next : v + 1 ≤ all_places = omega (arith, l) in omega (arith, mul-le-mul next few)

-- a row behind those in front
row_behind : (front mid old now : List ℕ) {a k : ℕ} → now ≡ over front old → length front ≡ a → length mid ≡ k → a + k ≤ length now
    → put_mid a k now mid ≡ over (front ++ mid) old
row_behind front mid old now {a} {k} e f g room =
    sym (take-append-drop (a + k) (put_mid a k now mid))
    ∙ ap₂ ◌++◌ (take-put_mid a k now mid (a + k) (omega arith) (omega arith) ∙ ap (λ (l : List ℕ). l ++ mid) first)
    (drop-put_mid a k now mid (a + k) (omega arith) (omega arith) g ∙ rest)
  where
    first : take a now ≡ front
    first = ap (take a) e ∙ over_front front old f

    whole : a + k ≡ length front + k
    whole = omega arith

    both : length front + k ≡ length (front ++ mid)
    both = omega (arith, length-append front mid)

    rest : drop (a + k) now ≡ drop (length (front ++ mid)) old
    rest =
        ap₂ drop whole e ∙ drop-append-add front (drop (length front) old) k ∙ drop-drop k (length front) old
        ∙ ap (λ (n : ℕ). drop n old) both

-- the rows of the values that the first k things number stand in front
pub record RowsStand {A : Type 0} (number : A → ℕ) (os : List A) (m : ℕ) (work old now : List ℕ) (k : ℕ) : Type 0 where
  pub as_long : length now ≡ length old
  pub front_long : length (flat (map (λ o. row m (number o * m) work) (take k os))) ≡ k * m
  pub are : now ≡ over (flat (map (λ o. row m (number o * m) work) (take k os))) old

-- and one more
pub row_stands : {A : Type 0} {number : A → ℕ} {os : List A} {m : ℕ} {work old now : List ℕ} {k : ℕ} (d : A) → RowsStand number os m work old now k
    → k < length os → k * m + m ≤ length now → {v : ℕ} → v ≡ number (get_or os k d) → v * m + m ≤ length work
    → {mid : List ℕ} {len c : ℕ} → mid ≡ take c (drop (v * m) work) → c ≡ m → len ≡ m → RowsStand number os m work old (put_mid (k * m) len now mid) (k + 1)
row_stands {A} {number} {os} {m} {work} {old} {now} {k} d w more out_inside {v} is row_inside {mid} {len} {c} e f g =
    record {
      as_long = ap length behind ∙ over_long (front ++ mid) old (omega (arith, both_long, out_inside, w.as_long));
      front_long = ap length grown ∙ both_long ∙ omega arith;
      are = behind ∙ ap (λ l. over l old) (sym grown);
    }
  where
    row_of : A → List ℕ
    row_of o = row m (number o * m) work

    front : List ℕ
    front = flat (map row_of (take k os))

    mid_is : mid ≡ row_of (get_or os k d)
    mid_is = e ∙ ap₂ (λ a o. take a (drop (o * m) work)) f is

    mid_long : length mid ≡ m
    mid_long = ap length e ∙ length-take-le c (drop (v * m) work) (omega (arith, length-drop (v * m) work, row_inside)) ∙ f

    both_long : length (front ++ mid) ≡ k * m + m
    both_long = length-append front mid ∙ omega (arith, w.front_long, mid_long)

    behind : put_mid (k * m) len now mid ≡ over (front ++ mid) old
    behind = row_behind front mid old now w.are w.front_long (mid_long ∙ sym g) (omega (arith, out_inside))

    grown : flat (map row_of (take (k + 1) os)) ≡ front ++ mid
    grown =
        ap (λ ns. flat (map row_of ns)) (take_more os k d more) ∙ ap flat (map-append row_of (take k os) (get_or os k d ∷ []))
        ∙ flat_behind (map row_of (take k os)) (row_of (get_or os k d))
        ∙ ap (λ l. front ++ l) (sym mid_is)
