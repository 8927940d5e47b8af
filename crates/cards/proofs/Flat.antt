-- The slopes in one list, cut into rows again, place by place; and the margins that the rows give, output by output. Assumes nothing.
use mathlib.Core.Path.{◌≡◌, refl, sym, ◌∙◌, ap, ap₂}
use mathlib.Core.List.{List, [], ◌∷◌, ◌++◌}
use Prim.Native.Nat.{ℕ, zero, suc, ◌+◌, ◌*◌, ◌≤◌, ◌<◌, zero-le}
use native.Mathlib.Nat.{suc-mul, le-add_right, le_of_suc-le-suc, not-suc-le-zero}
use native.Mathlib.Omega.{arith}
use lib.ListN.{length, get_or, take, drop, length-append}
use lib.Seq.{take-length, take-take, take-add, take_at, drop_at, drop-drop, get_or-take, get_or-drop, length-take-le}
use Rattle.lists.specs.Joined.{joined}
use Rattle.lists.proofs.Joined.{joined_long}
use Rattle.lists.specs.All.{All, none, one}
use Rattle.cards.specs.Slopes.{largest}
use Rattle.cards.specs.Card.{flat, rows, card_margin, card_margins, card_in}
use Rattle.cards.proofs.Weights.{Many, many_long}

pub flat_long : (m : ℕ) {ls : List (List ℕ)} → All (Many m) ls → length (flat ls) ≡ length ls * m
flat_long m none = omega arith
flat_long m (one {a = l} {l = ls} p ps) =
    length-append l (flat ls) ∙ omega (arith, many_long p, flat_long m ps, suc-mul (length ls) m)

-- n rows of m places out of a list in front of which they stand are those rows
pub rows_flat : (m n : ℕ) {ls : List (List ℕ)} → All (Many m) ls → length ls ≡ n → (L : List ℕ) → take (n * m) L ≡ flat ls → rows m n L ≡ ls
rows_flat m zero none l L e = refl
rows_flat m zero (one p ps) l L e = absurd (omega arith)
rows_flat m (suc n) none l L e = absurd (omega arith)
rows_flat m (suc n) (one {a = r} {l = rs} p ps) l L e = ap₂ ◌∷◌ first (rows_flat m n ps (omega arith) (drop m L) rest)
  where
    so_many : m + n * m ≡ suc n * m
    so_many = omega (arith, suc-mul n m)

    whole : take (m + n * m) L ≡ r ++ flat rs
    whole = ap (λ (k : ℕ). take k L) so_many ∙ e

    first : take m L ≡ r
    first = sym (take-take m (m + n * m) L (le-add_right m (n * m))) ∙ ap (take m) whole ∙ take_at r (flat rs) m (many_long p)

    rest : take (n * m) (drop m L) ≡ flat rs
    rest =
        sym (drop_at r (take (n * m) (drop m L)) m (many_long p))
        ∙ ap (drop m) (ap (λ (k : List ℕ). k ++ take (n * m) (drop m L)) (sym first) ∙ sym (take-add m (n * m) L) ∙ whole)
        ∙ drop_at r (flat rs) m (many_long p)

largest_both : (k l : List ℕ) {n : ℕ} → largest k ≤ n → largest l ≤ n → largest (k ++ l) ≤ n
largest_both [] l p q = q
largest_both (a ∷ k) l p q = omega (arith, largest_both k l (omega arith) q)

-- no number is over what none of a row is over
pub flat_low : (n : ℕ) {ls : List (List ℕ)} → All (λ l. largest l ≤ n) ls → largest (flat ls) ≤ n
flat_low n none = zero-le
flat_low n (one {a = l} {l = ls} p ps) = largest_both l (flat ls) p (flat_low n ps)

-- ---- place by place

pub rows_count : (m n : ℕ) (L : List ℕ) → length (rows m n L) ≡ n
rows_count m zero L = refl
rows_count m (suc n) L = ap suc (rows_count m n (drop m L))

-- row j stands from place j·m on
pub row_is : (m n : ℕ) (L : List ℕ) (j : ℕ) → j < n → get_or (rows m n L) j [] ≡ take m (drop (j * m) L)
row_is m zero L j l = absurd (not-suc-le-zero l)
row_is m (suc n) L zero l = ap (λ (k : ℕ). take m (drop k L)) none_before
  where
    none_before : 0 ≡ 0 * m
    none_before = omega arith
row_is m (suc n) L (suc j) l =
    row_is m n (drop m L) j (le_of_suc-le-suc l) ∙ ap (take m) (drop-drop (j * m) m L ∙ ap (λ (k : ℕ). drop k L) one_more)
  where
    one_more : m + j * m ≡ suc j * m
    one_more = omega (arith, suc-mul j m)

pub row_at : (m n : ℕ) (L : List ℕ) (j i : ℕ) → j < n → i < m → get_or (get_or (rows m n L) j []) i 0 ≡ get_or L (j * m + i) 0
row_at m n L j i p q = ap (λ (l : List ℕ). get_or l i 0) (row_is m n L j p) ∙ get_or-take m (drop (j * m) L) i 0 q ∙ get_or-drop (j * m) L i 0

-- slope i of output j stands in place j·m + i
pub flat_at : (m : ℕ) {ls : List (List ℕ)} → All (Many m) ls → (j i : ℕ) → j < length ls → i < m → get_or (flat ls) (j * m + i) 0 ≡ get_or (get_or ls j []) i 0
flat_at m {ls} a j i p q =
    sym (row_at m (length ls) (flat ls) j i p q)
    ∙ ap (λ (rs : List (List ℕ)). get_or (get_or rs j []) i 0)
    (rows_flat m (length ls) a refl (flat ls) (ap (λ (k : ℕ). take k (flat ls)) (sym (flat_long m a)) ∙ take-length (flat ls)))

margins_at : (F : ℕ) (ss E : List ℕ) (ls : List (List ℕ)) (j : ℕ) → j < length E → j < length ls
    → get_or (joined (card_margin F ss) E ls) j 0 ≡ card_margin F ss (get_or E j 0) (get_or ls j [])
margins_at F ss [] ls j p q = absurd (not-suc-le-zero p)
margins_at F ss (e ∷ E) [] j p q = absurd (not-suc-le-zero q)
margins_at F ss (e ∷ E) (l ∷ ls) zero p q = refl
margins_at F ss (e ∷ E) (l ∷ ls) (suc j) p q = margins_at F ss E ls j (le_of_suc-le-suc p) (le_of_suc-le-suc q)

module _ (F m n : ℕ) (E L ss : List ℕ) (room : n ≤ length E) where
  -- n margins
  pub card_margins_long : length (card_margins F (card_in m n E L) ss) ≡ n
  card_margins_long =
      joined_long (card_margin F ss) (take n E) (rows m n L) (length-take-le n E room ∙ sym (rows_count m n L)) ∙ length-take-le n E room

  -- that of output j
  pub card_margin_at : (j : ℕ) → j < n → get_or (card_margins F (card_in m n E L) ss) j 0 ≡ card_margin F ss (get_or E j 0) (take m (drop (j * m) L))
  card_margin_at j l =
      margins_at F ss (take n E) (rows m n L) j (omega (arith, length-take-le n E room)) (omega (arith, rows_count m n L))
      ∙ ap₂ (card_margin F ss) (get_or-take n E j 0 l) (row_is m n L j l)
