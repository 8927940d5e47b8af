-- One part of the values in a lent list of its own: as values are added, as a front is written again, and at an index. Assumes nothing.
use mathlib.Core.Path.{◌≡◌, refl, sym, ◌∙◌, ap, ap₂}
use mathlib.Core.List.{List, [], ◌∷◌, ◌++◌, map, map-append}
use Prim.Native.Nat.{ℕ, ◌≤◌, ◌<◌}
use native.Mathlib.Omega.{arith}
use lib.ListN.{length, get_or, drop, set, take, length-map, get_or-append, get_or-map}
use Rattle.lists.specs.Over.{over}
use Rattle.lists.specs.Each.{Each, none, one}
use Rattle.lists.proofs.Over.{over_start, over_more, over_over, over_front, over_long}

-- `of` gives the part of all values, `part` that of one
pub record PartOf {A B : Type 0} (d : A) (part : A → B) (of : List A → List B) : Type 0 where
  pub as_long : (vs : List A) → length (of vs) ≡ length vs
  pub at : (vs : List A) (i : ℕ) → get_or (of vs) i (part d) ≡ part (get_or vs i d)
  pub behind : (vs : List A) (v : A) → of (vs ++ v ∷ []) ≡ of vs ++ part v ∷ []
  pub of_outputs : (g : ℕ → A) (os : List ℕ) → of (map g os) ≡ map (λ o. part (g o)) os

-- the values themselves, and a field of each
pub itself : {A : Type 0} (d : A) → PartOf d (λ v. v) (λ vs. vs)
itself d = record { as_long = λ vs. refl; at = λ vs i. refl; behind = λ vs v. refl; of_outputs = λ g os. refl }

pub field_of : {A B : Type 0} (d : A) (part : A → B) → PartOf d part (map part)
field_of d part =
    record {
      as_long = λ vs. length-map vs part;
      at = λ vs i. get_or-map part vs i d;
      behind = λ vs v. map-append part vs (v ∷ []);
      of_outputs = fused;
    }
  where
    fused : (g : ℕ → _) (os : List ℕ) → map part (map g os) ≡ map (λ o. part (g o)) os
    fused g [] = refl
    fused g (o ∷ os) = ap (λ l. part (g o) ∷ l) (fused g os)

module _ {A B : Type 0} {d : A} {part : A → B} {of : List A → List B} (q : PartOf d part of) where
  -- the front of the list is the part of the values already
  pub part_start : (vs : List A) (l : List B) {n : ℕ} → length vs ≡ n → take n l ≡ of vs → l ≡ over (of vs) l
  part_start vs l e f = over_start l (q.as_long vs ∙ e) f

  pub part_more : (vs : List A) (v : A) (old : List B) {now : List B} {n : ℕ} → length vs ≡ n → n < length old
      → now ≡ over (of vs) old → set now n (part v) ≡ over (of (vs ++ v ∷ [])) old
  part_more vs v old e l k = over_more (of vs) (part v) old (q.as_long vs ∙ e) l k ∙ ap (λ a. over a old) (sym (q.behind vs v))

  pub part_again : (vs ws : List A) (old : List B) {first now : List B} → length vs ≤ length ws
      → first ≡ over (of vs) old → now ≡ over (of ws) first → now ≡ over (of ws) old
  part_again vs ws old l f n = n ∙ ap (over (of ws)) f ∙ over_over (of vs) (of ws) old (omega (arith, l, q.as_long vs, q.as_long ws))

  pub part_front : (vs : List A) (old : List B) {now : List B} {n : ℕ} → length vs ≡ n → now ≡ over (of vs) old → take n now ≡ of vs
  part_front vs old {n = n} e k = ap (take n) k ∙ over_front (of vs) old (q.as_long vs ∙ e)

  -- a list that has room for the values is as long as it was
  pub part_long : (vs : List A) (old : List B) {now : List B} → length vs ≤ length old → now ≡ over (of vs) old → length now ≡ length old
  part_long vs old l k = ap length k ∙ over_long (of vs) old (omega (arith, l, q.as_long vs))

  -- what stands at the places that the outputs name
  pub part_picked : (vs : List A) (old : List B) {now : List B} {n v : ℕ} {os : List ℕ} → now ≡ over (of vs) old
      → Each (λ j o. o < n) v os → n ≤ length vs → map (λ o. get_or now o (part d)) os ≡ of (map (λ o. get_or vs o d) os)
  part_picked vs old {os = os} k e l = ap (λ a. map (λ o. get_or a o (part d)) os) k ∙ each_one e l ∙ sym (q.of_outputs (λ o. get_or vs o d) os)
    where
      each_one : {n v : ℕ} {os : List ℕ} → Each (λ j o. o < n) v os → n ≤ length vs
          → map (λ o. get_or (over (of vs) old) o (part d)) os ≡ map (λ o. part (get_or vs o d)) os
      each_one none l = refl
      each_one (one {a = o} p ps) l =
          ap₂ ◌∷◌ (get_or-append (of vs) (drop (length (of vs)) old) (part d) o (omega (arith, q.as_long vs)) ∙ q.at vs o) (each_one ps l)
