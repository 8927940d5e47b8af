-- A list whose front is written element by element: none yet, one more, all. Assumes nothing.
use mathlib.Core.Path.{◌≡◌, refl, sym, ◌∙◌, ap}
use mathlib.Core.List.{List, [], ◌∷◌, ◌++◌, map}
use Prim.Native.Nat.{ℕ, zero, ◌+◌, ◌≤◌, ◌<◌}
use native.Mathlib.Numerals.{add-one}
use native.Mathlib.Omega.{arith}
use lib.IntN.{ℤ, pos, nat_abs}
use lib.ListN.{length, get_or, take, set, length-set, length-map, get_or-map}
use lib.Seq.{take_all, take-suc, length-take-le}
use mir.Syntax.{w64}
use mir.Val.{SFits, to_z, of_z}
use mir.ValLaws.{to_z-of_z}
use Rattle.lists.specs.Over.{over}
use Rattle.lists.proofs.Over.{over_more}

-- the first k of the new values, then what was there
pub record Filled {A : Type 0} (new old now : List A) (k : ℕ) : Type 0 where
  pub some : k ≤ length new
  pub as_long : length now ≡ length old
  pub is : now ≡ over (take k new) old

module _ {A : Type 0} (new old : List A) where
  pub filled_none : Filled new old old zero
  filled_none = record { some = omega arith; as_long = refl; is = refl }

  -- z is any value: what is read past an end does not matter
  pub filled_one : {now : List A} {k : ℕ} {v : A} (z : A) → length new ≤ length old → k < length new → v ≡ get_or new k z
      → Filled new old now k → Filled new old (set now k v) (k + 1)
  filled_one {now} {k} {v} z room more e w =
      record {
        some = omega arith;
        as_long = length-set now k v ∙ w.as_long;
        is =
            over_more (take k new) v old (length-take-le k new (omega arith)) (omega arith) w.is
            ∙ ap (λ l. over l old) (ap (λ a. take k new ++ a ∷ []) e ∙ sym (take-suc new k z more) ∙ ap (λ (n : ℕ). take n new) (sym (add-one k)));
      }

  pub filled_all : {now : List A} {k : ℕ} → length new ≤ k → Filled new old now k → now ≡ over new old
  filled_all {k = k} l w = w.is ∙ ap (λ a. over a old) (take_all k new l)

-- the sizes of numbers, one by one
pub sizes_none : (xs : List ℤ) (old : List ℕ) → Filled (map nat_abs xs) old old 0
sizes_none xs old = filled_none (map nat_abs xs) old

pub sizes_one : (xs : List ℤ) {old now : List ℕ} {i n : ℕ} → Filled (map nat_abs xs) old now i → i < length xs → length xs ≤ length old
    → SFits w64 (get_or xs i (pos 0)) → n ≡ nat_abs (to_z w64 (of_z w64 (get_or xs i (pos 0)))) → Filled (map nat_abs xs) old (set now i n) (i + 1)
sizes_one xs {old} {i = i} f b r s e =
    let m = length-map xs nat_abs in
    filled_one (map nat_abs xs) old 0 (omega (arith, m, r)) (omega (arith, m, b))
    (e ∙ ap nat_abs (to_z-of_z w64 (get_or xs i (pos 0)) s) ∙ sym (get_or-map nat_abs xs i (pos 0))) f

pub sizes_all : (xs : List ℤ) {old now : List ℕ} {i : ℕ} → Filled (map nat_abs xs) old now i → length xs ≤ i → now ≡ over (map nat_abs xs) old
sizes_all xs {old} f l = filled_all (map nat_abs xs) old (omega (arith, length-map xs nat_abs, l)) f
