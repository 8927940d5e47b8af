-- The bits of several, one after another: so many are summed up, and what is left decides the rest. Assumes nothing.
use mathlib.Core.Path.{◌≡◌, refl, sym, ◌∙◌, ap, ap₂}
use mathlib.Core.Bool.{Bool, true, false, cond}
use mathlib.Core.List.{List, [], ◌∷◌, ◌++◌}
use Prim.Native.Nat.{ℕ, suc, ◌+◌, ◌*◌, ◌≤◌, ◌<◌}
use native.Mathlib.Nat.{add-zero}
use native.Mathlib.Omega.{arith}
use lib.ListN.{length, get_or, drop, drop_of_length-le}
use lib.Seq.{drop-cons}
use Rattle.std.specs.declared.result.Result.TheVariants.{Ok, Err}
use Rattle.refusals.specs.declared.Refusal.{Refusal}
use Rattle.refusals.specs.Answer.{Answer, value, refused, refuse, then}
use Rattle.packed.specs.Items.{complaint}
use Rattle.packing.specs.Slots.{Slot, several_slots, slots_width}
use Rattle.packing.specs.Packing.{fits, slots_tested}
use Rattle.packing.proofs.Lengths.{width_append}
use Rattle.fitting.specs.Sizes.{sized, Sizes}

-- ---- tests one after another

pub tested_append : (ss ts : List Slot) → slots_tested (ss ++ ts) ≡ then (slots_tested ss) (λ u. slots_tested ts)
tested_append [] ts = refl
tested_append (s ∷ ss) ts = by_test (fits s.kind s.number) (tested_append ss ts)
  where
    by_test : (t : Bool) → slots_tested (ss ++ ts) ≡ then (slots_tested ss) (λ u. slots_tested ts)
        → cond t (slots_tested (ss ++ ts)) (refuse (complaint s.kind))
        ≡ then (cond t (slots_tested ss) (refuse (complaint s.kind))) (λ u. slots_tested ts)
    by_test true e = e
    by_test false e = refl

pub sized_append : (ss ts : List Slot)
    → sized (ss ++ ts) ≡ then (sized ss) (λ m. then (sized ts) (λ n. value (m + n)))
sized_append ss ts =
    ap₂ (λ (a : Answer (Unit {0})) (n : ℕ). then a (λ u. value n)) (tested_append ss ts) (width_append ss ts)
    ∙ by_tests (slots_tested ss) (slots_tested ts)
  where
    by_tests : (a b : Answer (Unit {0}))
        → then (then a (λ u. b)) (λ u. value (slots_width ss + slots_width ts))
        ≡ then (then a (λ u. value (slots_width ss))) (λ m.
        then (then b (λ u. value (slots_width ts))) (λ n. value (m + n)))
    by_tests (value u) (value w) = refl
    by_tests (value u) (refused n) = refl
    by_tests (refused n) b = refl

-- ---- a loop over elements with so many slots each

module _ {A : Type 0} (s : ℕ → A → List Slot) (v : ℕ) (l : List A) where
  abbrev pub left : ℕ → List Slot
  left i = several_slots s (v + i) (drop i l)

  pub record Summing (i bits : ℕ) : Type 0 where
    pub some : i ≤ length l
    pub same : then (sized (left i)) (λ n. value (bits + n)) ≡ sized (several_slots s v l)
    pub few : bits ≤ 66 * i

  pub summing_none : Summing 0 0
  summing_none =
      record {
        some = omega arith;
        same =
            ap (λ (n : ℕ). then (sized (several_slots s n l)) (λ n. value (0 + n))) (add-zero v)
            ∙ whole (sized (several_slots s v l));
        few = omega arith;
      }
    where
      whole : (a : Answer ℕ) → then a (λ n. value (0 + n)) ≡ a
      whole (value n) = ap value (zero_plus n)
        where
          zero_plus : (n : ℕ) → 0 + n ≡ n
          zero_plus n = omega arith
      whole (refused n) = refl

  pub slots_turn : (d : A) (i : ℕ) → i < length l → left i ≡ s (v + i) (get_or l i d) ++ left (i + 1)
  slots_turn d i h =
      ap (several_slots s (v + i)) (drop-cons l i d h)
      ∙ ap₂ (λ (n m : ℕ). s (v + i) (get_or l i d) ++ several_slots s n (drop m l)) next one
    where
      next : suc (v + i) ≡ v + (i + 1)
      next = omega arith

      one : suc i ≡ i + 1
      one = omega arith

  module _ (d : A) {i bits : ℕ} (g : Summing i bits) (more : i < length l) where
    unrolled : then (sized (s (v + i) (get_or l i d))) (λ m. then (sized (left (i + 1))) (λ n. value (bits + (m + n))))
        ≡ sized (several_slots s v l)
    unrolled =
        by_parts (sized (s (v + i) (get_or l i d))) (sized (left (i + 1)))
        ∙ sym
        (ap (λ (a : Answer ℕ). then a (λ n. value (bits + n)))
        (ap sized (slots_turn d i more) ∙ sized_append (s (v + i) (get_or l i d)) (left (i + 1))))
        ∙ g.same
      where
        by_parts : (a b : Answer ℕ)
            → then a (λ m. then b (λ n. value (bits + (m + n))))
            ≡ then (then a (λ m. then b (λ n. value (m + n)))) (λ n. value (bits + n))
        by_parts (value m) (value n) = refl
        by_parts (value m) (refused n) = refl
        by_parts (refused n) b = refl

    pub summing_stops : {r : Refusal} → Sizes (s (v + i) (get_or l i d)) (Err r) → Sizes (several_slots s v l) (Err r)
    summing_stops {r} z =
        record {
          answers =
              ap (λ (a : Answer ℕ). then a (λ m. then (sized (left (i + 1))) (λ n. value (bits + (m + n))))) z.answers
              ∙ unrolled;
        }

    pub summing_more : {n : ℕ} → n ≤ 66 → Sizes (s (v + i) (get_or l i d)) (Ok n) → Summing (i + 1) (bits + n)
    summing_more {n} w z =
        record {
          some = omega arith;
          same =
              ap (λ (f : ℕ → Answer ℕ). then (sized (left (i + 1))) f) (λ j k. value (grouped k j))
              ∙ ap (λ (a : Answer ℕ). then a (λ m. then (sized (left (i + 1))) (λ k. value (bits + (m + k))))) z.answers
              ∙ unrolled;
          few = omega (arith, g.few, w);
        }
      where
        grouped : (k : ℕ) → bits + n + k ≡ bits + (n + k)
        grouped k = omega arith

  pub summing_ends : {i bits : ℕ} → Summing i bits → i ≡ length l → Sizes (several_slots s v l) (Ok bits)
  summing_ends {i} {bits} g e =
      record {
        answers =
            ap value (plus bits)
            ∙ sym (ap (λ (r : List A). then (sized (several_slots s (v + i) r)) (λ n. value (bits + n))) (drop_of_length-le l {i = i} (omega arith)))
            ∙ g.same;
      }
    where
      plus : (n : ℕ) → n ≡ n + 0
      plus n = omega arith
