-- Several put one after another: so many are put, and the slots of the others are left. Assumes nothing.
use mathlib.Core.Path.{◌≡◌, refl, sym, ◌∙◌, ap, subst}
use mathlib.Core.List.{List, [], ◌++◌, append_assoc, append-nil}
use Prim.Native.Nat.{ℕ, ◌+◌, ◌≤◌, ◌<◌}
use native.Mathlib.Nat.{add-zero}
use native.Mathlib.Omega.{arith}
use lib.ListN.{length, get_or, drop_of_length-le}
use Rattle.writing.specs.declared.Writer.{Writer}
use Rattle.packing.specs.Slots.{Slot, several_slots, slots_width}
use Rattle.packing.proofs.Packs.{tested_all, all_tested, all_apart}
use Rattle.packing.proofs.Lengths.{width_append}
use Rattle.fitting.proofs.Summing.{left, slots_turn}
use Rattle.putting.specs.Putting.{Puttable, PutsSlots}
use Rattle.putting.proofs.Puttings.{slots_then, slots_none}

module _ {A : Type 0} (s : ℕ → A → List Slot) (v : ℕ) (l : List A) where
  pub record Putting (w₀ : Writer) (out₀ : List ℕ) (k : ℕ) (w : Writer) (out : List ℕ) : Type 0 where
    pub inside : k ≤ length l
    pub may : Puttable (several_slots s v l) w₀ out₀
    pub done : List Slot
    pub puts : PutsSlots done w₀ out₀ out w
    pub both : done ++ left s v l k ≡ several_slots s v l
    pub as_long : length out ≡ length out₀

  pub putting_none : {w : Writer} {out : List ℕ} → Puttable (several_slots s v l) w out → Putting w out 0 w out
  putting_none p =
      record {
        inside = omega arith;
        may = p;
        done = [];
        puts = slots_none p.few;
        both = ap (λ (n : ℕ). several_slots s n l) (add-zero v);
        as_long = refl;
      }

  module _ {w₀ w : Writer} {out₀ out : List ℕ} {k : ℕ} (g : Putting w₀ out₀ k w out) where
    pub putting_ends : length l ≤ k → PutsSlots (several_slots s v l) w₀ out₀ out w
    putting_ends h =
        subst (λ (ss : List Slot). PutsSlots ss w₀ out₀ out w)
        (sym (append-nil g.done) ∙ ap (λ (r : List A). g.done ++ several_slots s (v + k) r) (sym (drop_of_length-le l {i = k} h))
        ∙ g.both)
        g.puts

    module _ (d : A) (more : k < length l) where
      in_three : g.done ++ (s (v + k) (get_or l k d) ++ left s v l (k + 1)) ≡ several_slots s v l
      in_three = ap (λ (ss : List Slot). g.done ++ ss) (sym (slots_turn s v l d k more)) ∙ g.both

      pub putting_asks : Puttable (s (v + k) (get_or l k d)) w out
      putting_asks =
          let rest = left s v l (k + 1) in
          let here = s (v + k) (get_or l k d) in
          let all = tested_all (g.done ++ (here ++ rest)) (rw in_three g.may.passed) in
          record {
            passed = all_tested here (all_apart here rest (all_apart g.done (here ++ rest) all).1).0;
            few = g.puts.few;
            room =
                omega (
                  arith,
                  g.puts.place,
                  g.may.room,
                  g.as_long,
                  ap slots_width in_three,
                  width_append g.done (here ++ rest),
                  width_append here rest,
                );
          }

      pub putting_more : {r : Writer} {new : List ℕ} → PutsSlots (s (v + k) (get_or l k d)) w out new r
          → length new ≡ length out → Putting w₀ out₀ (k + 1) r new
      putting_more {r} {new} p e =
          record {
            inside = omega arith;
            may = g.may;
            done = g.done ++ s (v + k) (get_or l k d);
            puts = slots_then g.puts p;
            both = append_assoc g.done (s (v + k) (get_or l k d)) (left s v l (k + 1)) ∙ in_three;
            as_long = e ∙ g.as_long;
          }
