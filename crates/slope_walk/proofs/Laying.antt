-- A row of slopes laid place by place behind others, which stay; it is given up at the first over M. Assumes nothing.
use mathlib.Core.Path.{◌≡◌, refl, sym, ◌∙◌, ap, ap₂}
use mathlib.Core.List.{List, [], ◌∷◌, ◌++◌}
use Prim.Native.Nat.{ℕ, zero, suc, ◌+◌, ◌≤◌, ◌<◌, zero-le}
use native.Mathlib.Nat.{le_of_suc-le-suc, not-suc-le-zero}
use native.Mathlib.Numerals.{add-one}
use native.Mathlib.Omega.{arith}
use borrow.Author.Tests.{le-leb, lt-leb}
use borrow.Author.Count.{below_more}
use lib.ListN.{length, get_or, set, take, drop}
use lib.Seq.{take_all, paste, paste-zero, paste-suc}
use Rattle.lists.specs.Joined.{joined}
use Rattle.rules.specs.Numbers.{M}
use Rattle.cards.specs.Slopes.{largest}
use Rattle.cards.proofs.Slopes.{largest_at}
use Rattle.refusals.specs.declared.Refusal.TheVariants.{OutOfReach}
use Rattle.std.specs.declared.result.Result.TheVariants.{Ok, Err}
use Rattle.slope_walk.specs.Grading.{if_low, Laid}

pub both_at : (f : ℕ → ℕ → ℕ) (ks ls : List ℕ) (j : ℕ) → j < length ks → j < length ls → get_or (joined f ks ls) j 0 ≡ f (get_or ks j 0) (get_or ls j 0)
both_at f [] ls j p q = absurd (not-suc-le-zero p)
both_at f (k ∷ ks) [] j p q = absurd (not-suc-le-zero q)
both_at f (k ∷ ks) (l ∷ ls) zero p q = refl
both_at f (k ∷ ks) (l ∷ ls) (suc j) p q = both_at f ks ls j (le_of_suc-le-suc p) (le_of_suc-le-suc q)

pub low_all : (l : List ℕ) (n : ℕ) → ((j : ℕ) → j < length l → get_or l j 0 ≤ n) → largest l ≤ n
low_all [] n h = zero-le
low_all (a ∷ l) n h = omega (arith, h 0 (omega arith), low_all l n (λ j k. h (suc j) (omega arith)))

-- the first i of the row stand from `at` on, and none of them is over M
pub record Laying (new_row : List ℕ) (m at : ℕ) (old now : List ℕ) (i : ℕ) : Type 0 where
  pub as_many : length new_row ≡ m
  pub room : at + m ≤ length old
  pub some : i ≤ m
  pub is : now ≡ paste old at new_row i
  pub low : (j : ℕ) → j < i → get_or new_row j 0 ≤ M

pub laying_start : (new_row : List ℕ) {m at : ℕ} (old : List ℕ) → length new_row ≡ m → at + m ≤ length old → Laying new_row m at old old 0
laying_start new_row {m} {at} old e r =
    record { as_many = e; room = r; some = zero-le; is = paste-zero old at new_row; low = λ j l. absurd (not-suc-le-zero l) }

module _ {new_row : List ℕ} {m at : ℕ} {old now : List ℕ} {i : ℕ} (w : Laying new_row m at old now i) where
  pub laying_all : m ≤ i → Laid new_row at old now (Ok tt)
  laying_all l =
      record {
        fits = sym (ap if_low (le-leb (largest new_row) M (low_all new_row M (λ j k. w.low j (omega (arith, w.as_many))))));
        holds = λ t.
            w.is
            ∙ ap₂ (λ (r : List ℕ) (n : ℕ). take at old ++ r ++ drop n old) (take_all i new_row (omega (arith, w.as_many))) all_of_it;
      }
    where
      all_of_it : at + i ≡ at + length new_row
      all_of_it = omega (arith, w.some, w.as_many)

  module _ {v : ℕ} (more : i < m) (e : v ≡ get_or new_row i 0) where
    pub laying_more : v ≤ M → Laying new_row m at old (set now (at + i) v) (i + 1)
    laying_more l =
        record {
          as_many = w.as_many;
          room = w.room;
          some = omega arith;
          is =
              ap₂ (λ (k : List ℕ) (x : ℕ). set k (at + i) x) w.is e
              ∙ paste-suc old at new_row i 0 (omega (arith, w.room)) (omega (arith, w.as_many))
              ∙ ap (paste old at new_row) (sym (add-one i));
          low = below_more (λ (j : ℕ). get_or new_row j 0 ≤ M) i w.low (omega (arith, e));
        }

    pub laying_stops : M < v → Laid new_row at old now (Err OutOfReach)
    laying_stops l =
        record {
          fits = sym (ap if_low (lt-leb (largest new_row) M (omega (arith, e, largest_at new_row i))));
          holds = λ t. absurd (cc);
        }
