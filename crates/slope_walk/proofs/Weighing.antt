-- A row laid from two others, in the code's shape: what is read, what is written, and how it ends. Assumes nothing.
use mathlib.Core.Path.{◌≡◌, refl, sym, ◌∙◌, ap₂}
use mathlib.Core.List.{List}
use Prim.Native.Nat.{ℕ, ◌+◌, ◌*◌, ◌≤◌, ◌<◌}
use native.Mathlib.Omega.{arith}
use lib.ListN.{length, get_or, set, drop, length-drop, length-set}
use lib.Seq.{get_or-take, get_or-drop, length-take-le}
use Rattle.std.proofs.lemmas.List.{get_or-set_other}
use Rattle.std.specs.declared.result.Result.TheVariants.{Ok, Err}
use Rattle.refusals.specs.declared.Refusal.TheVariants.{OutOfReach}
use Rattle.lists.specs.Joined.{joined}
use Rattle.lists.proofs.Joined.{joined_long}
use Rattle.rules.specs.Numbers.{M}
use Rattle.slope_walk.specs.Grading.{row, Layable, TwoRows, LaidBy}
use Rattle.slope_walk.proofs.Laying.{both_at, Laying, laying_start, laying_all, laying_more, laying_stops}

module _ {m to : ℕ} {slopes : List ℕ} (l : Layable m to slopes) (a : ℕ) (before : a + m ≤ to) where
  pub row_long : length (row m a slopes) ≡ m
  row_long = length-take-le m (drop a slopes) (omega (arith, length-drop a slopes, l.room))

  row_at : (i : ℕ) → i < m → get_or (row m a slopes) i 0 ≡ get_or slopes (a + i) 0
  row_at i k = get_or-take m (drop a slopes) i 0 k ∙ get_or-drop a slopes i 0

-- f is what P says of slopes that are not over M
abbrev pub Computes : (ℕ → ℕ → ℕ → Type 0) → (ℕ → ℕ → ℕ) → Type 0
Computes P f = (k l t : ℕ) → k ≤ M → l ≤ M → P k l t → t ≡ f k l

-- the first i slopes of the row are written, none is over M, and the rows before it are as they were
pub record Weighing (P : ℕ → ℕ → ℕ → Type 0) (m n a b : ℕ) (old now : List ℕ) (i : ℕ) : Type 0 where
  pub asked : TwoRows m n a b old
  pub as_long : length now ≡ length old
  pub kept : (j : ℕ) → j < n * m → get_or now j 0 ≡ get_or old j 0
  pub laying : (f : ℕ → ℕ → ℕ) → Computes P f → Laying (joined f (row m (a * m) old) (row m (b * m) old)) m (n * m) old now i

module _ {m n a b : ℕ} {old : List ℕ} (p : TwoRows m n a b old) where
  weighed_long : (f : ℕ → ℕ → ℕ) → length (joined f (row m (a * m) old) (row m (b * m) old)) ≡ m
  weighed_long f =
      let e = row_long p.layable (a * m) p.first in
      joined_long f (row m (a * m) old) (row m (b * m) old) (e ∙ sym (row_long p.layable (b * m) p.second)) ∙ e

  weighed_at : (f : ℕ → ℕ → ℕ) (i : ℕ) → i < m → get_or (joined f (row m (a * m) old) (row m (b * m) old)) i 0
      ≡ f (get_or old (a * m + i) 0) (get_or old (b * m + i) 0)
  weighed_at f i l =
      both_at f (row m (a * m) old) (row m (b * m) old) i (omega (arith, row_long p.layable (a * m) p.first))
      (omega (arith, row_long p.layable (b * m) p.second))
      ∙ ap₂ f (row_at p.layable (a * m) p.first i l) (row_at p.layable (b * m) p.second i l)

  pub weighing_start : (P : ℕ → ℕ → ℕ → Type 0) → Weighing P m n a b old old 0
  weighing_start P =
      record {
        asked = p;
        as_long = refl;
        kept = λ j l. refl;
        laying = λ f g. laying_start (joined f (row m (a * m) old) (row m (b * m) old)) old (weighed_long f) p.layable.room;
      }

module _ {P : ℕ → ℕ → ℕ → Type 0} {m n a b : ℕ} {old now : List ℕ} {i : ℕ} (w : Weighing P m n a b old now i) where
  pub weighing_ends : m ≤ i → LaidBy P m n a b old now (Ok tt)
  weighing_ends l = record { by = λ f g. laying_all (w.laying f g) l }

  module _ (more : i < m) where
    low : (j : ℕ) → j < n * m → get_or now j 0 ≤ M
    low j l = omega (arith, w.kept j l, w.asked.layable.low j l)

    pub first_low : get_or now (a * m + i) 0 ≤ M
    first_low = low (a * m + i) (omega (arith, w.asked.first))

    pub second_low : get_or now (b * m + i) 0 ≤ M
    second_low = low (b * m + i) (omega (arith, w.asked.second))

    module _ {t : ℕ} (is : P (get_or now (a * m + i) 0) (get_or now (b * m + i) 0) t) where
      is_next : (f : ℕ → ℕ → ℕ) → Computes P f → t ≡ get_or (joined f (row m (a * m) old) (row m (b * m) old)) i 0
      is_next f g =
          g _ _ t first_low second_low is
          ∙ ap₂ f (w.kept (a * m + i) (omega (arith, w.asked.first))) (w.kept (b * m + i) (omega (arith, w.asked.second)))
          ∙ sym (weighed_at w.asked f i more)

      pub weighing_more : t ≤ M → Weighing P m n a b old (set now (n * m + i) t) (i + 1)
      weighing_more l =
          record {
            asked = w.asked;
            as_long = length-set now (n * m + i) t ∙ w.as_long;
            kept = λ j k. get_or-set_other now (n * m + i) j t 0 (omega arith) ∙ w.kept j k;
            laying = λ f g. laying_more (w.laying f g) more (is_next f g) l;
          }

      pub weighing_stops : M < t → LaidBy P m n a b old now (Err OutOfReach)
      weighing_stops l = record { by = λ f g. laying_stops (w.laying f g) more (is_next f g) l }
