-- The inputs' own rows in one list: Q where the row's number is the input's, else 0. Assumes nothing.
use mathlib.Core.Path.{◌≡◌, refl, sym, ◌∙◌, ap}
use mathlib.Core.List.{List}
use Prim.Native.Nat.{ℕ, zero, suc, ◌+◌, ◌*◌, ◌/◌, ◌%◌, ◌≤◌, ◌<◌}
use native.Mathlib.Nat.{le_of_suc-le-suc, not-suc-le-zero, div-add-mod', div-lt_iff_lt-mul, mod-lt}
use native.Mathlib.Omega.{arith}
use lib.ListN.{length, get_or, set}
use Rattle.lists.specs.All.{All, none, one}
use Rattle.lists.specs.Over.{over}
use Rattle.lists.proofs.Front.{Filled, filled_one, filled_all}
use Rattle.rules.specs.Numbers.{Q}
use Rattle.cards.specs.Slopes.{input_slopes, inputs_from, all_inputs}
use Rattle.cards.specs.Card.{flat}
use Rattle.cards.proofs.Weights.{Many, many_input}
use Rattle.cards.proofs.Slopes.{inputs_long, input_at}
use Rattle.cards.proofs.OneSlope.{zeros_at}
use Rattle.cards.proofs.Flat.{flat_long, flat_at}
use Rattle.slope_walk.specs.Grading.{Startable}

-- every input has m slopes
pub inputs_many : (F m i k : ℕ) → All (Many m) (inputs_from F m i k)
inputs_many F m i zero = none
inputs_many F m i (suc k) = one (many_input F m i) (inputs_many F m (suc i) k)

pub inputs_flat_long : (F m : ℕ) → length (flat (all_inputs F m)) ≡ m * m
inputs_flat_long F m = flat_long m (inputs_many F m 0 m) ∙ ap (λ (n : ℕ). n * m) (inputs_long F m 0 m)

own_slope : (F m i : ℕ) → i < m → get_or (input_slopes F m i) i 0 ≡ Q F
own_slope F zero i l = absurd (not-suc-le-zero l)
own_slope F (suc m) zero l = refl
own_slope F (suc m) (suc i) l = own_slope F m i (le_of_suc-le-suc l)

other_slope : (F m i j : ℕ) → (i ≡ j → ⊥) → ◌≡◌ {A = ℕ} (get_or (input_slopes F m i) j 0) 0
other_slope F zero i j d = refl
other_slope F (suc m) zero zero d = absurd (d refl)
other_slope F (suc m) zero (suc j) d = zeros_at m j
other_slope F (suc m) (suc i) zero d = refl
other_slope F (suc m) (suc i) (suc j) d = other_slope F m i j (λ e. d (ap suc e))

module _ (F m : ℕ) {j : ℕ} (l : j < m * m) where
  some_input : 0 < m
  some_input = by_count m l
    where
      by_count : (n : ℕ) → j < n * n → 0 < n
      by_count zero k = absurd (omega arith)
      by_count (suc n) k = omega arith

  slope_there : get_or (flat (all_inputs F m)) j 0 ≡ get_or (input_slopes F m (j / m)) (j % m) 0
  slope_there =
      ap (λ (n : ℕ). get_or (flat (all_inputs F m)) n 0) (sym (div-add-mod' j m))
      ∙ flat_at m (inputs_many F m 0 m) (j / m) (j % m) (omega (arith, row_below, inputs_long F m 0 m)) (mod-lt j some_input)
      ∙ ap (λ (r : List ℕ). get_or r (j % m) 0) (input_at F m 0 m (j / m) row_below ∙ ap (input_slopes F m) from_none)
    where
      row_below : j / m < m
      row_below = (div-lt_iff_lt-mul some_input).1 l

      from_none : 0 + j / m ≡ j / m
      from_none = omega arith

-- so many of them are written
pub record Starting (F m q : ℕ) (old now : List ℕ) (j : ℕ) : Type 0 where
  pub asked : Startable F m old
  pub is_unit : q ≡ Q F
  pub filled : Filled (flat (all_inputs F m)) old now j

module _ {F m q : ℕ} {old now : List ℕ} {j : ℕ} (w : Starting F m q old now j) where
  pub starting_all : m * m ≤ j → now ≡ over (flat (all_inputs F m)) old
  starting_all l = filled_all (flat (all_inputs F m)) old (omega (arith, inputs_flat_long F m)) w.filled

  module _ (more : j < m * m) where
    pub some_inputs : 0 < m
    some_inputs = some_input F m more

    next : {v : ℕ} → v ≡ get_or (flat (all_inputs F m)) j 0 → Starting F m q old (set now j v) (j + 1)
    next e =
        record {
          asked = w.asked;
          is_unit = w.is_unit;
          filled =
              filled_one (flat (all_inputs F m)) old 0 (omega (arith, inputs_flat_long F m, w.asked.room))
              (omega (arith, inputs_flat_long F m)) e w.filled;
        }

    pub starting_own : j / m ≡ j % m → Starting F m q old (set now j q) (j + 1)
    starting_own e =
        next
        (w.is_unit
        ∙ sym
        (slope_there F m more ∙ ap (λ (n : ℕ). get_or (input_slopes F m n) (j % m) 0) e ∙ own_slope F m (j % m) (mod-lt j some_inputs)))

    pub starting_other : (j / m ≡ j % m → ⊥) → Starting F m q old (set now j 0) (j + 1)
    starting_other d = next (sym (slope_there F m more ∙ other_slope F m (j / m) (j % m) d))
