-- An instruction's slopes, input by input, as code works them out: each is the one of its input alone, and all are accepted exactly where none is
-- over M. Assumes nothing.
use mathlib.Core.Path.{◌≡◌, refl}
use mathlib.Core.List.{List, [], map}
use Prim.Native.Nat.{ℕ, zero, suc, ◌+◌, ◌≤◌, ◌<◌, zero-le}
use native.Mathlib.Nat.{le_of_suc-le-suc, not-suc-le-zero}
use native.Mathlib.Omega.{arith}
use lib.ListN.{get_or, replicate}
use Rattle.lists.specs.Joined.{joined}
use Rattle.refusals.specs.declared.Refusal.TheVariants.{OutOfReach}
use Rattle.refusals.specs.Answer.{value, refuse}
use Rattle.rules.specs.declared.Ball.{Ball}
use Rattle.rules.specs.Numbers.{M}
use Rattle.rules.specs.Operation.{each}
use Rattle.rules.proofs.Reach.{reach_accepts, reach_refuses}
use Rattle.formulas.specs.declared.Instruction.{Instruction}
use Rattle.formulas.specs.declared.Instruction.TheVariants.{Constant, Negate, Add, Subtract, Multiply, Coefficient, Reciprocal}
use Rattle.formulas.specs.Formula.{Smaller}
use Rattle.cards.specs.Slopes.{largest, slopes_result, slopes_rule, named, with_slopes, one_slope, sloped_at}
use Rattle.cards.proofs.Weights.{Many}
use Rattle.cards.proofs.Slopes.{largest_at, step_many}

pub zeros_at : (m j : ℕ) → ◌≡◌ {A = ℕ} (get_or (replicate m 0) j 0) 0
zeros_at zero j = refl
zeros_at (suc m) zero = refl
zeros_at (suc m) (suc j) = zeros_at m j

both_at : (f : ℕ → ℕ → ℕ) {m : ℕ} {ks ls : List ℕ} → Many m ks → Many m ls → (j : ℕ) → j < m → get_or (joined f ks ls) j 0 ≡ f (get_or ks j 0) (get_or ls j 0)
both_at f Many.none Many.none j l = absurd (not-suc-le-zero l)
both_at f (Many.one p) (Many.one q) zero l = refl
both_at f (Many.one p) (Many.one q) (suc j) l = both_at f p q j (le_of_suc-le-suc l)

each_at : (f : ℕ → ℕ) {m : ℕ} {ls : List ℕ} → Many m ls → (j : ℕ) → j < m → get_or (map f ls) j 0 ≡ f (get_or ls j 0)
each_at f Many.none j l = absurd (not-suc-le-zero l)
each_at f (Many.one p) zero l = refl
each_at f (Many.one p) (suc j) l = each_at f p j (le_of_suc-le-suc l)

-- no place of n numbers is over what none of the first n is
many_low : (k : ℕ) {n : ℕ} {l : List ℕ} → Many n l → ((j : ℕ) → j < n → get_or l j 0 ≤ k) → largest l ≤ k
many_low k Many.none h = zero-le
many_low k (Many.one {a = a} {l = l} p) h = omega (arith, h 0 (omega arith), many_low k p (λ j i. h (suc j) (omega arith)))

module _ (F m : ℕ) (bs : List Ball) (ks : List (List ℕ)) {v : ℕ} (i : Instruction) (s : Smaller F v i)
    (many : (j : ℕ) → j < v → Many m (get_or ks j [])) where
  abbrev here : ℕ → ℕ
  here j = one_slope F (each (sloped_at bs ks j) (named i))

  pub slope_at : (j : ℕ) → j < m → get_or (slopes_result F m (with_slopes bs ks i)) j 0 ≡ here j
  slope_at j l = by_code i s
    where
      by_code : (i : Instruction) → Smaller F v i → get_or (slopes_result F m (with_slopes bs ks i)) j 0 ≡ one_slope F (each (sloped_at bs ks j) (named i))
      by_code (Constant c) s = zeros_at m j
      by_code (Negate x) s = refl
      by_code (Add x y) s = both_at ◌+◌ (many x s.0) (many y s.1) j l
      by_code (Subtract x y) s = both_at ◌+◌ (many x s.0) (many y s.1) j l
      by_code (Multiply x y) s = both_at _ (many x s.0) (many y s.1) j l
      by_code (Coefficient c r) s = zeros_at m j
      by_code (Reciprocal x) s = each_at _ (many x s.1) j l

  pub slopes_accept : ((j : ℕ) → j < m → here j ≤ M) → slopes_rule F m (with_slopes bs ks i) ≡ value (slopes_result F m (with_slopes bs ks i))
  slopes_accept h =
      reach_accepts largest (slopes_result F m (with_slopes bs ks i)) (many_low M (step_many F m bs ks i s many) (λ j l. omega (arith, slope_at j l, h j l)))

  pub slopes_refuse : (j : ℕ) → j < m → M < here j → slopes_rule F m (with_slopes bs ks i) ≡ refuse OutOfReach
  slopes_refuse j l h =
      reach_refuses largest (slopes_result F m (with_slopes bs ks i))
      (omega (arith, slope_at j l, largest_at (slopes_result F m (with_slopes bs ks i)) j))
