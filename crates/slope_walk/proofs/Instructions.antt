-- One instruction's row in the code's shape: which rows are read, and that the row laid is the one of the instruction. Assumes nothing.
use mathlib.Core.Path.{◌≡◌, refl, sym, ◌∙◌, ap, ap₂, subst}
use mathlib.Core.List.{List, [], ◌∷◌, map}
use mathlib.Core.Logic.{◌⊎◌, inl, inr}
use Prim.Native.Nat.{ℕ, zero, suc, ◌+◌, ◌*◌, ◌≤◌, ◌<◌}
use native.Mathlib.Nat.{le_refl, suc-mul, mul-le-mul, mul-le-mul_right}
use native.Mathlib.Omega.{arith}
use lib.IntN.{ℤ}
use lib.ListN.{length, get_or, replicate}
use Rattle.std.specs.declared.result.Result.{Result}
use Rattle.refusals.specs.declared.Refusal.{Refusal}
use Rattle.lists.specs.Joined.{joined}
use Rattle.rules.specs.declared.Ball.{Ball}
use Rattle.rules.specs.Numbers.{M}
use Rattle.rules.specs.Values.{ball_reach}
use Rattle.formulas.specs.declared.Instruction.{Instruction}
use Rattle.formulas.specs.declared.Instruction.TheVariants.{Constant, Negate, Add, Subtract, Multiply, Coefficient, Reciprocal}
use Rattle.formulas.specs.Formula.{Smaller}
use Rattle.cards.specs.Slopes.{product_slope, reciprocal_slope, nearness, slopes_result, with_slopes}
use Rattle.cards.specs.Card.{rows}
use Rattle.cards.proofs.Flat.{row_is}
use Rattle.slope_walk.specs.Grading.{row, Laid, TwoRows, LaidBy, ball_in, Sloping, Agrees, Sloped}
use Rattle.slope_walk.proofs.Weighing.{row_long, Computes}

-- ---- which rows are read

module _ {F m : ℕ} {i : Instruction} {made : ℕ} {cs : List ℤ} {rs slopes : List ℕ} (p : Sloping F m i made cs rs slopes) where
  smaller_as : {j : Instruction} → i ≡ j → Smaller F made j
  smaller_as e = subst (Smaller F made) e p.smaller

  pub negate_below : {a : ℕ} → i ≡ Negate a → a < made
  negate_below e = smaller_as e

  -- a sum's and a difference's
  pub summed_first : {a b : ℕ} → (i ≡ Add a b) ⊎ (i ≡ Subtract a b) → a < made
  summed_first (inl e) = (smaller_as e).0
  summed_first (inr e) = (smaller_as e).0

  pub summed_second : {a b : ℕ} → (i ≡ Add a b) ⊎ (i ≡ Subtract a b) → b < made
  summed_second (inl e) = (smaller_as e).1
  summed_second (inr e) = (smaller_as e).1

  pub multiply_first : {a b : ℕ} → i ≡ Multiply a b → a < made
  multiply_first e = (smaller_as e).0

  pub multiply_second : {a b : ℕ} → i ≡ Multiply a b → b < made
  multiply_second e = (smaller_as e).1

  pub reciprocal_below : {a : ℕ} → i ≡ Reciprocal a → a < made
  reciprocal_below e = (smaller_as e).1

  row_before : (a : ℕ) → a < made → a * m + m ≤ made * m
  row_before a l = omega (arith, mul-le-mul_right m l, suc-mul a m)

  -- the first row, which is there where any input is
  first_before : 0 * m + m ≤ made * m
  first_before = by_count m p.with_inputs
    where
      by_count : (n : ℕ) → n ≤ made → 0 * n + n ≤ made * n
      by_count zero l = omega arith
      by_count (suc n) l =
          let some : 1 ≤ made = omega arith in
          omega (arith, mul-le-mul some (le_refl (suc n)))

  pub operands_there : {a b : ℕ} → a < made → b < made → TwoRows m made a b slopes
  operands_there {a} {b} k l =
      record { few = p.few; inputs_few = p.inputs_few; layable = p.layable; first = row_before a k; second = row_before b l }

-- ---- the row of an instruction

-- of one row alone
joined_map : (f : ℕ → ℕ) (ks : List ℕ) → joined (λ k l. f k) ks ks ≡ map f ks
joined_map f [] = refl
joined_map f (k ∷ ks) = ap (λ ls. f k ∷ ls) (joined_map f ks)

joined_itself : (ks : List ℕ) → joined (λ k l. k) ks ks ≡ ks
joined_itself [] = refl
joined_itself (k ∷ ks) = ap (λ ls. k ∷ ls) (joined_itself ks)

joined_nothing : (ks : List ℕ) → joined {C = ℕ} (λ k l. 0) ks ks ≡ replicate {A = ℕ} (length ks) 0
joined_nothing [] = refl
joined_nothing (k ∷ ks) = ap (λ ls. 0 ∷ ls) (joined_nothing ks)

module _ {F m : ℕ} {i : Instruction} {made : ℕ} {cs : List ℤ} {rs old : List ℕ} (p : Sloping F m i made cs rs old) where
  nothing : replicate {A = ℕ} m 0 ≡ joined {C = ℕ} (λ k l. 0) (row m (0 * m) old) (row m (0 * m) old)
  nothing =
      sym (joined_nothing (row m (0 * m) old) ∙ ap (λ (n : ℕ). replicate {A = ℕ} n 0) (row_long p.layable (0 * m) (first_before p)))

  -- a sum's and a difference's
  added : {a b : ℕ} → a < made → b < made
      → joined ◌+◌ (get_or (rows m made old) a []) (get_or (rows m made old) b []) ≡ joined ◌+◌ (row m (a * m) old) (row m (b * m) old)
  added {a} {b} k l = ap₂ (joined ◌+◌) (row_is m made old a k) (row_is m made old b l)

module _ {P : ℕ → ℕ → ℕ → Type 0} {F m : ℕ} {i : Instruction} {made : ℕ} {cs : List ℤ} {rs old new : List ℕ}
    {r : Result (Unit {0}) Refusal} (p : Sloping F m i made cs rs old) where
  -- the row laid is the instruction's
  slope_by : {a b : ℕ} {j : Instruction} (f : ℕ → ℕ → ℕ) → i ≡ j
      → ((bs : List Ball) → Agrees made bs cs rs
      → slopes_result F m (with_slopes bs (rows m made old) j) ≡ joined f (row m (a * m) old) (row m (b * m) old))
      → LaidBy P m made a b old new r → Computes P f → Sloped F m i made cs rs old new r
  slope_by {a} {b} f e same laid is =
      record {
        lays = λ bs agrees.
            subst (λ (k : List ℕ). Laid k (made * m) old new r)
            (sym (ap (λ (j : Instruction). slopes_result F m (with_slopes bs (rows m made old) j)) e ∙ same bs agrees)) (laid.by f is);
      }

  pub did_constant : ((c : ℤ) × (i ≡ Constant c)) ⊎ ((c : ℤ) × (g : ℕ) × (i ≡ Coefficient c g)) → LaidBy P m made 0 0 old new r
      → Computes P (λ k l. 0) → Sloped F m i made cs rs old new r
  did_constant (inl e) laid is = slope_by (λ k l. 0) e.1 (λ bs agrees. nothing p) laid is
  did_constant (inr e) laid is = slope_by (λ k l. 0) e.2 (λ bs agrees. nothing p) laid is

  pub did_negate : {a : ℕ} → i ≡ Negate a → LaidBy P m made a a old new r → Computes P (λ k l. k) → Sloped F m i made cs rs old new r
  did_negate {a} e laid is =
      slope_by (λ k l. k) e (λ bs agrees. row_is m made old a (negate_below p e) ∙ sym (joined_itself (row m (a * m) old))) laid is

  pub did_add : {a b : ℕ} → (i ≡ Add a b) ⊎ (i ≡ Subtract a b) → LaidBy P m made a b old new r → Computes P (λ k l. k + l)
      → Sloped F m i made cs rs old new r
  did_add (inl e) laid is =
      slope_by (λ k l. k + l) e (λ bs agrees. added p (summed_first p (inl e)) (summed_second p (inl e))) laid is
  did_add (inr e) laid is =
      slope_by (λ k l. k + l) e (λ bs agrees. added p (summed_first p (inr e)) (summed_second p (inr e))) laid is

  pub did_multiply : {a b x y : ℕ} → i ≡ Multiply a b → (x ≡ ball_reach (ball_in cs rs a)) × (x ≤ M) → (y ≡ ball_reach (ball_in cs rs b)) × (y ≤ M)
      → LaidBy P m made a b old new r → Computes P (product_slope F x y) → Sloped F m i made cs rs old new r
  did_multiply {a} {b} {x} {y} e hx hy laid is =
      slope_by (product_slope F x y) e
      (λ bs agrees.
      ap₂ (λ (u v : ℕ). joined (product_slope F u v) (get_or (rows m made old) a []) (get_or (rows m made old) b []))
      (ap ball_reach (agrees a (multiply_first p e)) ∙ sym hx.0) (ap ball_reach (agrees b (multiply_second p e)) ∙ sym hy.0)
      ∙ ap₂ (joined (product_slope F x y)) (row_is m made old a (multiply_first p e)) (row_is m made old b (multiply_second p e)))
      laid is

  pub did_reciprocal : {a w : ℕ} → i ≡ Reciprocal a → (w ≡ nearness (ball_in cs rs a)) × (0 < w) × (w ≤ M)
      → LaidBy P m made a a old new r → Computes P (λ k l. reciprocal_slope F w k) → Sloped F m i made cs rs old new r
  did_reciprocal {a} {w} e n laid is =
      slope_by (λ k l. reciprocal_slope F w k) e
      (λ bs agrees.
      ap₂ (λ (u : ℕ) (k : List ℕ). map (reciprocal_slope F u) k) (ap nearness (agrees a (reciprocal_below p e)) ∙ sym n.0)
      (row_is m made old a (reciprocal_below p e))
      ∙ sym (joined_map (reciprocal_slope F w) (row m (a * m) old)))
      laid is
