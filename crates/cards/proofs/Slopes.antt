-- The slopes of a finished run: read off its last list, as many as the inputs at every value, and none over M. Assumes nothing.
use mathlib.Core.Path.{◌≡◌, refl, sym, ◌∙◌, ap, ap₂, subst}
use mathlib.Core.List.{List, [], ◌∷◌, ◌++◌}
use Prim.Native.Nat.{ℕ, zero, suc, ◌+◌, ◌≤◌, ◌<◌, zero-le}
use native.Mathlib.Nat.{le_trans, le_of_eq, le-max_left, le-max_right, le_of_suc-le-suc, not-suc-le-zero}
use native.Mathlib.Omega.{arith}
use lib.ListN.{length, get_or, replicate, get_or-append}
use lib.Seq.{get_or-append_seam}
use lib.Pow.{pow_mono}
use Rattle.lists.specs.Each.{Each, none, one}
use Rattle.lists.proofs.Over.{one_longer}
use Rattle.lists.proofs.InTurn.{each_map, each_apply, in_turn}
use Rattle.refusals.specs.Answer.{Answer, value, refused}
use Rattle.rules.specs.declared.Ball.{Ball}
use Rattle.rules.specs.Numbers.{M, Q, top_scale}
use Rattle.rules.specs.Operation.{Operation}
use Rattle.rules.specs.Lists.{no_ball}
use Rattle.rules.proofs.Reach.{reach_accepted}
use Rattle.formulas.specs.declared.Instruction.{Instruction}
use Rattle.formulas.specs.declared.Instruction.TheVariants.{Constant, Negate, Add, Subtract, Multiply, Coefficient, Reciprocal}
use Rattle.formulas.specs.Formula.{Smaller}
use Rattle.formulas.specs.Run.{finished, onward}
use Rattle.formulas.proofs.Walks.{never_stopped, same_values}
use Rattle.cards.specs.Slopes.{Sloped, sloped, input_slopes, inputs_from, all_inputs, slopes_result, largest, slopes_rule, with_slopes, slope_run}
use Rattle.cards.proofs.Weights.{Many, many_zeros, many_input, many_joined, many_map}

-- no number is over the largest, and that is no larger than what none is over
pub largest_at : (l : List ℕ) (j : ℕ) → get_or l j 0 ≤ largest l
largest_at [] j = zero-le
largest_at (a ∷ l) zero = le-max_left a (largest l)
largest_at (a ∷ l) (suc j) = le_trans (largest_at l j) (le-max_right a (largest l))

pub largest_least : (l : List ℕ) {n : ℕ} → ((j : ℕ) → get_or l j 0 ≤ n) → largest l ≤ n
largest_least [] h = zero-le
largest_least (a ∷ l) h = omega (arith, h 0, largest_least l (λ j. h (suc j)))

-- what an accepted step made: its result, and no slope is over M
pub rule_made : (F m : ℕ) (o : Operation Sloped) {l : List ℕ} → slopes_rule F m o ≡ value l → slopes_result F m o ≡ l
rule_made F m o {l} e = (reach_accepted largest (slopes_result F m o) l e).0

pub rule_low : (F m : ℕ) (o : Operation Sloped) {l : List ℕ} → slopes_rule F m o ≡ value l → largest l ≤ M
rule_low F m o {l} e = (reach_accepted largest (slopes_result F m o) l e).1

-- ---- the inputs' slopes

pub inputs_long : (F m i k : ℕ) → length (inputs_from F m i k) ≡ k
inputs_long F m i zero = refl
inputs_long F m i (suc k) = ap suc (inputs_long F m (suc i) k)

pub input_at : (F m i k j : ℕ) → j < k → get_or (inputs_from F m i k) j [] ≡ input_slopes F m (i + j)
input_at F m i zero j l = absurd (not-suc-le-zero l)
input_at F m i (suc k) zero l = ap (input_slopes F m) (omega arith)
input_at F m i (suc k) (suc j) l = input_at F m (suc i) k j (le_of_suc-le-suc l) ∙ ap (input_slopes F m) (omega arith)

zeros_low : (m : ℕ) → largest (replicate m 0) ≤ M
zeros_low zero = zero-le
zeros_low (suc m) = omega (arith, zeros_low m)

scale_low : (F : ℕ) → F ≤ top_scale → Q F ≤ M
scale_low F l = omega (arith, pow_mono l)

-- an input's, Q or 0, are at most M
pub input_low : (F m i : ℕ) → F ≤ top_scale → largest (input_slopes F m i) ≤ M
input_low F zero i l = zero-le
input_low F (suc m) zero l = omega (arith, scale_low F l, zeros_low m)
input_low F (suc m) (suc i) l = omega (arith, input_low F m i l)

-- ---- a finished run, read off its last list

-- an instruction is the same on two lists of slopes that agree where it looks
with_slopes_same : (F : ℕ) (bs : List Ball) (ls ks : List (List ℕ)) {n : ℕ} → ((j : ℕ) → j < n → get_or ls j [] ≡ get_or ks j []) → (i : Instruction)
    → Smaller F n i → with_slopes bs ls i ≡ with_slopes bs ks i
with_slopes_same F bs ls ks {n} r i s = by_code i s
  where
    at : (j : ℕ) → j < n → sloped bs ls j ≡ sloped bs ks j
    at j l = ap (λ (k : List ℕ). record { range = get_or bs j no_ball; slopes = k }) (r j l)

    by_code : (i : Instruction) → Smaller F n i → with_slopes bs ls i ≡ with_slopes bs ks i
    by_code (Constant c) s = refl
    by_code (Negate i) s = ap Operation.negate (at i s)
    by_code (Add i j) s = ap₂ Operation.add (at i s.0) (at j s.1)
    by_code (Subtract i j) s = ap₂ Operation.subtract (at i s.0) (at j s.1)
    by_code (Multiply i j) s = ap₂ Operation.multiply (at i s.0) (at j s.1)
    by_code (Coefficient c m) s = refl
    by_code (Reciprocal i) s = ap Operation.reciprocal (at i s.1)

module _ (F m : ℕ) (bs : List Ball) where
  pub slopes_long : (is : List Instruction) (ls : List (List ℕ)) {ks : List (List ℕ)} → slope_run F m bs is ls ≡ finished ks
      → length ks ≡ length ls + length is
  slopes_long [] ls e = ap length (sym (same_values e)) ∙ all (length ls)
    where
      all : (n : ℕ) → n ≡ n + 0
      all n = omega arith
  slopes_long (i ∷ is) ls {ks} e = by_rule (slopes_rule F m (with_slopes bs ls i)) e (λ l k. slopes_long is (ls ++ l ∷ []) k)
    where
      by_rule : (a : Answer (List ℕ)) → onward ls (λ k. slope_run F m bs is k) a ≡ finished ks
          → ((l : List ℕ) → slope_run F m bs is (ls ++ l ∷ []) ≡ finished ks → length ks ≡ length (ls ++ l ∷ []) + length is)
          → length ks ≡ length ls + suc (length is)
      by_rule (value l) k rec = rec l k ∙ (omega (arith, one_longer ls l))
      by_rule (refused n) k rec = absurd (never_stopped k)

  slopes_stay : (is : List Instruction) (ls : List (List ℕ)) {ks : List (List ℕ)} → slope_run F m bs is ls ≡ finished ks → (j : ℕ) → j < length ls
      → get_or ks j [] ≡ get_or ls j []
  slopes_stay [] ls e j l = ap (λ w. get_or w j []) (sym (same_values e))
  slopes_stay (i ∷ is) ls {ks} e j l = by_rule (slopes_rule F m (with_slopes bs ls i)) e (λ v k. slopes_stay is (ls ++ v ∷ []) k j)
    where
      by_rule : (a : Answer (List ℕ)) → onward ls (λ w. slope_run F m bs is w) a ≡ finished ks
          → ((v : List ℕ) → slope_run F m bs is (ls ++ v ∷ []) ≡ finished ks → j < length (ls ++ v ∷ []) → get_or ks j [] ≡ get_or (ls ++ v ∷ []) j [])
          → get_or ks j [] ≡ get_or ls j []
      by_rule (value v) k rec = rec v k (omega (arith, one_longer ls v)) ∙ get_or-append ls (v ∷ []) [] j l
      by_rule (refused n) k rec = absurd (never_stopped k)

  -- value v of ks has the rule's slopes
  abbrev pub Slopes : List (List ℕ) → ℕ → Instruction → Type 0
  Slopes ks v i = slopes_rule F m (with_slopes bs ks i) ≡ value (get_or ks v [])

  slopes_settle : (is : List Instruction) (ls : List (List ℕ)) {ks : List (List ℕ)} → Each (Smaller F) (length ls) is
      → slope_run F m bs is ls ≡ finished ks → Each (Slopes ks) (length ls) is
  slopes_settle [] ls none e = none
  slopes_settle (i ∷ is) ls {ks} (one s ss) e = by_rule (slopes_rule F m (with_slopes bs ls i)) refl e (λ v k. slopes_settle is (ls ++ v ∷ []) k)
    where
      by_rule : (a : Answer (List ℕ)) → slopes_rule F m (with_slopes bs ls i) ≡ a → onward ls (λ w. slope_run F m bs is w) a ≡ finished ks
          → ((v : List ℕ) → Each (Smaller F) (length (ls ++ v ∷ [])) is → slope_run F m bs is (ls ++ v ∷ []) ≡ finished ks
          → Each (Slopes ks) (length (ls ++ v ∷ [])) is)
          → Each (Slopes ks) (length ls) (i ∷ is)
      by_rule (value v) t k rec =
          one
          (ap (slopes_rule F m) (with_slopes_same F bs ks ls (slopes_stay (i ∷ is) ls e) i s) ∙ t
          ∙ ap value (sym (slopes_stay is (ls ++ v ∷ []) k (length ls) (le_of_eq (one_longer ls v)) ∙ get_or-append_seam ls v [] [])))
          (subst (λ (n : ℕ). Each (Slopes ks) n is) (sym (one_longer ls v))
          (rec v (subst (λ (n : ℕ). Each (Smaller F) n is) (one_longer ls v) ss) k))
      by_rule (refused n) t k rec = absurd (never_stopped k)

-- ---- those of all values

-- an instruction's slopes are as many as its operands'
pub step_many : (F m : ℕ) (bs : List Ball) (ks : List (List ℕ)) {v : ℕ} (i : Instruction) → Smaller F v i → ((j : ℕ) → j < v → Many m (get_or ks j []))
    → Many m (slopes_result F m (with_slopes bs ks i))
step_many F m bs ks (Constant c) s h = many_zeros m
step_many F m bs ks (Negate i) s h = h i s
step_many F m bs ks (Add i j) s h = many_joined ◌+◌ (h i s.0) (h j s.1)
step_many F m bs ks (Subtract i j) s h = many_joined ◌+◌ (h i s.0) (h j s.1)
step_many F m bs ks (Multiply i j) s h = many_joined _ (h i s.0) (h j s.1)
step_many F m bs ks (Coefficient c r) s h = many_zeros m
step_many F m bs ks (Reciprocal i) s h = many_map _ (h i s.1)

module _ (F m : ℕ) (bs : List Ball) (is : List Instruction) {ks : List (List ℕ)} (small : Each (Smaller F) m is)
    (e : slope_run F m bs is (all_inputs F m) ≡ finished ks) where
  pub slopes_made : Each (Slopes F m bs ks) m is
  slopes_made =
      subst (λ (n : ℕ). Each (Slopes F m bs ks) n is) (inputs_long F m 0 m)
      (slopes_settle F m bs is (all_inputs F m) (subst (λ (n : ℕ). Each (Smaller F) n is) (sym (inputs_long F m 0 m)) small) e)

  pub inputs_kept : (j : ℕ) → j < m → get_or ks j [] ≡ input_slopes F m j
  inputs_kept j l =
      slopes_stay F m bs is (all_inputs F m) e j (subst (λ (n : ℕ). j < n) (sym (inputs_long F m 0 m)) l)
      ∙ input_at F m 0 m j l ∙ ap (input_slopes F m) (omega arith)

  -- every value has m slopes
  pub slopes_many : (j : ℕ) → j < m + length is → Many m (get_or ks j [])
  slopes_many =
      in_turn (λ j. Many m (get_or ks j [])) (each_apply (each_map step small) slopes_made)
      (λ j l. subst (Many m) (sym (inputs_kept j l)) (many_input F m j))
    where
      step : (v : ℕ) (i : Instruction) → Smaller F v i → Slopes F m bs ks v i → ((j : ℕ) → j < v → Many m (get_or ks j [])) → Many m (get_or ks v [])
      step v i s k h = subst (Many m) (rule_made F m (with_slopes bs ks i) k) (step_many F m bs ks i s h)

  -- and none is over M
  pub slopes_low : F ≤ top_scale → (j : ℕ) → j < m + length is → largest (get_or ks j []) ≤ M
  slopes_low f =
      in_turn (λ j. largest (get_or ks j []) ≤ M) (each_map step slopes_made)
      (λ j l. subst (λ (s : List ℕ). largest s ≤ M) (sym (inputs_kept j l)) (input_low F m j f))
    where
      step : (v : ℕ) (i : Instruction) → Slopes F m bs ks v i → ((j : ℕ) → j < v → largest (get_or ks j []) ≤ M) → largest (get_or ks v []) ≤ M
      step v i k h = rule_low F m (with_slopes bs ks i) k
