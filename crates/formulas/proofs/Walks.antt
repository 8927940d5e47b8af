-- A walk's values: a finished one has a value for each input and each instruction, and every walk only adds. Assumes nothing.
use mathlib.Core.Path.{◌≡◌, refl, sym, ◌∙◌, ap, subst}
use mathlib.Core.List.{List, [], ◌∷◌, ◌++◌}
use Prim.Native.Nat.{ℕ, suc, ◌+◌, ◌≤◌}
use native.Mathlib.Omega.{arith}
use lib.ListN.{length}
use Rattle.lists.specs.All.{All}
use Rattle.lists.proofs.Each.{all_behind}
use Rattle.lists.proofs.Over.{one_longer}
use Rattle.refusals.specs.Answer.{Answer, value, refused}
use Rattle.rules.specs.Operation.{Operation}
use Rattle.formulas.specs.declared.Instruction.{Instruction}
use Rattle.formulas.specs.Run.{finished, stopped, with_values, onward, run, made_by}

pub never_stopped : {A : Type 0} {n : ℕ} {vs ws : List A} → stopped n vs ≡ finished ws → ⊥
never_stopped e = let z : ◌≡◌ {A = ℕ} 0 1 = cc in omega arith

pub same_values : {A : Type 0} {vs ws : List A} → finished vs ≡ finished ws → vs ≡ ws
same_values e = cc

same_stop : {A : Type 0} {m n : ℕ} {vs ws : List A} → stopped m vs ≡ stopped n ws → m ≡ n
same_stop e = cc

module _ {A : Type 0} (rule : Operation A → Answer A) (d : A) where
  pub run_long : (is : List Instruction) (vs : List A) {ws : List A} → run rule d is vs ≡ finished ws → length ws ≡ length vs + length is
  run_long [] vs {ws} e = ap length (sym (same_values e)) ∙ all (length vs)
    where
      all : (n : ℕ) → n ≡ n + 0
      all n = omega arith
  run_long (i ∷ is) vs {ws} e = by_rule (rule (with_values d vs i)) e (λ v k. run_long is (vs ++ v ∷ []) k)
    where
      by_rule : (a : Answer A) → onward vs (λ l. run rule d is l) a ≡ finished ws
          → ((v : A) → run rule d is (vs ++ v ∷ []) ≡ finished ws → length ws ≡ length (vs ++ v ∷ []) + length is)
          → length ws ≡ length vs + suc (length is)
      by_rule (value v) k rec = rec v k ∙ (omega (arith, one_longer vs v))
      by_rule (refused n) k rec = absurd (never_stopped k)

  -- the refusal that stops a walk is a step's
  pub run_stops : {P : ℕ → Type 0} → ((o : Operation A) (n : ℕ) → rule o ≡ refused n → P n) → (is : List Instruction) (vs : List A) {n : ℕ} {ws : List A}
      → run rule d is vs ≡ stopped n ws → P n
  run_stops p [] vs e = absurd (never_stopped (sym e))
  run_stops {P} p (i ∷ is) vs {n} {ws} e = by_rule (rule (with_values d vs i)) refl e (λ v k. run_stops p is (vs ++ v ∷ []) k)
    where
      by_rule : (a : Answer A) → rule (with_values d vs i) ≡ a → onward vs (λ l. run rule d is l) a ≡ stopped n ws
          → ((v : A) → run rule d is (vs ++ v ∷ []) ≡ stopped n ws → P n) → P n
      by_rule (value v) u k rec = rec v k
      by_rule (refused m) u k rec = p (with_values d vs i) n (u ∙ ap refused (same_stop k))

  -- what holds of the inputs and of every step's result holds of all values
  pub run_keeps : {P : A → Type 0} → ((o : Operation A) (v : A) → rule o ≡ value v → P v) → (is : List Instruction) (vs : List A) {ws : List A} → All P vs
      → run rule d is vs ≡ finished ws → All P ws
  run_keeps {P} p [] vs a e = subst (All P) (same_values e) a
  run_keeps {P} p (i ∷ is) vs {ws} a e = by_rule (rule (with_values d vs i)) refl e (λ v b k. run_keeps p is (vs ++ v ∷ []) b k)
    where
      by_rule : (x : Answer A) → rule (with_values d vs i) ≡ x → onward vs (λ l. run rule d is l) x ≡ finished ws
          → ((v : A) → All P (vs ++ v ∷ []) → run rule d is (vs ++ v ∷ []) ≡ finished ws → All P ws) → All P ws
      by_rule (value v) u k rec = rec v (all_behind a (p (with_values d vs i) v u)) k
      by_rule (refused n) u k rec = absurd (never_stopped k)

  pub run_longer : (is : List Instruction) (vs : List A) → length vs ≤ length (made_by (run rule d is vs))
  run_longer [] vs = omega arith
  run_longer (i ∷ is) vs = by_rule (rule (with_values d vs i)) (λ v. run_longer is (vs ++ v ∷ []))
    where
      by_rule : (a : Answer A) → ((v : A) → length (vs ++ v ∷ []) ≤ length (made_by (run rule d is (vs ++ v ∷ []))))
          → length vs ≤ length (made_by (onward vs (λ l. run rule d is l) a))
      by_rule (value v) rec = omega (arith, rec v, one_longer vs v)
      by_rule (refused n) rec = omega arith
