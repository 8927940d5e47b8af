-- Two rules, the second of which follows the first where their operands are related: where a run by the first finishes, the run by the second on
-- related values finishes too, and their values are related. Once for every relation. Assumes nothing.
use mathlib.Core.Path.{◌≡◌, refl, ◌∙◌, ap, subst}
use mathlib.Core.List.{List, [], ◌∷◌, ◌++◌}
use Prim.Native.Nat.{ℕ}
use lib.ListN.{length}
use Rattle.lists.specs.Each.{Each, none, one}
use Rattle.lists.specs.Joined.{Rel}
use Rattle.lists.proofs.Joined.{rel_behind}
use Rattle.lists.proofs.Over.{one_longer}
use Rattle.refusals.specs.Answer.{Answer, value, refused}
use Rattle.rules.specs.Operation.{Operation, Alike}
use Rattle.formulas.specs.declared.Instruction.{Instruction}
use Rattle.formulas.specs.Formula.{Smaller}
use Rattle.formulas.specs.Run.{finished, with_values, onward, run}
use Rattle.formulas.proofs.Relations.{with_values_alike}
use Rattle.formulas.proofs.Walks.{never_stopped, same_values}

-- the second rule's answer where the first gave a
pub record Followed {A B : Type 0} (R : A → B → Type 0) (rule : Operation B → Answer B) (a : A) (e : Operation B) : Type 0 where
  pub made : B
  pub accepted : rule e ≡ value made
  pub related : R a made

-- the second run from ws on where the first made vs
pub record FollowedRun {A B : Type 0} (R : A → B → Type 0) (rule : Operation B → Answer B) (d : B) (is : List Instruction) (ws : List B)
    (vs : List A) : Type 0 where
  pub made : List B
  pub finishes : run rule d is ws ≡ finished made
  pub related : Rel R vs made

module _ {A B : Type 0} {R : A → B → Type 0} (F : ℕ) (first : Operation A → Answer A) (second : Operation B → Answer B) (d : A) (e : B) where
  pub run_follows : ((o : Operation A) (p : Operation B) (a : A) → Alike R o p → first o ≡ value a → Followed R second a p)
      → (is : List Instruction) {vs us : List A} {ws : List B} → Rel R vs ws → Each (Smaller F) (length vs) is → run first d is vs ≡ finished us
      → FollowedRun R second e is ws us
  run_follows law [] {ws = ws} r none k = record { made = ws; finishes = refl; related = subst (λ l. Rel R l ws) (same_values k) r }
  run_follows law (i ∷ is) {vs} {us} {ws} r (one s ss) k =
      by_rule (first (with_values d vs i)) refl k (λ a b p q t. run_follows law is p q t)
    where
      onwards : (b : B) → second (with_values e ws i) ≡ value b → FollowedRun R second e is (ws ++ b ∷ []) us → FollowedRun R second e (i ∷ is) ws us
      onwards b t c =
          record { made = c.made; finishes = ap (onward ws (λ l. run second e is l)) t ∙ c.finishes; related = c.related }

      by_rule : (a : Answer A) → first (with_values d vs i) ≡ a → onward vs (λ l. run first d is l) a ≡ finished us
          → ((a : A) (b : B) → Rel R (vs ++ a ∷ []) (ws ++ b ∷ []) → Each (Smaller F) (length (vs ++ a ∷ [])) is
          → run first d is (vs ++ a ∷ []) ≡ finished us → FollowedRun R second e is (ws ++ b ∷ []) us)
          → FollowedRun R second e (i ∷ is) ws us
      by_rule (value a) t k rec =
          let c = law (with_values d vs i) (with_values e ws i) a (with_values_alike F d e r i s) t in
          onwards c.made c.accepted (rec a c.made (rel_behind r c.related) (subst (λ n. Each (Smaller F) n is) (one_longer vs a) ss) k)
      by_rule (refused n) t k rec = absurd (never_stopped k)
