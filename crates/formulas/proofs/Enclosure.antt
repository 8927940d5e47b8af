-- A ball run that finishes encloses exact arithmetic: every value's ball contains the exact value, and exact arithmetic has values. Assumes
-- nothing.
use mathlib.Core.Path.{◌≡◌, refl, subst}
use mathlib.Core.List.{List, [], ◌∷◌, ◌++◌}
use Prim.Native.Nat.{ℕ}
use lib.ListN.{length}
use Rattle.rules.specs.declared.Ball.{Ball}
use Rattle.rules.specs.Values.{Fraction, Contains}
use Rattle.refusals.specs.Answer.{Answer, value, refused}
use Rattle.rules.specs.Balls.{ball_rule}
use Rattle.rules.proofs.Enclosure.{ball_contains, exact_exists}
use Rattle.formulas.specs.declared.Instruction.{Instruction}
use Rattle.formulas.specs.Formula.{Smaller}
use Rattle.lists.specs.Each.{Each, none, one}
use Rattle.formulas.specs.Run.{finished, with_values, onward, run}
use Rattle.formulas.specs.ExactRun.{nought, ExactRun, end, step}
use Rattle.lists.specs.Joined.{Rel}
use Rattle.lists.proofs.Joined.{rel_behind}
use Rattle.formulas.proofs.Relations.{with_values_alike}
use Rattle.formulas.proofs.Walks.{never_stopped, same_values}
use Rattle.lists.proofs.Over.{one_longer}

pub run_encloses : (F : ℕ) (d : Ball) (is : List Instruction) {vs ws : List Ball} {xs ys : List Fraction} → Rel (Contains F) vs xs → Each (Smaller F) (length vs) is
    → run (ball_rule F) d is vs ≡ finished ws → ExactRun F is xs ys → Rel (Contains F) ws ys
run_encloses F d [] {ws} {xs} r none e end = subst (λ (l : List Ball). Rel (Contains F) l xs) (same_values e) r
run_encloses F d (i ∷ is) {vs} {ws} {xs} {ys} r (one s ss) e (step x ex rest) =
    by_rule (ball_rule F (with_values d vs i)) refl e (λ b p q k t. run_encloses F d is p q k t)
  where
    by_rule : (a : Answer Ball) → ball_rule F (with_values d vs i) ≡ a → onward vs (λ l. run (ball_rule F) d is l) a ≡ finished ws
        → ((b : Ball) → Rel (Contains F) (vs ++ b ∷ []) (xs ++ x ∷ []) → Each (Smaller F) (length (vs ++ b ∷ [])) is → run (ball_rule F) d is (vs ++ b ∷ []) ≡ finished ws → ExactRun F is (xs ++ x ∷ []) ys → Rel (Contains F) ws ys)
        → Rel (Contains F) ws ys
    by_rule (value b) k e rec =
        rec b (rel_behind r (ball_contains F (with_values_alike F d nought r i s) k ex)) (subst (λ (n : ℕ). Each (Smaller F) n is) (one_longer vs b) ss) e rest
    by_rule (refused n) k e rec = absurd (never_stopped e)

-- exact arithmetic has values wherever the ball run finishes, for all fractions inside the balls that it began with
pub exact_run_exists : (F : ℕ) (d : Ball) (is : List Instruction) {vs ws : List Ball} {xs : List Fraction} → Rel (Contains F) vs xs
    → Each (Smaller F) (length vs) is → run (ball_rule F) d is vs ≡ finished ws → (ys : List Fraction) × ExactRun F is xs ys
exact_run_exists F d [] {xs = xs} r none e = (xs, end)
exact_run_exists F d (i ∷ is) {vs} {ws} {xs} r (one s ss) e =
    by_rule (ball_rule F (with_values d vs i)) refl e (λ b x p q k. exact_run_exists F d is p q k)
  where
    by_rule : (a : Answer Ball) → ball_rule F (with_values d vs i) ≡ a → onward vs (λ l. run (ball_rule F) d is l) a ≡ finished ws
        → ((b : Ball) (x : Fraction) → Rel (Contains F) (vs ++ b ∷ []) (xs ++ x ∷ []) → Each (Smaller F) (length (vs ++ b ∷ [])) is
        → run (ball_rule F) d is (vs ++ b ∷ []) ≡ finished ws → (ys : List Fraction) × ExactRun F is (xs ++ x ∷ []) ys)
        → (ys : List Fraction) × ExactRun F (i ∷ is) xs ys
    by_rule (value b) k e rec =
        let alike = with_values_alike F d nought r i s in
        let x = exact_exists F alike k in
        let rest = rec b x.0 (rel_behind r (ball_contains F alike k x.1)) (subst (λ (n : ℕ). Each (Smaller F) n is) (one_longer vs b) ss) e in
        (rest.0, step x.0 x.1 rest.1)
    by_rule (refused n) k e rec = absurd (never_stopped e)

-- and it comes to no dead end: whatever was chosen for the constants of the first instructions, the later ones have values too
pub exact_run_goes_on : (F : ℕ) (d : Ball) (is js : List Instruction) {vs ws : List Ball} {xs ys : List Fraction} → Rel (Contains F) vs xs
    → Each (Smaller F) (length vs) (is ++ js) → run (ball_rule F) d (is ++ js) vs ≡ finished ws → ExactRun F is xs ys
    → (zs : List Fraction) × ExactRun F js ys zs
exact_run_goes_on F d [] js r s e end = exact_run_exists F d js r s e
exact_run_goes_on F d (i ∷ is) js {vs} {ws} {xs} {ys} r (one s ss) e (step x ex rest) =
    by_rule (ball_rule F (with_values d vs i)) refl e (λ b p q k t. exact_run_goes_on F d is js p q k t)
  where
    by_rule : (a : Answer Ball) → ball_rule F (with_values d vs i) ≡ a → onward vs (λ l. run (ball_rule F) d (is ++ js) l) a ≡ finished ws
        → ((b : Ball) → Rel (Contains F) (vs ++ b ∷ []) (xs ++ x ∷ []) → Each (Smaller F) (length (vs ++ b ∷ [])) (is ++ js)
        → run (ball_rule F) d (is ++ js) (vs ++ b ∷ []) ≡ finished ws → ExactRun F is (xs ++ x ∷ []) ys → (zs : List Fraction) × ExactRun F js ys zs)
        → (zs : List Fraction) × ExactRun F js ys zs
    by_rule (value b) k e rec =
        rec b (rel_behind r (ball_contains F (with_values_alike F d nought r i s) k ex)) (subst (λ (n : ℕ). Each (Smaller F) n (is ++ js)) (one_longer vs b) ss) e rest
    by_rule (refused n) k e rec = absurd (never_stopped e)
