-- A finished run read off its last list: the first values have stayed, and every later value is the rule's, on its operands as they stand
-- there; of exact arithmetic too. Assumes nothing.
use mathlib.Core.Path.{◌≡◌, refl, sym, ◌∙◌, ap, ap₂, subst, subst₂}
use mathlib.Core.List.{List, [], ◌∷◌, ◌++◌}
use Prim.Native.Nat.{ℕ, ◌<◌}
use native.Mathlib.Nat.{le_of_eq}
use native.Mathlib.Omega.{arith}
use lib.ListN.{length, get_or, get_or-append}
use lib.Seq.{get_or-append_seam}
use Rattle.lists.specs.Each.{Each, none, one}
use Rattle.lists.proofs.Over.{one_longer}
use Rattle.refusals.specs.Answer.{Answer, value, refused}
use Rattle.rules.specs.Values.{Fraction}
use Rattle.rules.specs.Exact.{Exact}
use Rattle.rules.specs.Operation.{Operation, Alike, constants, negations, sums, differences, products, coefficients, reciprocals}
use Rattle.formulas.specs.declared.Instruction.{Instruction}
use Rattle.formulas.specs.declared.Instruction.TheVariants.{Constant, Negate, Add, Subtract, Multiply, Coefficient, Reciprocal}
use Rattle.formulas.specs.Formula.{Smaller}
use Rattle.formulas.specs.Run.{finished, with_values, onward, run}
use Rattle.formulas.specs.ExactRun.{nought, ExactRun}
use Rattle.formulas.proofs.Walks.{never_stopped, same_values}

-- an instruction whose operands' places are related, place by place
pub places_alike : {A B : Type 0} (R : A → B → Type 0) (F : ℕ) (vs : List A) (ws : List B) (d : A) (e : B) {n : ℕ}
    → ((j : ℕ) → j < n → R (get_or vs j d) (get_or ws j e)) → (i : Instruction) → Smaller F n i → Alike R (with_values d vs i) (with_values e ws i)
places_alike R F vs ws d e r (Constant c) s = constants c
places_alike R F vs ws d e r (Negate i) s = negations (r i s)
places_alike R F vs ws d e r (Add i j) s = sums (r i s.0) (r j s.1)
places_alike R F vs ws d e r (Subtract i j) s = differences (r i s.0) (r j s.1)
places_alike R F vs ws d e r (Multiply i j) s = products (r i s.0) (r j s.1)
places_alike R F vs ws d e r (Coefficient c m) s = coefficients c m
places_alike R F vs ws d e r (Reciprocal i) s = reciprocals (r i s.1)

-- an instruction is the same on two lists that agree where it looks
pub with_values_same : {A : Type 0} (F : ℕ) (vs ws : List A) (d : A) {n : ℕ} → ((j : ℕ) → j < n → get_or vs j d ≡ get_or ws j d) → (i : Instruction)
    → Smaller F n i → with_values d vs i ≡ with_values d ws i
with_values_same F vs ws d r (Constant c) s = refl
with_values_same F vs ws d r (Negate i) s = ap Operation.negate (r i s)
with_values_same F vs ws d r (Add i j) s = ap₂ Operation.add (r i s.0) (r j s.1)
with_values_same F vs ws d r (Subtract i j) s = ap₂ Operation.subtract (r i s.0) (r j s.1)
with_values_same F vs ws d r (Multiply i j) s = ap₂ Operation.multiply (r i s.0) (r j s.1)
with_values_same F vs ws d r (Coefficient c m) s = refl
with_values_same F vs ws d r (Reciprocal i) s = ap Operation.reciprocal (r i s.1)

module _ {A : Type 0} (rule : Operation A → Answer A) (d : A) where
  -- the first values stay
  pub run_stays : (is : List Instruction) (vs : List A) {ws : List A} → run rule d is vs ≡ finished ws → (j : ℕ) → j < length vs
      → get_or ws j d ≡ get_or vs j d
  run_stays [] vs e j l = ap (λ w. get_or w j d) (sym (same_values e))
  run_stays (i ∷ is) vs {ws} e j l = by_rule (rule (with_values d vs i)) e (λ v k. run_stays is (vs ++ v ∷ []) k j)
    where
      by_rule : (a : Answer A) → onward vs (λ w. run rule d is w) a ≡ finished ws
          → ((v : A) → run rule d is (vs ++ v ∷ []) ≡ finished ws → j < length (vs ++ v ∷ []) → get_or ws j d ≡ get_or (vs ++ v ∷ []) j d)
          → get_or ws j d ≡ get_or vs j d
      by_rule (value v) k rec = rec v k (omega (arith, one_longer vs v)) ∙ get_or-append vs (v ∷ []) d j l
      by_rule (refused n) k rec = absurd (never_stopped k)

  -- value v of ws is the rule's
  abbrev pub Makes : List A → ℕ → Instruction → Type 0
  Makes ws v i = rule (with_values d ws i) ≡ value (get_or ws v d)

  pub run_settles : (F : ℕ) (is : List Instruction) (vs : List A) {ws : List A} → Each (Smaller F) (length vs) is → run rule d is vs ≡ finished ws
      → Each (Makes ws) (length vs) is
  run_settles F [] vs none e = none
  run_settles F (i ∷ is) vs {ws} (one s ss) e = by_rule (rule (with_values d vs i)) refl e (λ v k. run_settles F is (vs ++ v ∷ []) k)
    where
      by_rule : (a : Answer A) → rule (with_values d vs i) ≡ a → onward vs (λ w. run rule d is w) a ≡ finished ws
          → ((v : A) → Each (Smaller F) (length (vs ++ v ∷ [])) is → run rule d is (vs ++ v ∷ []) ≡ finished ws
          → Each (Makes ws) (length (vs ++ v ∷ [])) is)
          → Each (Makes ws) (length vs) (i ∷ is)
      by_rule (value v) t k rec =
          one
          (ap rule (with_values_same F ws vs d (run_stays (i ∷ is) vs e) i s) ∙ t
          ∙ ap value (sym (run_stays is (vs ++ v ∷ []) k (length vs) (le_of_eq (one_longer vs v)) ∙ get_or-append_seam vs v [] d)))
          (subst (λ (n : ℕ). Each (Makes ws) n is) (sym (one_longer vs v))
          (rec v (subst (λ (n : ℕ). Each (Smaller F) n is) (one_longer vs v) ss) k))
      by_rule (refused n) t k rec = absurd (never_stopped k)

-- ---- exact arithmetic

pub exact_stays : {F : ℕ} {is : List Instruction} {xs ys : List Fraction} → ExactRun F is xs ys → (j : ℕ) → j < length xs
    → get_or ys j nought ≡ get_or xs j nought
exact_stays ExactRun.end j l = refl
exact_stays (ExactRun.step {xs = xs} x e rest) j l =
    exact_stays rest j (omega (arith, one_longer xs x)) ∙ get_or-append xs (x ∷ []) nought j l

-- value v of ys is exact
abbrev pub ExactlyMakes : ℕ → List Fraction → ℕ → Instruction → Type 0
ExactlyMakes F ys v i = Exact F (with_values nought ys i) (get_or ys v nought)

pub exact_settles : {F : ℕ} {is : List Instruction} {xs ys : List Fraction} → Each (Smaller F) (length xs) is → ExactRun F is xs ys
    → Each (ExactlyMakes F ys) (length xs) is
exact_settles none ExactRun.end = none
exact_settles {F} (one {more = is} s ss) (ExactRun.step {i = i} {xs = xs} {ys = ys} x e rest) =
    one
    (subst₂ (Exact F)
    (with_values_same F xs ys nought (λ j l. sym (exact_stays (ExactRun.step {i = i} {xs = xs} x e rest) j l)) i s)
    (sym (exact_stays rest (length xs) (le_of_eq (one_longer xs x)) ∙ get_or-append_seam xs x [] nought)) e)
    (subst (λ (n : ℕ). Each (ExactlyMakes F ys) n is) (sym (one_longer xs x))
    (exact_settles (subst (λ (n : ℕ). Each (Smaller F) n is) (one_longer xs x) ss) rest))
