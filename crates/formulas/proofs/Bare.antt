-- Where a ball run finishes, the plain run on the centres finishes too, with its centres. Assumes nothing.
use mathlib.Core.Path.{◌≡◌, refl, ◌∙◌, ap, ap₂, subst}
use mathlib.Core.List.{List, [], ◌∷◌}
use Prim.Native.Nat.{ℕ}
use lib.IntN.{ℤ, pos}
use lib.ListN.{length}
use Rattle.lists.specs.Each.{Each}
use Rattle.lists.specs.Joined.{Rel}
use Rattle.refusals.specs.Answer.{value}
use Rattle.rules.specs.declared.Ball.{Ball}
use Rattle.rules.specs.Lists.{centres_of}
use Rattle.rules.specs.Operation.{Operation, each, Alike, constants, negations, sums, differences, products, coefficients, reciprocals}
use Rattle.rules.specs.Plain.{plain_rule}
use Rattle.rules.specs.Balls.{ball_rule}
use Rattle.rules.proofs.Cover.{plain_follows}
use Rattle.formulas.specs.declared.Instruction.{Instruction}
use Rattle.formulas.specs.Formula.{Smaller}
use Rattle.formulas.specs.Run.{finished, run}
use Rattle.formulas.proofs.Following.{Followed, run_follows}

-- a bare value is a ball's centre
data Bare : Ball → ℤ → Type 0 where
  bare : (b : Ball) → Bare b b.centre

bare_is : {b : Ball} {c : ℤ} → Bare b c → b.centre ≡ c
bare_is (bare b) = refl

bare_all : (bs : List Ball) → Rel Bare bs (centres_of bs)
bare_all [] = Rel.none
bare_all (b ∷ bs) = Rel.one (bare b) (bare_all bs)

bare_centres : {bs : List Ball} {cs : List ℤ} → Rel Bare bs cs → cs ≡ centres_of bs
bare_centres Rel.none = refl
bare_centres (Rel.one (bare b) r) = ap (λ (l : List ℤ). b.centre ∷ l) (bare_centres r)

-- the plain instruction is the ball instruction, centre by centre
bare_operation : {o : Operation Ball} {p : Operation ℤ} → Alike Bare o p → each (λ (b : Ball). b.centre) o ≡ p
bare_operation (constants c) = refl
bare_operation (negations a) = ap Operation.negate (bare_is a)
bare_operation (sums a b) = ap₂ Operation.add (bare_is a) (bare_is b)
bare_operation (differences a b) = ap₂ Operation.subtract (bare_is a) (bare_is b)
bare_operation (products a b) = ap₂ Operation.multiply (bare_is a) (bare_is b)
bare_operation (coefficients c r) = refl
bare_operation (reciprocals a) = ap Operation.reciprocal (bare_is a)

bare_follows : (F : ℕ) (o : Operation Ball) (p : Operation ℤ) (b : Ball) → Alike Bare o p → ball_rule F o ≡ value b → Followed Bare (plain_rule F) b p
bare_follows F o p b a k =
    record {
      made = b.centre;
      accepted = subst (λ (q : Operation ℤ). plain_rule F q ≡ value b.centre) (bare_operation a) (plain_follows F o k);
      related = bare b;
    }

pub run_bare : (F : ℕ) (d : Ball) (is : List Instruction) (bs : List Ball) {made : List Ball} → Each (Smaller F) (length bs) is
    → run (ball_rule F) d is bs ≡ finished made → run (plain_rule F) (pos 0) is (centres_of bs) ≡ finished (centres_of made)
run_bare F d is bs small e =
    let c = run_follows F (ball_rule F) (plain_rule F) d (pos 0) (λ o p b. bare_follows F o p b) is (bare_all bs) small e in
    c.finishes ∙ ap finished (bare_centres c.related)
