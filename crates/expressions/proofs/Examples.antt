-- Texts on each side of the grammar, as the parser answers them. Assumes nothing.
use mathlib.Core.Path.{◌≡◌, refl}
use mathlib.Core.List.{List, [], ◌∷◌}
use Prim.Native.Nat.{ℕ, zero, suc}
use lib.IntN.{pos}
use Rattle.formulas.specs.declared.Instruction.TheVariants.{Constant, Negate, Add, Subtract, Multiply, Coefficient}
use Rattle.expressions.specs.Tree.{input, written, negated, sum, difference, product}
use Rattle.expressions.specs.Kind.{kind}
use Rattle.expressions.specs.Texts.{tree, refused_at, parse, open_at_once}
use Rattle.numerals.specs.Units.{units}
use Rattle.expressions.specs.Compiled.{compiled}

-- a*(b-0.25)+c
the_request's : List ℕ
the_request's = 97 ∷ 42 ∷ 40 ∷ 98 ∷ 45 ∷ 48 ∷ 46 ∷ 50 ∷ 53 ∷ 41 ∷ 43 ∷ 99 ∷ []

repeated : ℕ → ℕ → List ℕ → List ℕ
repeated zero b s = s
repeated (suc n) b s = b ∷ repeated n b s

accepted : parse 3 open_at_once the_request's ≡ tree (sum (product (input 0) (difference (input 1) (written 25 2))) (input 2))
unfolding kind the_request's
accepted = refl

-- at scale 4, 0.25 is 4 units; at scale 1 it is half a unit, and a tie goes up
instructions : compiled 4 (sum (product (input 0) (difference (input 1) (written 25 2))) (input 2)) 3
    ≡ record { program = (Constant (pos 4)) ∷ (Subtract 1 3) ∷ (Multiply 0 4) ∷ (Add 5 2) ∷ []; result = 6 }
unfolding units
instructions = refl

not_exact : compiled 1 (negated (written 25 2)) 0 ≡ record { program = Coefficient (pos 1) 1 ∷ (Negate 0) ∷ []; result = 1 }
unfolding units
not_exact = refl

-- a-b-c and a-b*c group from the left; --a is two minuses
from_the_left : parse 3 32 (97 ∷ 45 ∷ 98 ∷ 45 ∷ 99 ∷ []) ≡ tree (difference (difference (input 0) (input 1)) (input 2))
unfolding kind
from_the_left = refl

minus_first : parse 2 32 (45 ∷ 97 ∷ 42 ∷ 45 ∷ 45 ∷ 98 ∷ []) ≡ tree (product (negated (input 0)) (negated (negated (input 1))))
unfolding kind
minus_first = refl

-- the third letter where two are allowed; nothing; a point at the end, at the start, twice; two factors; a parenthesis left open
refusals :
    (parse 2 32 the_request's ≡ refused_at 18 11) × (parse 3 32 [] ≡ refused_at 18 0) × (parse 3 32 (49 ∷ 46 ∷ []) ≡ refused_at 18 2) × (parse 3 32 (46 ∷ 49 ∷ []) ≡ refused_at 18 0)
    × (parse 3 32 (49 ∷ 46 ∷ 50 ∷ 46 ∷ []) ≡ refused_at 18 3) × (parse 3 32 (97 ∷ 98 ∷ []) ≡ refused_at 18 1) × (parse 3 32 (40 ∷ 97 ∷ []) ≡ refused_at 18 2)
unfolding kind the_request's
refusals = (refl, refl, refl, refl, refl, refl, refl)

-- nine digits, and a tenth, or a point after the ninth
nine : (parse 0 32 (repeated 9 57 []) ≡ tree (written 999999999 0)) × (parse 0 32 (repeated 9 57 (57 ∷ [])) ≡ refused_at 18 9) × (parse 0 32 (repeated 9 57 (46 ∷ [])) ≡ refused_at 18 9)
unfolding kind repeated
nine = (refl, refl, refl)

-- 32 minuses, 33, and 33 parentheses of which the last is the first that is too deep; a minus is closed by its factor
deep : (parse 1 32 (repeated 33 45 (97 ∷ [])) ≡ refused_at 19 32) × (parse 1 32 (repeated 33 40 (43 ∷ [])) ≡ refused_at 19 32) × (parse 1 32 (repeated 32 40 (43 ∷ [])) ≡ refused_at 18 32)
    × (parse 1 32 (repeated 31 40 (45 ∷ 97 ∷ 43 ∷ 45 ∷ 97 ∷ repeated 31 41 [])) ≡ parse 1 32 (repeated 1 40 (45 ∷ 97 ∷ 43 ∷ 45 ∷ 97 ∷ 41 ∷ [])))
unfolding kind repeated
deep = (refl, refl, refl, refl)
