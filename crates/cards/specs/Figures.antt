-- Request j in figures: cards worked out by hand, and what is said on each side of a limit.
use Rattle.std.specs.Prelude.{◌≡◌, List, [], ◌∷◌, map, ℕ, ℤ, pos, negsuc, length}
use Rattle.refusals.specs.Answer.{value}
use Rattle.refusals.specs.Places.{Placed, refused_at}
use Rattle.formulas.specs.declared.Instruction.{Instruction}
use Rattle.formulas.specs.declared.Instruction.TheVariants.{Constant, Add, Multiply, Coefficient, Reciprocal}
use Rattle.formulas.specs.Formula.{Formula}
use Rattle.formulas.specs.Readings.{Domain, domain, ball_readings}
use Rattle.cards.specs.Card.{Card, card}
use Rattle.cards.specs.Making.{card_job}
use Rattle.cards.specs.Using.{Use, use_card}

-- scale, inputs, instructions, outputs
abbrev pub formula : ℕ → ℕ → List Instruction → List ℕ → Formula
formula F m is os =
    record {
      header = record { scale = F; inputs = m; instructions = length is; outputs = length os };
      program = is;
      results = os;
    }

-- ---- making

pub record Making : Type 0 where
  pub of : Formula
  pub over : Domain
  pub static_room : ℕ
  pub slope_room : ℕ
  pub must : Placed Card

abbrev pub MakingsHold : List Making → Type 0
MakingsHold t =
    map (λ (f : Making). card_job (value f.of) f.over f.static_room f.slope_room) t
    ≡ map (λ (f : Making). f.must) t

abbrev pub making : Formula → Domain → ℕ → ℕ → Placed Card → Making
making f g er lr a = record { of = f; over = g; static_room = er; slope_room = lr; must = a }

-- document 01's example: value 2 is value 0 times value 1, value 3 is value 2 plus value 0, and is the output
abbrev pub example : Formula
example = formula 4 2 (Multiply 0 1 ∷ Add 2 0 ∷ []) (3 ∷ [])

abbrev pub example_domain : ℤ → Domain
example_domain r = domain (pos 24 ∷ negsuc 9 ∷ []) (pos 3 ∷ pos 2 ∷ []) (pos 0 ∷ r ∷ [])

-- x^28 at scale 0: 2^28 is within reach, the slope 28·2^27 is not
abbrev pub power : Formula
power =
    formula 0 1 (Multiply 0 0 ∷ Multiply 1 1 ∷ Multiply 2 2 ∷ Multiply 3 3 ∷ Multiply 4 3 ∷ Multiply 5 2 ∷ []) (0 ∷ [])

-- one input (c, s, 0)
abbrev pub alone : ℤ → ℤ → Domain
alone c s = domain (c ∷ []) (s ∷ []) (pos 0 ∷ [])

-- the example: reaches 27 and 12, slopes 12·16/16 and 27·16/16, and 16 more on the first; h costs the product one unit
-- · a margin that isn't 0, which comes before a list that is short · short lists · a slope over M that no output uses,
-- at its instruction · 1/(24, 3): w = 21, 256·16/441 rounded up · 1/3 at scale 16, where T·Q/9 is over M · 17 of
-- admission · 2, give or take 1, times (80, 16): E as admitted, and reach 3 times 16 over 16 · 1 times (5, 2), which
-- costs nothing · two outputs of two inputs, the second an input itself
abbrev pub makings : List Making
makings =
    making example (example_domain (pos 0)) 1 2 (value (card (1 ∷ []) ((28 ∷ 27 ∷ []) ∷ [])))
    ∷ making example (example_domain (pos 1)) 0 2 (refused_at 22 0)
    ∷ making example (example_domain (negsuc 0)) 1 2 (refused_at 14 1)
    ∷ making example (example_domain (pos 0)) 0 2 (refused_at 10 0)
    ∷ making example (example_domain (pos 0)) 1 1 (refused_at 10 0)
    ∷ making power (alone (pos 2) (pos 0)) 1 1 (refused_at 11 5)
    ∷ making (formula 4 1 (Reciprocal 0 ∷ []) (1 ∷ [])) (alone (pos 24) (pos 3)) 1 1
    (value (card (1 ∷ []) ((10 ∷ []) ∷ [])))
    ∷ making (formula 16 1 (Reciprocal 0 ∷ []) (1 ∷ [])) (alone (pos 3) (pos 0)) 1 1 (refused_at 11 0)
    ∷ making (formula 4 1 (Reciprocal 0 ∷ []) (1 ∷ [])) (alone (pos 3) (pos 3)) 1 1 (refused_at 17 0)
    ∷ making (formula 4 1 (Coefficient (pos 2) 1 ∷ Multiply 1 0 ∷ []) (2 ∷ [])) (alone (pos 80) (pos 16)) 1 1
    (value (card (7 ∷ []) ((3 ∷ []) ∷ [])))
    ∷ making (formula 4 1 (Constant (pos 16) ∷ Multiply 1 0 ∷ []) (2 ∷ [])) (alone (pos 5) (pos 2)) 1 1
    (value (card (0 ∷ []) ((16 ∷ []) ∷ [])))
    ∷ making (formula 4 2 (Multiply 0 1 ∷ Add 2 0 ∷ []) (3 ∷ 1 ∷ [])) (example_domain (pos 0)) 2 4
    (value (card (1 ∷ 0 ∷ []) ((28 ∷ 27 ∷ []) ∷ (0 ∷ 16 ∷ []) ∷ [])))
    ∷ []

-- ---- using

pub record Usage : Type 0 where
  pub brings : Use
  pub room : ℕ
  pub must : Placed (List ℕ)

abbrev pub UsagesHold : List Usage → Type 0
UsagesHold t = map (λ (f : Usage). use_card f.brings f.room) t ≡ map (λ (f : Usage). f.must) t

-- the example's card, with this scale, these counts and slopes and these balls
abbrev pub asked : ℤ → ℤ → ℤ → List ℕ → List ℤ → List ℤ → Use
asked F m n L cs rs =
    record {
      scale = F;
      inputs = m;
      outputs = n;
      domain = ball_readings (pos 24 ∷ negsuc 9 ∷ []) (pos 3 ∷ pos 2 ∷ []);
      static = 1 ∷ [];
      slopes = L;
      readings = ball_readings cs rs;
    }

abbrev pub with_balls : List ℤ → List ℤ → Use
with_balls cs rs = asked (pos 4) (pos 2) (pos 1) (28 ∷ 27 ∷ []) cs rs

-- its margins (2, 1)
abbrev pub counted : ℤ → ℤ → ℤ → List ℕ → Use
counted F m n L = asked F m n L (pos 24 ∷ negsuc 9 ∷ []) (pos 2 ∷ pos 1 ∷ [])

-- one ball (0, 1) inside (0, 1), two outputs, and this card: the first at M, slope Q
abbrev pub steep : List ℕ → List ℕ → Use
steep E L =
    record {
      scale = pos 4;
      inputs = pos 1;
      outputs = pos 2;
      domain = ball_readings (pos 0 ∷ []) (pos 1 ∷ []);
      static = E;
      slopes = L;
      readings = ball_readings (pos 0 ∷ []) (pos 1 ∷ []);
    }

abbrev pub usage : Use → ℕ → Placed (List ℕ) → Usage
usage u room a = record { brings = u; room = room; must = a }

-- 1 + 56/16 rounded up + 27/16 rounded up · a ball that reaches out of the domain by one · its margin below 0, before a
-- short list · one ball too few · no room · the scale, then the counts · E and L as long as they must be, and no longer
-- read · a sum of M, and one past it at the second output
abbrev pub usages : List Usage
usages =
    usage (counted (pos 4) (pos 2) (pos 1) (28 ∷ 27 ∷ [])) 1 (value (7 ∷ []))
    ∷ usage (with_balls (pos 25 ∷ negsuc 9 ∷ []) (pos 2 ∷ pos 1 ∷ [])) 1 (value (7 ∷ []))
    ∷ usage (with_balls (pos 26 ∷ negsuc 9 ∷ []) (pos 2 ∷ pos 1 ∷ [])) 1 (refused_at 20 0)
    ∷ usage (with_balls (pos 24 ∷ negsuc 9 ∷ []) (pos 2 ∷ negsuc 0 ∷ [])) 0 (refused_at 14 1)
    ∷ usage (with_balls (pos 24 ∷ []) (pos 2 ∷ [])) 1 (refused_at 13 0)
    ∷ usage (counted (pos 4) (pos 2) (pos 1) (28 ∷ 27 ∷ [])) 0 (refused_at 10 0)
    ∷ usage (counted (pos 31) (pos 17) (pos 1) (28 ∷ 27 ∷ [])) 1 (refused_at 3 0)
    ∷ usage (counted (negsuc 0) (pos 2) (pos 1) (28 ∷ 27 ∷ [])) 1 (refused_at 3 0)
    ∷ usage (counted (pos 30) (pos 17) (pos 1) (28 ∷ 27 ∷ [])) 1 (refused_at 4 0)
    ∷ usage (counted (pos 4) (pos 2) (pos 0) (28 ∷ 27 ∷ [])) 1 (refused_at 4 0)
    ∷ usage (counted (pos 4) (pos 2) (pos 1) (28 ∷ [])) 1 (refused_at 10 0)
    ∷ usage (steep (2147483647 ∷ 0 ∷ []) (0 ∷ 16 ∷ 2147483648 ∷ [])) 2 (value (2147483647 ∷ 1 ∷ []))
    ∷ usage (steep (2147483646 ∷ 2147483647 ∷ []) (16 ∷ 16 ∷ [])) 2 (refused_at 11 1)
    ∷ usage (steep (2147483648 ∷ 0 ∷ []) (0 ∷ 0 ∷ [])) 2 (refused_at 20 0)
    ∷ usage (steep (0 ∷ 0 ∷ []) (0 ∷ 2147483648 ∷ [])) 2 (refused_at 20 0)
    ∷ []
