-- Document 01, "Figures on each side of a limit": the marked ones, as one table of steps and what each must answer; and
-- a table each for requests b, e and g.
use Rattle.std.specs.Prelude.{◌≡◌, List, [], ◌∷◌, map, ℕ, ℤ, pos, negsuc}
use Rattle.rules.specs.declared.Ball.{Ball}
use Rattle.rules.specs.declared.Matryoshka.{Matryoshka}
use Rattle.rules.specs.Operation.{Operation, add, multiply, coefficient, reciprocal}
use Rattle.refusals.specs.Answer.{Answer, value, refused}
use Rattle.rules.specs.Plain.{plain_rule}
use Rattle.rules.specs.Balls.{ball, ball_rule}
use Rattle.rules.specs.Matryoshki.{matryoshka, matryoshka_rule}

pub data Step : Type 0 where
  on_plain : ℕ → Operation ℤ → Step
  on_balls : ℕ → Operation Ball → Step
  on_matryoshki : ℕ → Operation Matryoshka → Step

-- an answer's numbers, in the order in which the document writes them
abbrev pub plain_numbers : Answer ℤ → Answer (List ℤ)
plain_numbers (value x) = value (x ∷ [])
plain_numbers (refused n) = refused n

abbrev pub ball_numbers : Answer Ball → Answer (List ℤ)
ball_numbers (value b) = value (b.centre ∷ pos b.margin ∷ [])
ball_numbers (refused n) = refused n

abbrev pub matryoshka_numbers : Answer Matryoshka → Answer (List ℤ)
matryoshka_numbers (value m) = value (m.middle ∷ pos m.stray ∷ pos m.margin ∷ [])
matryoshka_numbers (refused n) = refused n

abbrev pub figure_answer : Step → Answer (List ℤ)
figure_answer (on_plain F o) = plain_numbers (plain_rule F o)
figure_answer (on_balls F o) = ball_numbers (ball_rule F o)
figure_answer (on_matryoshki F o) = matryoshka_numbers (matryoshka_rule F o)

pub record Figure : Type 0 where
  pub step : Step
  pub must : Answer (List ℤ)

infix 1 ◌gives◌
abbrev pub ◌gives◌ : Step → Answer (List ℤ) → Figure
s gives a = record { step = s; must = a }

-- each step of a table gives what it must
abbrev pub Hold : List Figure → Type 0
Hold t = map (λ (f : Figure). figure_answer f.step) t ≡ map (λ (f : Figure). f.must) t

-- −15 is `negsuc 14`, −(14 + 1)
abbrev pub figures : List Figure
figures =
    (on_balls 4 (multiply (ball (pos 24) 3) (ball (negsuc 9) 2)) gives value (negsuc 14 ∷ pos 6 ∷ []))
    ∷ (on_balls 4 (multiply (ball (pos 1) 0) (ball (pos 1) 0)) gives value (pos 0 ∷ pos 1 ∷ []))
    ∷ (on_balls 4 (multiply (ball (pos 8) 0) (ball (pos 1) 0)) gives value (pos 1 ∷ pos 1 ∷ []))
    ∷ (on_balls 4 (multiply (ball (negsuc 7) 0) (ball (pos 1) 0)) gives value (pos 0 ∷ pos 1 ∷ []))
    ∷ (on_balls 4 (multiply (ball (negsuc 8) 0) (ball (pos 1) 0)) gives value (negsuc 0 ∷ pos 1 ∷ []))
    ∷ (on_balls 0 (multiply (ball (pos 3) 1) (ball (negsuc 4) 2)) gives value (negsuc 14 ∷ pos 13 ∷ []))
    ∷ (on_matryoshki 4 (multiply (matryoshka (pos 24) 3 1) (matryoshka (negsuc 9) 2 1)) gives value
    (negsuc 14 ∷ pos 6 ∷ pos 3 ∷ []))
    ∷ (on_matryoshki 4 (multiply (matryoshka (pos 1) 0 0) (matryoshka (pos 1) 0 0)) gives value
    (pos 0 ∷ pos 0 ∷ pos 1 ∷ []))
    ∷ (on_matryoshki 4 (multiply (matryoshka (pos 16) 0 0) (matryoshka (pos 5) 2 0)) gives value
    (pos 5 ∷ pos 2 ∷ pos 0 ∷ []))
    ∷ (on_balls 0 (add (ball (pos 2147483646) 1) (ball (pos 0) 0)) gives value (pos 2147483646 ∷ pos 1 ∷ []))
    ∷ (on_balls 0 (add (ball (pos 2147483646) 1) (ball (pos 0) 1)) gives refused 11)
    ∷ []

-- "The weight 0.1 .. was rounded into units": 1.6 sixteenths as 2, with a margin of 1. A tenth of 80 is 8, and 8 is
-- inside (10, 5), while for an exact 2 "its rounding vanished from the margin"; a static margin is then h's unit alone.
abbrev pub coefficient_figures : List Figure
coefficient_figures =
    (on_balls 4 (coefficient (pos 2) 1) gives value (pos 2 ∷ pos 1 ∷ []))
    ∷ (on_matryoshki 4 (coefficient (pos 2) 1) gives value (pos 2 ∷ pos 0 ∷ pos 1 ∷ []))
    ∷ (on_balls 4 (multiply (ball (pos 2) 1) (ball (pos 80) 0)) gives value (pos 10 ∷ pos 5 ∷ []))
    ∷ (on_balls 4 (multiply (ball (pos 2) 0) (ball (pos 80) 0)) gives value (pos 10 ∷ pos 0 ∷ []))
    ∷ (on_matryoshki 4 (multiply (matryoshka (pos 2) 0 1) (matryoshka (pos 80) 16 0)) gives value
    (pos 10 ∷ pos 2 ∷ pos 7 ∷ []))
    ∷ (on_matryoshki 4 (multiply (matryoshka (pos 2) 0 0) (matryoshka (pos 80) 16 0)) gives value
    (pos 10 ∷ pos 2 ∷ pos 1 ∷ []))
    ∷ []

-- 1/(3 units) at scale 4 is 85 and a third; either sign, the ties at T/a = 1/2 and −1/2, 2^F and M, a margin of |a| − 1
-- and of |a|, both ends of the scales, 17 before 11
abbrev pub reciprocal_figures : List Figure
reciprocal_figures =
    (on_plain 4 (reciprocal (negsuc 2)) gives value (negsuc 84 ∷ []))
    ∷ (on_plain 4 (reciprocal (pos 0)) gives refused 17)
    ∷ (on_plain 0 (reciprocal (pos 2)) gives value (pos 1 ∷ []))
    ∷ (on_plain 0 (reciprocal (negsuc 1)) gives value (pos 0 ∷ []))
    ∷ (on_plain 16 (reciprocal (negsuc 2)) gives value (negsuc 1431655764 ∷ []))
    ∷ (on_plain 16 (reciprocal (pos 2)) gives refused 11)
    ∷ (on_plain 16 (reciprocal (pos 2147483647)) gives value (pos 2 ∷ []))
    ∷ (on_balls 4 (reciprocal (ball (pos 3) 0)) gives value (pos 85 ∷ pos 1 ∷ []))
    ∷ (on_balls 4 (reciprocal (ball (pos 3) 1)) gives value (pos 85 ∷ pos 44 ∷ []))
    ∷ (on_balls 4 (reciprocal (ball (pos 3) 2)) gives value (pos 85 ∷ pos 172 ∷ []))
    ∷ (on_balls 4 (reciprocal (ball (pos 3) 3)) gives refused 17)
    ∷ (on_balls 4 (reciprocal (ball (negsuc 9) 2)) gives value (negsuc 25 ∷ pos 8 ∷ []))
    ∷ (on_balls 4 (reciprocal (ball (pos 1) 0)) gives value (pos 256 ∷ pos 0 ∷ []))
    ∷ (on_balls 4 (reciprocal (ball (negsuc 0) 0)) gives value (negsuc 255 ∷ pos 0 ∷ []))
    ∷ (on_balls 4 (reciprocal (ball (pos 16) 0)) gives value (pos 16 ∷ pos 0 ∷ []))
    ∷ (on_balls 4 (reciprocal (ball (pos 2147483647) 0)) gives value (pos 0 ∷ pos 1 ∷ []))
    ∷ (on_balls 4 (reciprocal (ball (pos 512) 0)) gives value (pos 1 ∷ pos 1 ∷ []))
    ∷ (on_balls 4 (reciprocal (ball (negsuc 511) 0)) gives value (pos 0 ∷ pos 1 ∷ []))
    ∷ (on_balls 0 (reciprocal (ball (pos 1) 0)) gives value (pos 1 ∷ pos 0 ∷ []))
    ∷ (on_balls 0 (reciprocal (ball (pos 2) 1)) gives value (pos 1 ∷ pos 2 ∷ []))
    ∷ (on_balls 0 (reciprocal (ball (pos 2147483647) 0)) gives value (pos 0 ∷ pos 1 ∷ []))
    ∷ (on_balls 16 (reciprocal (ball (pos 3) 0)) gives value (pos 1431655765 ∷ pos 1 ∷ []))
    ∷ (on_balls 16 (reciprocal (ball (pos 2) 0)) gives refused 11)
    ∷ (on_balls 16 (reciprocal (ball (pos 2) 2)) gives refused 17)
    ∷ (on_balls 16 (reciprocal (ball (pos 2147483647) 0)) gives value (pos 2 ∷ pos 1 ∷ []))
    ∷ (on_balls 16 (reciprocal (ball (pos 1073741824) 1073741823)) gives refused 11)
    ∷ (on_matryoshki 4 (reciprocal (matryoshka (pos 24) 3 1)) gives value (pos 11 ∷ pos 2 ∷ pos 2 ∷ []))
    ∷ (on_matryoshki 4 (reciprocal (matryoshka (negsuc 2) 1 1)) gives value (negsuc 84 ∷ pos 43 ∷ pos 129 ∷ []))
    ∷ (on_matryoshki 4 (reciprocal (matryoshka (pos 16) 0 0)) gives value (pos 16 ∷ pos 0 ∷ pos 1 ∷ []))
    ∷ (on_matryoshki 4 (reciprocal (matryoshka (pos 3) 2 0)) gives value (pos 85 ∷ pos 171 ∷ pos 1 ∷ []))
    ∷ (on_matryoshki 4 (reciprocal (matryoshka (pos 3) 2 1)) gives refused 17)
    ∷ (on_matryoshki 4 (reciprocal (matryoshka (pos 3) 0 3)) gives refused 17)
    ∷ (on_matryoshki 0 (reciprocal (matryoshka (pos 1) 0 0)) gives value (pos 1 ∷ pos 0 ∷ pos 1 ∷ []))
    ∷ (on_matryoshki 16 (reciprocal (matryoshka (pos 8) 1 1)) gives value
    (pos 536870912 ∷ pos 76695845 ∷ pos 102261128 ∷ []))
    ∷ (on_matryoshki 16 (reciprocal (matryoshka (pos 2) 0 0)) gives refused 11)
    ∷ (on_matryoshki 16 (reciprocal (matryoshka (pos 2) 1 1)) gives refused 17)
    ∷ []

-- 1.0 times x at scale 4, either way round, is x; 3 times it and −2 times it are its stray and margin times 3 and 2. A whole
-- middle that strays, a middle that is not whole and a reading's whole middle leave h in; a margin of the whole factor's
-- own stays. At scale 0 every middle is whole and h is 0 in any case; at scale 30 only 1, 0 and −1 are.
abbrev pub whole_figures : List Figure
whole_figures =
    (on_matryoshki 4 (multiply (matryoshka (pos 16) 0 0) (matryoshka (pos 5) 2 1)) gives value (pos 5 ∷ pos 2 ∷ pos 1 ∷ []))
    ∷ (on_matryoshki 4 (multiply (matryoshka (pos 5) 2 1) (matryoshka (pos 16) 0 0)) gives value (pos 5 ∷ pos 2 ∷ pos 1 ∷ []))
    ∷ (on_matryoshki 4 (multiply (matryoshka (pos 48) 0 0) (matryoshka (pos 5) 2 1)) gives value
    (pos 15 ∷ pos 6 ∷ pos 3 ∷ []))
    ∷ (on_matryoshki 4 (multiply (matryoshka (pos 5) 2 1) (matryoshka (negsuc 31) 0 0)) gives value
    (negsuc 9 ∷ pos 4 ∷ pos 2 ∷ []))
    ∷ (on_matryoshki 4 (multiply (matryoshka (pos 0) 0 0) (matryoshka (pos 5) 2 1)) gives value (pos 0 ∷ pos 0 ∷ pos 0 ∷ []))
    ∷ (on_matryoshki 4 (multiply (matryoshka (pos 16) 0 0) (matryoshka (pos 32) 0 0)) gives value
    (pos 32 ∷ pos 0 ∷ pos 0 ∷ []))
    ∷ (on_matryoshki 4 (multiply (matryoshka (pos 16) 1 0) (matryoshka (pos 5) 2 0)) gives value (pos 5 ∷ pos 3 ∷ pos 1 ∷ []))
    ∷ (on_matryoshki 4 (multiply (matryoshka (pos 5) 2 0) (matryoshka (pos 16) 1 0)) gives value (pos 5 ∷ pos 3 ∷ pos 1 ∷ []))
    ∷ (on_matryoshki 4 (multiply (matryoshka (pos 17) 0 0) (matryoshka (pos 5) 2 0)) gives value (pos 5 ∷ pos 3 ∷ pos 1 ∷ []))
    ∷ (on_matryoshki 4 (multiply (matryoshka (pos 5) 2 0) (matryoshka (pos 15) 0 0)) gives value (pos 5 ∷ pos 2 ∷ pos 1 ∷ []))
    ∷ (on_matryoshki 4 (multiply (matryoshka (pos 16) 0 1) (matryoshka (pos 5) 2 0)) gives value (pos 5 ∷ pos 2 ∷ pos 1 ∷ []))
    ∷ (on_matryoshki 0 (multiply (matryoshka (pos 3) 0 0) (matryoshka (pos 5) 2 1)) gives value
    (pos 15 ∷ pos 6 ∷ pos 3 ∷ []))
    ∷ (on_matryoshki 30 (multiply (matryoshka (negsuc 1073741823) 0 0) (matryoshka (pos 5) 2 0)) gives value
    (negsuc 4 ∷ pos 2 ∷ pos 0 ∷ []))
    ∷ (on_matryoshki 30 (multiply (matryoshka (pos 1073741823) 0 0) (matryoshka (pos 5) 2 0)) gives value
    (pos 5 ∷ pos 2 ∷ pos 1 ∷ []))
    ∷ []
