-- Request c in figures: what is said of readings on each side of a limit, −2^63 in each part of each kind among them.
use Rattle.std.specs.Prelude.{◌≡◌, List, [], ◌∷◌, map, ℤ, pos, negsuc}
use Rattle.refusals.specs.Answer.{value}
use Rattle.refusals.specs.Places.{Placed, refused_at}
use Rattle.formulas.specs.Readings.{
  Brought,
  ball_readings,
  domain,
  plain_brought,
  balls_brought,
  domain_brought,
  readings_tested,
}

-- what a caller brings to a formula of two inputs, and what the tests say
pub record Figure : Type 0 where
  pub brings : Brought
  pub must : Placed (Unit {0})

infix 1 ◌gives◌
abbrev pub ◌gives◌ : Brought → Placed (Unit {0}) → Figure
b gives a = record { brings = b; must = a }

abbrev pub Hold : List Figure → Type 0
Hold t = map (λ (f : Figure). readings_tested 2 f.brings) t ≡ map (λ (f : Figure). f.must) t

abbrev pub fine : Placed (Unit {0})
fine = value tt

-- M, −M, −M−1 and −2^63; −1 is `negsuc 0`
abbrev pub most : ℤ
most = pos 2147483647

abbrev pub least : ℤ
least = negsuc 2147483646

abbrev pub below : ℤ
below = negsuc 2147483647

abbrev pub last : ℤ
last = negsuc 9223372036854775807

abbrev pub bare : ℤ → ℤ → Brought
bare x y = plain_brought (x ∷ y ∷ [])

-- two readings, the second with these parts
abbrev pub with_ball : ℤ → ℤ → Brought
with_ball c r = balls_brought (ball_readings (pos 0 ∷ c ∷ []) (pos 0 ∷ r ∷ []))

abbrev pub with_matryoshka : ℤ → ℤ → ℤ → Brought
with_matryoshka c s r = domain_brought (domain (pos 0 ∷ c ∷ []) (pos 0 ∷ s ∷ []) (pos 0 ∷ r ∷ []))

abbrev pub reading_figures : List Figure
reading_figures =
    (bare most least gives fine)
    ∷ (bare (pos 0) below gives refused_at 15 1)
    ∷ (bare (pos 0) last gives refused_at 15 1)
    ∷ (bare last last gives refused_at 15 0)
    ∷ (plain_brought (last ∷ []) gives refused_at 13 0)
    ∷ (with_ball (pos 2147483646) (pos 1) gives fine)
    ∷ (with_ball most (pos 1) gives refused_at 15 1)
    ∷ (with_ball last (pos 0) gives refused_at 15 1)
    ∷ (with_ball (pos 0) last gives refused_at 14 1)
    ∷ (with_ball last last gives refused_at 14 1)
    ∷ (with_ball most (negsuc 0) gives refused_at 14 1)
    ∷ (with_matryoshka (pos 2147483645) (pos 1) (pos 1) gives fine)
    ∷ (with_matryoshka (pos 2147483646) (pos 1) (pos 1) gives refused_at 15 1)
    ∷ (with_matryoshka last (pos 0) (pos 0) gives refused_at 15 1)
    ∷ (with_matryoshka (pos 0) last (pos 0) gives refused_at 14 1)
    ∷ (with_matryoshka (pos 0) (pos 0) last gives refused_at 14 1)
    ∷ (with_matryoshka last most last gives refused_at 14 1)
    ∷ (balls_brought (ball_readings (below ∷ pos 0 ∷ []) (pos 0 ∷ negsuc 0 ∷ [])) gives refused_at 15 0)
    ∷ (balls_brought (ball_readings (pos 0 ∷ below ∷ []) (negsuc 0 ∷ pos 0 ∷ [])) gives refused_at 14 0)
    ∷ (balls_brought (ball_readings (last ∷ last ∷ []) (last ∷ [])) gives refused_at 13 0)
    ∷ []
