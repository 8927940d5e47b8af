-- Request c, in the place of document 01's refusal 9: "13 wrong number of readings (place 0), then for the lowest bad
-- reading 14 if a stray or margin is negative, else 15 for reach or size". Every job that takes readings tests them so.
use Rattle.std.specs.Prelude.{Bool, true, ◌&&◌, cond, List, [], ◌∷◌, ℕ, zero, suc, ◌+◌, eqb, leb, ℤ, pos, nat_abs, length, get_or}
use Rattle.std.specs.Int.Signed.{non_neg}
use Rattle.rules.specs.Numbers.{M}
use Rattle.refusals.specs.declared.Refusal.TheVariants as refusal
use Rattle.refusals.specs.Answer.{Answer, value, refuse, then}
use Rattle.refusals.specs.Places.{Placed, at_place, refuse_at}

-- a reading as it arrives, in signed numbers; a ball has no stray, a bare number no margin either: 0 stands there
pub record Reading : Type 0 where
  pub centre : ℤ
  pub stray : ℤ
  pub margin : ℤ

abbrev pub reading : ℤ → ℤ → ℤ → Reading
reading c s r = record { centre = c; stray = s; margin = r }

-- "A plain value x is allowed when |x| is at most M." "A ball (c, r) has .. reach |c| + r at most M." "A matryoshka
-- (C, R, r) has .. reach |C| + R + r at most M."
abbrev pub reading_reach : Reading → ℕ
reading_reach g = nat_abs g.centre + nat_abs g.stray + nat_abs g.margin

-- "14 if a stray or margin is negative, else 15 for reach or size"
unfoldable pub judged : Reading → Answer (Unit {0})
judged g =
    cond (non_neg g.stray && non_neg g.margin)
    (cond (leb (reading_reach g) M) (value tt) (refuse refusal.ReadingTooLarge))
    (refuse refusal.NegativeMargin)

-- "for the lowest bad reading": of so many from reading i on; the place is "the reading's index"
abbrev pub lowest : (ℕ → Reading) → ℕ → ℕ → Placed (Unit {0})
lowest g i zero = value tt
lowest g i (suc n) = then (at_place i (judged (g i))) (λ x. lowest g (i + 1) n)

-- what a caller brings: how many numbers each of the lists has that carry the readings, and which reading i is
pub record Brought : Type 0 where
  pub counts : List ℕ
  pub reading_at : ℕ → Reading

-- so many in each list
abbrev pub each_counts : ℕ → List ℕ → Bool
each_counts m [] = true
each_counts m (n ∷ ns) = eqb n m && each_counts m ns

-- "13 wrong number of readings (place 0), then for the lowest bad reading"
unfoldable pub readings_tested : ℕ → Brought → Placed (Unit {0})
readings_tested m b =
    cond (each_counts m b.counts) (lowest b.reading_at 0 m) (refuse_at refusal.ReadingCount 0)

-- readings with their margins, and a domain: one list a part
pub record BallReadings : Type 0 where
  pub centres : List ℤ
  pub margins : List ℤ

pub record Domain : Type 0 where
  pub middles : List ℤ
  pub strays : List ℤ
  pub margins : List ℤ

abbrev pub ball_readings : List ℤ → List ℤ → BallReadings
ball_readings cs rs = record { centres = cs; margins = rs }

abbrev pub domain : List ℤ → List ℤ → List ℤ → Domain
domain cs ss rs = record { middles = cs; strays = ss; margins = rs }

-- number i of a list
abbrev pub number_at : List ℤ → ℕ → ℤ
number_at xs i = get_or xs i (pos 0)

abbrev pub plain_brought : List ℤ → Brought
plain_brought xs =
    record { counts = length xs ∷ []; reading_at = λ i. reading (number_at xs i) (pos 0) (pos 0) }

abbrev pub balls_brought : BallReadings → Brought
balls_brought g =
    record {
      counts = length g.centres ∷ length g.margins ∷ [];
      reading_at = λ i. reading (number_at g.centres i) (pos 0) (number_at g.margins i);
    }

abbrev pub domain_brought : Domain → Brought
domain_brought g =
    record {
      counts = length g.middles ∷ length g.strays ∷ length g.margins ∷ [];
      reading_at = λ i. reading (number_at g.middles i) (number_at g.strays i) (number_at g.margins i);
    }
