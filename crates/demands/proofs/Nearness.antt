-- Readings within a domain: as many, covered, and within their limits where the domain is. Assumes nothing.
use mathlib.Core.Path.{◌≡◌, refl, ◌∙◌, ap}
use mathlib.Core.Bool.{true}
use mathlib.Core.List.{List, map}
use mathlib.Core.Logic.{inl, inr}
use Prim.Native.Nat.{ℕ, zero, suc, ◌+◌, ◌≤◌, ◌<◌}
use native.Mathlib.Nat.{le_trans}
use native.Mathlib.Omega.{arith}
use lib.IntN.{ℤ, pos, nat_abs}
use lib.ListN.{length}
use lib.Signed.{non_neg}
use Rattle.lists.specs.All.{none, one}
use Rattle.lists.specs.Joined.{Rel}
use Rattle.rules.specs.Numbers.{M}
use Rattle.rules.specs.Values.{Covers}
use Rattle.rules.specs.Balls.{ball}
use Rattle.rules.specs.Matryoshki.{matryoshka}
use Rattle.rules.specs.Lists.{balls, matryoshki}
use Rattle.rules.proofs.Cover.{covered_reach}
use Rattle.formulas.specs.Readings.{reading, BallReadings, Domain, ball_readings, domain, plain_brought, balls_brought, domain_brought}
use Rattle.formulas.specs.GivenInRuns.{Negative}
use Rattle.formulas.proofs.Judging.{Good, not_below, Fit}
use Rattle.formulas.proofs.Fitting.{domain_fit}
use Rattle.demands.specs.Demands.{Near, InDomain}

near_long : {Cs Rs qs cs rs : List ℤ} → Near Cs Rs qs cs rs → (length cs ≡ length Cs) × (length rs ≡ length Cs)
near_long Near.none = (refl, refl)
near_long (Near.one p n q w) = let l = near_long w in (ap suc l.0, ap suc l.1)

pub near_covered : {Cs Rs qs cs rs : List ℤ} → Near Cs Rs qs cs rs → Rel Covers (matryoshki Cs (map nat_abs Rs) (map nat_abs qs)) (balls cs (map nat_abs rs))
near_covered Near.none = Rel.none
near_covered (Near.one p n q w) = Rel.one (record { strays = p; doubts = q }) (near_covered w)

-- one reading: its ball is within the reach of the matryoshka that covers it
record BothGood (c r : ℤ) : Type 0 where
  bare : Good (reading c (pos 0) (pos 0))
  with_margin : Good (reading c (pos 0) r)

reading_good : (C R q c r : ℤ) → Covers (matryoshka C (nat_abs R) (nat_abs q)) (ball c (nat_abs r)) → non_neg r ≡ true → Good (reading C R q) → BothGood c r
reading_good C R q c r v n t =
    let reach : nat_abs c + nat_abs r ≤ M = le_trans (covered_reach v) t.reach in
    record {
      bare = record { signs = no_sign; reach = omega (arith, reach) };
      with_margin = record { signs = no_margin; reach = omega (arith, reach) };
    }
  where
    no_sign : Negative (reading c (pos 0) (pos 0)) → ⊥
    no_sign (inl b) = b
    no_sign (inr b) = b

    no_margin : Negative (reading c (pos 0) r) → ⊥
    no_margin (inl b) = b
    no_margin (inr b) = not_below r n b

near_good : {Cs Rs qs cs rs : List ℤ} → Near Cs Rs qs cs rs
    → ((j : ℕ) → j < length Cs → Good ((domain_brought (domain Cs Rs qs)).reading_at j))
    → (j : ℕ) → j < length Cs → BothGood ((plain_brought cs).reading_at j).centre ((balls_brought (ball_readings cs rs)).reading_at j).margin
near_good Near.none f j l = absurd (omega arith)
near_good (Near.one {C = C} {R = R} {q = q} {c = c} {r = r} p n d w) f zero l =
    reading_good C R q c r (record { strays = p; doubts = d }) n (f 0 (omega arith))
near_good (Near.one p n d w) f (suc j) l = near_good w (λ i k. f (suc i) (omega arith)) j (omega arith)

-- readings within a domain that passed its tests pass theirs
pub near_fit : {d : Domain} {g : BallReadings} {m : ℕ} → InDomain d g → Fit m (domain_brought d) → Fit m (plain_brought g.centres) × Fit m (balls_brought g)
near_fit {d} {g} {m} w t =
    let many = (domain_fit d t).middles_many in
    let l = near_long w in
    let c = l.0 ∙ many in
    let r = l.1 ∙ many in
    let both = near_good w (λ j k. t.each_good j (omega arith)) in (
      record { counted = one c none; each_good = λ j k. (both j (omega arith)).bare },
      record { counted = one c (one r none); each_good = λ j k. (both j (omega arith)).with_margin },
    )
