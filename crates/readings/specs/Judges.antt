-- What a test of one reading says, and what a test of all that a caller brings says.
use Rattle.std.specs.Prelude.{◌≡◌, ℕ, ◌<◌}
use Rattle.lists.specs.All.{All}
use Rattle.refusals.specs.Places.{Verdict}
use Rattle.refusals.specs.Places.{at_place, verdict_says}
use Rattle.formulas.specs.Readings.{Reading, judged, Brought, readings_tested}

-- each list has a number at place i
abbrev pub InEach : ℕ → Brought → Type 0
InEach i b = All (λ n. i < n) b.counts

pub record Reads (b : Brought) (i : ℕ) (g : Reading) : Type 0 where
  pub is : g ≡ b.reading_at i

pub record Judges (g : Reading) (at : ℕ) (v : Verdict) : Type 0 where
  pub says : verdict_says v ≡ at_place at (judged g)

pub record JudgesAll (m : ℕ) (b : Brought) (v : Verdict) : Type 0 where
  pub says : verdict_says v ≡ readings_tested m b
