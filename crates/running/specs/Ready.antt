-- "1 to 8 come in file order", then 13 to 15, then 10: when a run is ready for its first step.
use Rattle.std.specs.Prelude.{◌≡◌, List, ℕ, ◌≤◌}
use Rattle.std.specs.declared.result.Result.{Result}
use Rattle.refusals.specs.declared.Refused.{Refused}
use Rattle.refusals.specs.Said.{Reply}
use Rattle.refusals.specs.Said.{reply_said}
use Rattle.refusals.specs.Answer.{value, then}
use Rattle.refusals.specs.Places.{Placed, Verdict, says, verdict_says, elsewhere}
use Rattle.formulas.specs.declared.Header.{Header}
use Rattle.formulas.specs.Run.{made_by}
use Rattle.formulas.specs.Kinds.{Kind}
use Rattle.formulas.specs.Job as job
use Rattle.formulas.specs.Job.{Started, roomy, if_room, walk_ended, outputs_of, said, Lent, lent_start}
use Rattle.packed.specs.Meaning.{formula, meant}
use Rattle.walks.specs.Walks.{Walkable, walk_of}

-- the header of a formula that a run starts on, or why it does not start and at which place
abbrev pub Start : Type 0
Start = Result Header Refused

abbrev pub start_says : Start → Placed Header
start_says = says

-- the refusal of the readings, then 10 where there is too little room
pub record Tests (h : Header) (fit : Verdict) (work output : ℕ) (r : Start) : Type 0 where
  pub answers : start_says r ≡ then (verdict_says fit) (λ x. elsewhere (if_room (roomy h work output) h))

abbrev pub started_header : (K : Kind) → Placed (Started K) → Placed Header
started_header K a = then a (λ st. value st.formula.header)

-- the header of the formula that the run starts on, or the refusal that comes before any step
pub record Ready (K : Kind) (s : List ℕ) (given : K.Readings) (work output : ℕ) (r : Start) : Type 0 where
  pub answers : start_says r ≡ started_header K (job.start K (formula s) given work output)

-- a run starts on the formula with this header
pub record Begins (K : Kind) (s : List ℕ) (h : Header) (given : K.Readings) (old : Lent K) : Type 0 where
  pub starts_with : started_header K (lent_start K (formula s) given old) ≡ value h

-- what carrying out a formula asks whose inputs stand in front of the work lists, and what it leaves
pub record Finishable (K : Kind) (s : List ℕ) (h : Header) (old : Lent K) : Type 0 where
  pub walkable : Walkable K s h old.work
  pub output_room : h.outputs ≤ K.room old.output

pub record Finishes (K : Kind) (s : List ℕ) (h : Header) (old new : Lent K) (r : Reply) : Type 0 where
  pub says : reply_said r ≡ said (walk_ended K.nothing (meant s) (walk_of K s h old.work))
  pub works : K.Holds (made_by (walk_of K s h old.work)) old.work new.work
  pub gives : K.Holds (outputs_of (walk_ended K.nothing (meant s) (walk_of K s h old.work))) old.output
      new.output
