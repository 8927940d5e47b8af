-- Document 01, "Numbered replies and their order": a whole job, once for the three kinds.
use Rattle.std.specs.Prelude.{◌≡◌, Bool, cond, ◌&&◌, List, [], map, ℕ, ◌-◌, leb, length, get_or}
use Rattle.refusals.specs.declared.Refusal.TheVariants as refusal
use Rattle.refusals.specs.Said.{Reply}
use Rattle.refusals.specs.Answer.{Answer, value, refused, refuse, then}
use Rattle.refusals.specs.Places.{Placed, elsewhere}
use Rattle.refusals.specs.Said.{Said, answered, refuses, reply_said}
use Rattle.formulas.specs.declared.Header.{Header}
use Rattle.formulas.specs.Formula.{Formula, places}
use Rattle.formulas.specs.Run.{Walk, finished, stopped, run}
use Rattle.formulas.specs.Kinds.{Kind, tested}

-- a formula with the values of its inputs
pub record Started (K : Kind) : Type 0 where
  pub formula : Formula
  pub values : List K.Value

-- "10: a work list has under m+l places or an output list under n"
abbrev pub roomy : Header → ℕ → ℕ → Bool
roomy h work output = leb (places h) work && leb h.outputs output

abbrev pub if_room : {A : Type 0} → Bool → A → Answer A
if_room t a = cond t (value a) (refuse refusal.NoRoom)

-- "1 to 8 come in file order", then 13, 14, 15 ("the three stand in 9's place in the order"), then 10: lists with so
-- many places to work in and so many for the outputs are lent
unfoldable pub start : (K : Kind) → Answer Formula → K.Readings → ℕ → ℕ → Placed (Started K)
start K a given work output =
    then (elsewhere a) (λ f. then (tested K f.header.inputs given) (λ vs.
    elsewhere (if_room (roomy f.header work output) (record { formula = f; values = vs }))))

-- refused before any step by a number and its place, stopped at an instruction by a refusal with the values made so
-- far, or done with all values and the outputs
pub data Result (A : Type 0) : Type 0 where
  refused_first : ℕ → ℕ → Result A
  stopped_at : ℕ → ℕ → List A → Result A
  done : List A → List A → Result A

-- "instruction k" is the one that made no value after the first m+k; outputs in order
abbrev pub walk_ended : {A : Type 0} → A → Formula → Walk A → Result A
walk_ended d f (finished vs) = done vs (map (λ o. get_or vs o d) f.results)
walk_ended d f (stopped n vs) = stopped_at (length vs - f.header.inputs) n vs

abbrev pub started_run : (K : Kind) → Started K → Walk K.Value
started_run K st = run (K.rule st.formula.header.scale) K.nothing st.formula.program st.values

abbrev pub if_started : (K : Kind) → Placed (Started K) → Result K.Value
if_started K (refused w) = refused_first w.number w.place
if_started K (value st) = walk_ended K.nothing st.formula (started_run K st)

unfoldable pub job : (K : Kind) → Answer Formula → K.Readings → ℕ → ℕ → Result K.Value
job K a given work output = if_started K (start K a given work output)

-- "On success the first m+l work places hold all values, the first n output places the outputs in order .. On refusals
-- 1 to 10 all lent memory keeps its contents. On 11 at instruction k the work lists hold the first m+k values .. and so
-- are the outputs [untouched]." "A refusal number added later .. otherwise .. writes nothing."
abbrev pub work_of : {A : Type 0} → Result A → List A
work_of (refused_first n k) = []
work_of (stopped_at k n vs) = vs
work_of (done vs os) = vs

abbrev pub outputs_of : {A : Type 0} → Result A → List A
outputs_of (refused_first n k) = []
outputs_of (stopped_at k n vs) = []
outputs_of (done vs os) = os

abbrev pub said : {A : Type 0} → Result A → Said
said (refused_first n k) = refuses n k
said (stopped_at k n vs) = refuses n k
said (done vs os) = answered (length os)

-- "Work and output are separate lent lists"
pub record Lent (K : Kind) : Type 0 where
  pub work : K.Lists
  pub output : K.Lists

abbrev pub lent : (K : Kind) → K.Lists → K.Lists → Lent K
lent K work output = record { work = work; output = output }

abbrev pub lent_start : (K : Kind) → Answer Formula → K.Readings → Lent K → Placed (Started K)
lent_start K a given lent = start K a given (K.room lent.work) (K.room lent.output)

abbrev pub lent_job : (K : Kind) → Answer Formula → K.Readings → Lent K → Result K.Value
lent_job K a given lent = job K a given (K.room lent.work) (K.room lent.output)

-- the reply, and every place of every lent list
pub record Kept (K : Kind) (a : Answer Formula) (given : K.Readings) (old new : Lent K) (r : Reply) : Type 0 where
  pub says : reply_said r ≡ said (lent_job K a given old)
  pub works : K.Holds (work_of (lent_job K a given old)) old.work new.work
  pub gives : K.Holds (outputs_of (lent_job K a given old)) old.output new.output
