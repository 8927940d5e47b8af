-- Document 01, "How tight the contracts are": what a job is given and what it leaves, and the four wrong programs; and
-- one that tells a later reading than the lowest bad one.
use Rattle.std.specs.Prelude.{List, map, ℕ, ℤ, pos, get_or, take, replicate}
use Rattle.lists.specs.Over.{over}
use Rattle.std.specs.declared.result.Result.TheVariants.{Err}
use Rattle.refusals.specs.Places.{because}
use Rattle.refusals.specs.declared.Refusal.{Refusal}
use Rattle.refusals.specs.Said.{Reply}
use Rattle.rules.specs.declared.Ball.{Ball}
use Rattle.rules.specs.Plain.{plain_rule}
use Rattle.rules.specs.Lists.{ball_lists}
use Rattle.formulas.specs.Formula.{Formula, places}
use Rattle.formulas.specs.Run.{run, made_by}
use Rattle.formulas.specs.Kinds.{Kind, plain_kind, ball_kind, matryoshka_kind}
use Rattle.formulas.specs.Job.{Lent, lent, Kept}
use Rattle.packed.specs.Meaning.{formula, meant}

-- the bytes, the readings, and what the lent lists hold
pub record Input (K : Kind) : Type 0 where
  pub bytes : List ℕ
  pub readings : K.Readings
  pub held : Lent K

-- the reply, and what the lent lists hold at exit
pub record Outcome (K : Kind) : Type 0 where
  pub reply : Reply
  pub left : Lent K

abbrev pub Program : Kind → Type 0
Program K = Input K → Outcome K

abbrev pub Allows : (K : Kind) → Input K → Outcome K → Type 0
Allows K i o = Kept K (formula i.bytes) i.readings i.held o.left o.reply

-- an input at which what a program leaves is not as it must be
pub record Fails (K : Kind) (Must : Input K → Outcome K → Type 0) (p : Program K) : Type 0 where
  pub at : Input K
  pub refuses : Must at (p at) → ⊥

-- where the contract refuses it
abbrev pub Stopped : (K : Kind) → Program K → Type 0
Stopped K p = Fails K (Allows K) p

-- n, the number of outputs that a job is asked for
abbrev pub asked : {K : Kind} → Input K → ℕ
asked i = (meant i.bytes).header.outputs

-- In each of them, q is any program: what the wrong one does beside the wrong.

-- "an admission that refuses all formulas", for whatever reason
abbrev pub refuses_all : (Input matryoshka_kind → Refusal) → Program matryoshka_kind → Program matryoshka_kind
refuses_all why q i = record { reply = Err (because (why i) 0); left = (q i).left }

-- "a run that returns the same ball each time"
abbrev pub same_ball : Ball → Program ball_kind → Program ball_kind
same_ball b q i =
    let old = i.held.output in
    let centres = over (replicate (asked i) b.centre) old.centres in
    let margins = over (replicate (asked i) b.margin) old.margins in
    record { reply = (q i).reply; left = lent ball_kind (q i).left.work (ball_lists centres margins) }

-- "a run that copies its readings out"
abbrev pub copies_readings : Program plain_kind → Program plain_kind
copies_readings q i =
    let outputs = over (take (asked i) i.readings) i.held.output in
    record { reply = (q i).reply; left = lent plain_kind (q i).left.work outputs }

-- the inputs, what the first instruction makes of them, and zeros
abbrev pub first_then_zeros : Formula → List ℤ → List ℤ
first_then_zeros f xs =
    let first = made_by (run (plain_rule f.header.scale) (pos 0) (take 1 f.program) xs) in
    over first (replicate (places f.header) (pos 0))

-- "one that carries out the first instruction and only fills in the rest"
abbrev pub first_only : Program plain_kind → Program plain_kind
first_only q i =
    let f = meant i.bytes in
    let values = first_then_zeros f i.readings in
    let outputs = map (λ o. get_or values o (pos 0)) f.results in
    let left = lent plain_kind (over values i.held.work) (over outputs i.held.output) in
    record { reply = (q i).reply; left = left }

-- request c, "for the lowest bad reading": a run that tells reading 1, for whatever reason, as one does that tells the
-- highest bad reading, or a negative margin before an earlier reading's reach
abbrev pub tells_second : (Input ball_kind → Refusal) → Program ball_kind → Program ball_kind
tells_second why q i = record { reply = Err (because (why i) 1); left = (q i).left }
