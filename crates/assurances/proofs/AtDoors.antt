-- The demands 2 and 3 at the doors: what `margins_ball`, `margins_ball_records` and `margins_admit` leave with refusal 0. Assumes nothing.
use mathlib.Core.Path.{◌≡◌}
use mathlib.Core.List.{List}
use Prim.Native.Nat.{ℕ}
use Rattle.formulas.specs.Readings.{BallReadings, Domain}
use Rattle.formulas.specs.Kinds.{ball_kind, matryoshka_kind}
use Rattle.formulas.specs.Job.{Lent}
use Rattle.formulas.proofs.Lawful.{ball_lawful, matryoshka_lawful}
use Rattle.packed.specs.Meaning.{formula}
use Rattle.demands.specs.Demands.{Honest, Admitted}
use Rattle.demands.proofs.Demand2.{demand_2}
use Rattle.demands.proofs.Demand3.{demand_3}
use Rattle.replies.specs.declared.MarginsReply.{MarginsReply}
use Rattle.replies.specs.Doors.{Door}
use Rattle.replies.proofs.Telling.{door_kept}

pub honest_door : {s : List ℕ} {given : BallReadings} {old new : Lent ball_kind} {r : MarginsReply} → Door ball_kind (formula s) given old new r
    → r.refusal ≡ 0 → Honest s given new r.outputs
honest_door {s} d z = demand_2 (door_kept ball_lawful s d z)

pub admitted_door : {s : List ℕ} {d : Domain} {old new : Lent matryoshka_kind} {r : MarginsReply} → Door matryoshka_kind (formula s) d old new r
    → r.refusal ≡ 0 → Admitted s d new r.outputs
admitted_door {s} d z = demand_3 (door_kept matryoshka_lawful s d z)
