-- Two outcomes that the tests of readings allow are equal. Assumes nothing.
use mathlib.Core.Path.{◌≡◌, sym, ◌∙◌}
use Prim.Native.Nat.{ℕ}
use Rattle.refusals.specs.Places.{Verdict}
use Rattle.refusals.proofs.OneReply.{one_verdict}
use Rattle.formulas.specs.Readings.{Reading, Brought}
use Rattle.readings.specs.Judges.{Judges, JudgesAll}

pub judges_one_outcome : {g : Reading} {at : ℕ} {v w : Verdict} → Judges g at v → Judges g at w → v ≡ w
judges_one_outcome {v = v} {w = w} j k = one_verdict v w (j.says ∙ sym k.says)

pub judges_all_one_outcome : {m : ℕ} {b : Brought} {v w : Verdict} → JudgesAll m b v → JudgesAll m b w → v ≡ w
judges_all_one_outcome {v = v} {w = w} j k = one_verdict v w (j.says ∙ sym k.says)
