-- Two outcomes that the tests before a run allow are equal. Assumes nothing.
use mathlib.Core.Path.{◌≡◌, sym, ◌∙◌}
use mathlib.Core.List.{List}
use Prim.Native.Nat.{ℕ}
use Rattle.refusals.specs.Places.{Verdict}
use Rattle.refusals.proofs.OneReply.{one_answer}
use Rattle.formulas.specs.declared.Header.{Header}
use Rattle.formulas.specs.Kinds.{Kind}
use Rattle.running.specs.Ready.{Start, Tests, Ready}

pub tests_one_outcome : {h : Header} {v : Verdict} {work output : ℕ} {r t : Start} → Tests h v work output r → Tests h v work output t → r ≡ t
tests_one_outcome {r = r} {t = t} j k = one_answer r t (j.answers ∙ sym k.answers)

pub ready_one_outcome : {K : Kind} {s : List ℕ} {given : K.Readings} {work output : ℕ} {r t : Start} → Ready K s given work output r
    → Ready K s given work output t → r ≡ t
ready_one_outcome {r = r} {t = t} j k = one_answer r t (j.answers ∙ sym k.answers)
