-- Reading back allows one outcome: its answer, and every place of every lent list. Assumes nothing.
use mathlib.Core.Path.{◌≡◌, sym, ◌∙◌}
use mathlib.Core.List.{List}
use Prim.Native.Nat.{ℕ}
use Rattle.checking.specs.CheckAnswers.{Checked}
use Rattle.checking.specs.CheckAnswers.{check_answer}
use Rattle.checking.proofs.OneCheck.{check_one_outcome}
use Rattle.packing.specs.Raw.{Parts}
use Rattle.packing.specs.PackAnswers.{Unpacks}

pub unpacks_one_outcome : {s : List ℕ} {old new₁ new₂ : Parts} (r t : Checked) → Unpacks s old new₁ (check_answer r)
    → Unpacks s old new₂ (check_answer t) → (r ≡ t) × (new₁ ≡ new₂)
unpacks_one_outcome r t a b = (
  check_one_outcome r t (a.says ∙ sym b.says),
  λ i. record {
    codes = (a.writes_codes ∙ sym b.writes_codes) i;
    firsts = (a.writes_firsts ∙ sym b.writes_firsts) i;
    seconds = (a.writes_seconds ∙ sym b.writes_seconds) i;
    outputs = (a.writes_outputs ∙ sym b.writes_outputs) i;
  },
)
