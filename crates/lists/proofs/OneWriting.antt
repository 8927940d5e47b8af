-- Writing a text into a list allows one outcome. Assumes nothing.
use mathlib.Core.Path.{◌≡◌, sym, ◌∙◌}
use mathlib.Core.List.{List}
use Prim.Native.Nat.{ℕ}
use Rattle.lists.specs.Written.{Wrote}

pub wrote_one_outcome : {text old now₁ now₂ : List ℕ} {at r t : ℕ} → Wrote text at old now₁ r → Wrote text at old now₂ t
    → (r ≡ t) × (now₁ ≡ now₂)
wrote_one_outcome k l = (k.after ∙ sym l.after, k.holds ∙ sym l.holds)
