-- Two outcomes that the contract of `answer` allows are equal: how much was written, and every place of the list.
-- Assumes nothing.
use mathlib.Core.Path.{◌≡◌}
use mathlib.Core.List.{List}
use Prim.Native.Nat.{ℕ}
use Rattle.lists.proofs.OneWriting.{wrote_one_outcome}
use Rattle.text.specs.Prints.{Prints}

pub answer_one_outcome : {s old out₁ out₂ : List ℕ} {r t : ℕ} → Prints s old out₁ r → Prints s old out₂ t
    → (r ≡ t) × (out₁ ≡ out₂)
answer_one_outcome k l = wrote_one_outcome k.writes l.writes
