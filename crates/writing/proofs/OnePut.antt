-- Putting a number allows one outcome: the writer, and every place of the list. Assumes nothing.
use mathlib.Core.Path.{◌≡◌, sym, ◌∙◌}
use mathlib.Core.List.{List}
use Prim.Native.Nat.{ℕ}
use Rattle.lists.proofs.OneWriting.{wrote_one_outcome}
use Rattle.writing.specs.declared.Writer.{Writer}
use Rattle.writing.specs.Pending.{Puts}

pub puts_one_outcome : {w r t : Writer} {width n : ℕ} {old new₁ new₂ : List ℕ} → Puts w width n old new₁ r
    → Puts w width n old new₂ t → (r ≡ t) × (new₁ ≡ new₂)
puts_one_outcome a b =
    let o = wrote_one_outcome a.wrote b.wrote in
    (λ i. record { at = o.0 i; count = (a.counts ∙ sym b.counts) i; held = (a.holds ∙ sym b.holds) i }, o.1)
