-- `is_whole` meets its contract. Assumes nothing.
use mathlib.Core.Path.{◌≡◌, ◌∙◌, ap}
use Prim.Native.Nat.{ℕ, ◌+◌, ◌%◌}
use borrow.Author.Rules.{rules}
use lib.Dec.{eqb}
use lib.IntN.{nat_abs}
use Rattle.whole.proofs.Machine.{back}
use Rattle.rules.specs.declared.Matryoshka.{Matryoshka}
use Rattle.rules.specs.Numbers.{Q}
use Rattle.rules.specs.Values.{IsMatryoshka}
use Rattle.rules.specs.Matryoshki.{is_whole}
use Rattle.rules.proofs.Whole.{whole_by_sum}
use Rattle.rounding.proofs.Linear.{middle_size}
use Rattle.rounding.proofs.Products.{kept}
use Rattle.matryoshki.proofs.steps.is_whole.Statement.{statement}
use Rattle.matryoshki.proofs.steps.is_whole.Tie as tie

whole_told : (F : ℕ) (x : Matryoshka) {size over : ℕ} → IsMatryoshka x → size ≡ nat_abs (back x.middle) → over ≡ size % Q F
    → eqb (x.stray + over) 0 ≡ is_whole F x
whole_told F x legal e f =
    ap (λ (n : ℕ). eqb (x.stray + n) 0) (f ∙ ap (λ (n : ℕ). n % Q F) (e ∙ ap nat_abs (kept x.middle (middle_size x legal))))
    ∙ whole_by_sum F x

pub is_whole_spec : {M : Type 1} → statement M
is_whole_spec = tie.close (tie.spec (λ c κs. search rules) (λ c κs. search rules) (λ c. search rules) (λ c. search whole_told))
