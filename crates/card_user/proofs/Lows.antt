-- The card's numbers, none over M, in the code's shape. Assumes nothing.
use mathlib.Core.Path.{◌≡◌, refl, sym, ◌∙◌, ap, ap₂}
use mathlib.Core.Bool.{Bool, true, false, ◌&&◌}
use mathlib.Core.List.{List, [], ◌∷◌}
use Prim.Native.Nat.{ℕ, ◌*◌}
use native.Mathlib.Omega.{arith}
use borrow.Author.Tests.{leb-true, leb-false, le-leb, lt-leb}
use lib.Dec.{leb}
use lib.ListN.{take}
use Rattle.std.specs.Prelude.{max}
use Rattle.std.specs.List.{list_all}
use Rattle.rules.specs.Numbers.{M}
use Rattle.cards.specs.Slopes.{largest}
use Rattle.cards.proofs.Tests.{first_fails}
use Rattle.card_user.specs.declared.Card.{Card}
use Rattle.card_user.specs.Tests.{IsLow}

-- each is at most M where the largest is
all_low : (l : List ℕ) → list_all (λ x. leb x M) l ≡ leb (largest l) M
all_low [] = refl
all_low (x ∷ l) = ap (λ t. leb x M && t) (all_low l) ∙ by_tests (leb x M) (leb (largest l) M) refl refl
  where
    by_tests : (a b : Bool) → leb x M ≡ a → leb (largest l) M ≡ b → leb x M && leb (largest l) M ≡ leb (max x (largest l)) M
    by_tests true true p q =
        ap₂ ◌&&◌ p q ∙ sym (le-leb (max x (largest l)) M (omega (arith, leb-true x M p, leb-true (largest l) M q)))
    by_tests true false p q =
        ap₂ ◌&&◌ p q ∙ sym (lt-leb (max x (largest l)) M (omega (arith, leb-false (largest l) M q)))
    by_tests false b p q =
        ap (λ t. t && leb (largest l) M) p ∙ sym (lt-leb (max x (largest l)) M (omega (arith, leb-false x M p)))

module _ {c : Card} {t : Bool} (static_told : t ≡ list_all (λ x. leb x M) (take c.outputs c.static_margins.now)) where
  pub static_large : t ≡ false → IsLow c t
  static_large e = record { is = e ∙ sym (first_fails _ (sym (all_low (take c.outputs c.static_margins.now)) ∙ sym static_told ∙ e)) }

  pub by_slopes : {u : Bool} → t ≡ true → u ≡ list_all (λ x. leb x M) (take (c.outputs * c.inputs) c.slopes.now) → IsLow c u
  by_slopes {u} e told =
      record {
        is =
            told ∙ all_low (take (c.outputs * c.inputs) c.slopes.now)
            ∙ sym
            (ap (λ a. a && leb (largest (take (c.outputs * c.inputs) c.slopes.now)) M)
            (sym (all_low (take c.outputs c.static_margins.now)) ∙ sym static_told ∙ e));
      }
