-- Two tests of order that hold together are one. Assumes nothing.
use mathlib.Core.Path.{◌≡◌, refl, sym, ◌∙◌}
use mathlib.Core.Bool.{Bool, true, false}
use Prim.Native.Nat.{ℕ, ◌≤◌}
use lib.Dec.{leb}
use borrow.Author.Tests.{leb-true, le-leb}

pub leb_same : (a b c d : ℕ) → (a ≤ b → c ≤ d) → (c ≤ d → a ≤ b) → leb a b ≡ leb c d
leb_same a b c d f g = by_test (leb a b) refl
  where
    by_test : (t : Bool) → leb a b ≡ t → leb a b ≡ leb c d
    by_test true e = e ∙ sym (le-leb c d (f (leb-true a b e)))
    by_test false e = other (leb c d) refl
      where
        other : (u : Bool) → leb c d ≡ u → leb a b ≡ leb c d
        other true k = le-leb a b (g (leb-true c d k)) ∙ sym k
        other false k = e ∙ sym k
