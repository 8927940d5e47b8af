-- Sums, differences and negations of centres: they fit 64 bits, and the machine holds what the rule says. Assumes nothing.
use mathlib.Core.Path.{◌≡◌, ◌∙◌}
use mathlib.Core.List.{[], ◌∷◌}
use Prim.Native.Nat.{◌+◌, ◌≤◌}
use native.Mathlib.Nat.{le_trans, le-add_right}
use lib.IntN.{ℤ, pos, neg_ℤ, nat_abs, +ℤ_idl}
use Rattle.rules.specs.Numbers.{M}
use Rattle.rules.specs.declared.Ball.{Ball}
use Rattle.rules.specs.declared.Matryoshka.{Matryoshka}
use Rattle.rules.specs.Values.{IsBall, IsMatryoshka}
use Rattle.whole.proofs.Ring.{Expr, lit, ◌⊖◌, x₀}
use Rattle.whole.proofs.Size.{Within, more, none}
use Rattle.whole.proofs.Machine.{held, held_is}

pub one : (a : ℤ) → nat_abs a ≤ M → Within (a ∷ []) (M ∷ [])
one a p = more p none

pub two : (a b : ℤ) → nat_abs a ≤ M → nat_abs b ≤ M → Within (a ∷ b ∷ []) (M ∷ M ∷ [])
two a b p q = more p (more q none)

pub centre_size : (b : Ball) → IsBall b → nat_abs b.centre ≤ M
centre_size b p = le_trans (le-add_right (nat_abs b.centre) b.margin) p

pub centres : (x y : Ball) → IsBall x → IsBall y → Within (x.centre ∷ y.centre ∷ []) (M ∷ M ∷ [])
centres x y p q = two x.centre y.centre (centre_size x p) (centre_size y q)

pub middle_size : (m : Matryoshka) → IsMatryoshka m → nat_abs m.middle ≤ M
middle_size m p = le_trans (le_trans (le-add_right (nat_abs m.middle) m.stray) (le-add_right (nat_abs m.middle + m.stray) m.margin)) p

pub middles : (x y : Matryoshka) → IsMatryoshka x → IsMatryoshka y → Within (x.middle ∷ y.middle ∷ []) (M ∷ M ∷ [])
middles x y p q = two x.middle y.middle (middle_size x p) (middle_size y q)

-- 0 − a, as the machine negates
abbrev pub negated : Expr
negated = lit (pos 0) ⊖ x₀

pub negated_is : (a : ℤ) → nat_abs a ≤ M → held (a ∷ []) negated ≡ neg_ℤ a
negated_is a p = held_is (one a p) negated tt ∙ +ℤ_idl (neg_ℤ a)
