-- From arithmetic on i64 to arithmetic on ℤ. The machine reads each part of an expression back from 64 bits; where every part is below 2^63
-- that changes nothing, and a bound on every part is computed from bounds on the variables. Assumes nothing.
use mathlib.Core.Path.{◌≡◌, refl, sym, ◌∙◌, ap, ap₂, subst}
use mathlib.Core.Bool.{Bool, true, false, ◌&&◌}
use mathlib.Core.List.{List}
use Prim.Native.Nat.{ℕ, ◌*◌, ◌%◌, ◌^◌, ◌<◌}
use native.Mathlib.Nat.{lt_of_le_of_lt, one-mul}
use native.Mathlib.Omega.{arith}
use lib.Dec.{T, ltb, ltb→lt, lit<}
use lib.IntN.{ℤ, pos, neg_ℤ, nat_abs, ◌+ℤ◌, ◌*ℤ◌}
use lib.ListN.{get_or}
use lib.Pow.{shl_exact}
use lib.Signed.{mag, shr_z, mag_shr}
use mir.Syntax.{w64}
use mir.Val.{SFits, to_z, of_z}
use mir.ValLaws.{to_z-of_z, sfits_le}
use Rattle.whole.proofs.Ring.{Expr, var, lit, neg, ◌⊕◌, ◌⊗◌, worth}
use Rattle.whole.proofs.Size.{Within, bound, bounded, mag_size}

-- a number as the machine reads it back from 64 bits
abbrev pub back : ℤ → ℤ
back z = to_z w64 (of_z w64 z)

pub fits_size : {z : ℤ} → nat_abs z < 2 ^ 63 → SFits w64 z
fits_size {z} h = record { sfits = lt_of_le_of_lt (mag_size z) h }

pub back_is : (z : ℤ) → nat_abs z < 2 ^ 63 → back z ≡ z
back_is z h = to_z-of_z w64 z (fits_size h)

-- an expression as the machine computes it
abbrev pub held : List ℤ → Expr → ℤ
held ρ (var i) = back (get_or ρ i (pos 0))
held ρ (lit z) = back z
held ρ (neg a) = neg_ℤ (held ρ a)
held ρ (a ⊕ b) = back (held ρ a +ℤ held ρ b)
held ρ (a ⊗ b) = back (held ρ a *ℤ held ρ b)

-- every part's bound is below 2^63
abbrev pub small : List ℕ → Expr → Bool
small β (var i) = ltb (bound β (var i)) (2 ^ 63)
small β (lit z) = ltb (nat_abs z) (2 ^ 63)
small β (neg a) = small β a
small β (a ⊕ b) = ltb (bound β (a ⊕ b)) (2 ^ 63) && (small β a && small β b)
small β (a ⊗ b) = ltb (bound β (a ⊗ b)) (2 ^ 63) && (small β a && small β b)

-- the three tests of a sum or a product
tests : (x y z : Bool) → T (x && (y && z)) → T x × T y × T z
tests true true true t = (tt, tt, tt)
tests true true false t = absurd t
tests true false z t = absurd t
tests false y z t = absurd t

below : {ρ : List ℤ} {β : List ℕ} → Within ρ β → (e : Expr) → T (ltb (bound β e) (2 ^ 63)) → nat_abs (worth ρ e) < 2 ^ 63
below {ρ} {β} w e t = lt_of_le_of_lt (bounded w e) (ltb→lt (bound β e) (2 ^ 63) t)

parts : (β : List ℕ) (a b : Expr) (x : Bool) → T (x && (small β a && small β b)) → T x × T (small β a) × T (small β b)
parts β a b x t = tests x (small β a) (small β b) t

pub held_is : {ρ : List ℤ} {β : List ℕ} → Within ρ β → (e : Expr) → T (small β e) → held ρ e ≡ worth ρ e
held_is w (var i) t = back_is _ (below w (var i) t)
held_is w (lit z) t = back_is z (ltb→lt (nat_abs z) (2 ^ 63) t)
held_is w (neg a) t = ap neg_ℤ (held_is w a t)
held_is {ρ} {β} w (a ⊕ b) t =
    let p = parts β a b (ltb (bound β (a ⊕ b)) (2 ^ 63)) t in
    ap back (ap₂ (λ (x y : ℤ). x +ℤ y) (held_is w a p.1) (held_is w b p.2)) ∙ back_is _ (below w (a ⊕ b) p.0)
held_is {ρ} {β} w (a ⊗ b) t =
    let p = parts β a b (ltb (bound β (a ⊗ b)) (2 ^ 63)) t in
    ap back (ap₂ (λ (x y : ℤ). x *ℤ y) (held_is w a p.1) (held_is w b p.2)) ∙ back_is _ (below w (a ⊗ b) p.0)

-- the same expression before the machine keeps it
abbrev pub made : List ℤ → Expr → ℤ
made ρ (var i) = get_or ρ i (pos 0)
made ρ (lit z) = z
made ρ (neg a) = neg_ℤ (held ρ a)
made ρ (a ⊕ b) = held ρ a +ℤ held ρ b
made ρ (a ⊗ b) = held ρ a *ℤ held ρ b

made_is : {ρ : List ℤ} {β : List ℕ} → Within ρ β → (e : Expr) → T (small β e) → made ρ e ≡ worth ρ e
made_is w (var i) t = refl
made_is w (lit z) t = refl
made_is w (neg a) t = ap neg_ℤ (held_is w a t)
made_is {ρ} {β} w (a ⊕ b) t =
    let p = parts β a b (ltb (bound β (a ⊕ b)) (2 ^ 63)) t in
    ap₂ (λ (x y : ℤ). x +ℤ y) (held_is w a p.1) (held_is w b p.2)
made_is {ρ} {β} w (a ⊗ b) t =
    let p = parts β a b (ltb (bound β (a ⊗ b)) (2 ^ 63)) t in
    ap₂ (λ (x y : ℤ). x *ℤ y) (held_is w a p.1) (held_is w b p.2)

top : (β : List ℕ) (e : Expr) → T (small β e) → T (ltb (bound β e) (2 ^ 63))
top β (var i) t = t
top β (lit z) t = t
top β (neg a) t = top β a t
top β (a ⊕ b) t = (parts β a b (ltb (bound β (a ⊕ b)) (2 ^ 63)) t).0
top β (a ⊗ b) t = (parts β a b (ltb (bound β (a ⊗ b)) (2 ^ 63)) t).0

pub worth_fits : {ρ : List ℤ} {β : List ℕ} → Within ρ β → (e : Expr) → T (small β e) → SFits w64 (worth ρ e)
worth_fits {ρ} {β} w e t = fits_size (below w e (top β e t))

-- what the machine makes fits 64 bits: the answer to an overflow need
pub fits : {ρ : List ℤ} {β : List ℕ} → Within ρ β → (e : Expr) → T (small β e) → SFits w64 (made ρ e)
fits {ρ} {β} w e t = subst (λ (z : ℤ). SFits w64 z) (sym (made_is w e t)) (worth_fits w e t)

-- a shift down of what fits fits too
pub back_shr : (z : ℤ) (q : ℕ) → SFits w64 z → back (shr_z z q) ≡ shr_z z q
back_shr z q f = to_z-of_z w64 (shr_z z q) (sfits_le (mag_shr z q) f)

-- one, shifted up by less than the width
pub one_shifted : (k : ℕ) → k < 64 → (1 * 2 ^ k) % 2 ^ 64 ≡ 2 ^ k
one_shifted k l = shl_exact 1 k 64 (lit< tt) (omega arith) ∙ one-mul (2 ^ k)

-- the size of a number that was kept
pub size_back : (z : ℤ) → mag z < 2 ^ 63 → nat_abs (back z) ≡ nat_abs z
size_back z l = ap nat_abs (to_z-of_z w64 z (record { sfits = l }))
