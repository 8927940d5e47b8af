-- The ring laws of ℤ that the kit's `lib.IntN` lacks: distributivity and the product's associativity. Assumes nothing.
use mathlib.Core.Path.{◌≡◌, sym, ◌∙◌, ap}
use Prim.Native.Nat.{zero, suc}
use lib.IntN.{ℤ, pos, negsuc, suc_ℤ, pred_ℤ, neg_ℤ, ◌+ℤ◌, ◌-ℤ◌, ◌*ℤ◌, suc_ℤ-+ℤ, pred_ℤ-+ℤ, suc_ℤ-*ℤ, pred_ℤ-*ℤ, +ℤ_assoc, +ℤ_comm, +ℤ_idl, +ℤ_invl, +ℤ-neg_ℤ_cancel, zero-*ℤ, *ℤ_comm, *ℤ-one, one}

swap_right : (a b c : ℤ) → (a +ℤ b) +ℤ c ≡ (a +ℤ c) +ℤ b
swap_right a b c = +ℤ_assoc a b c ∙ ap (λ (x : ℤ). a +ℤ x) (+ℤ_comm b c) ∙ sym (+ℤ_assoc a c b)

-- what holds at 0 and moves by one either way holds everywhere
by_ones : (P : ℤ → Type 0) → P (pos zero) → ((z : ℤ) → P z → P (suc_ℤ z)) → ((z : ℤ) → P z → P (pred_ℤ z)) → (z : ℤ) → P z
by_ones P base up down (pos zero) = base
by_ones P base up down (pos (suc n)) = up (pos n) (by_ones P base up down (pos n))
by_ones P base up down (negsuc zero) = down (pos zero) base
by_ones P base up down (negsuc (suc n)) = down (negsuc n) (by_ones P base up down (negsuc n))

pub add_mulℤ : (a b c : ℤ) → (a +ℤ b) *ℤ c ≡ a *ℤ c +ℤ b *ℤ c
add_mulℤ a b c = by_ones (λ (z : ℤ). (z +ℤ b) *ℤ c ≡ z *ℤ c +ℤ b *ℤ c) base up down a
  where
    base : (pos zero +ℤ b) *ℤ c ≡ pos zero *ℤ c +ℤ b *ℤ c
    base = ap (λ (x : ℤ). x *ℤ c) (+ℤ_idl b) ∙ sym (ap (λ (x : ℤ). x +ℤ b *ℤ c) (zero-*ℤ c) ∙ +ℤ_idl (b *ℤ c))

    up : (z : ℤ) → (z +ℤ b) *ℤ c ≡ z *ℤ c +ℤ b *ℤ c → (suc_ℤ z +ℤ b) *ℤ c ≡ suc_ℤ z *ℤ c +ℤ b *ℤ c
    up z h =
        ap (λ (x : ℤ). x *ℤ c) (suc_ℤ-+ℤ z b) ∙ suc_ℤ-*ℤ (z +ℤ b) c ∙ ap (λ (x : ℤ). x +ℤ c) h
        ∙ swap_right (z *ℤ c) (b *ℤ c) c ∙ sym (ap (λ (x : ℤ). x +ℤ b *ℤ c) (suc_ℤ-*ℤ z c))

    down : (z : ℤ) → (z +ℤ b) *ℤ c ≡ z *ℤ c +ℤ b *ℤ c → (pred_ℤ z +ℤ b) *ℤ c ≡ pred_ℤ z *ℤ c +ℤ b *ℤ c
    down z h =
        ap (λ (x : ℤ). x *ℤ c) (pred_ℤ-+ℤ z b) ∙ pred_ℤ-*ℤ (z +ℤ b) c ∙ ap (λ (x : ℤ). x -ℤ c) h
        ∙ swap_right (z *ℤ c) (b *ℤ c) (neg_ℤ c) ∙ sym (ap (λ (x : ℤ). x +ℤ b *ℤ c) (pred_ℤ-*ℤ z c))

pub mul_addℤ : (a b c : ℤ) → a *ℤ (b +ℤ c) ≡ a *ℤ b +ℤ a *ℤ c
mul_addℤ a b c =
    *ℤ_comm a (b +ℤ c) ∙ add_mulℤ b c a ∙ ap (λ (x : ℤ). x +ℤ c *ℤ a) (*ℤ_comm b a) ∙ ap (λ (x : ℤ). a *ℤ b +ℤ x) (*ℤ_comm c a)

pub mul_oneℤ : (z : ℤ) → z *ℤ pos 1 ≡ z
unfolding one
mul_oneℤ z = *ℤ-one z

pub one_mulℤ : (z : ℤ) → pos 1 *ℤ z ≡ z
one_mulℤ z = *ℤ_comm (pos 1) z ∙ mul_oneℤ z

-- a negated factor negates the product
pub neg_mulℤ : (a b : ℤ) → neg_ℤ a *ℤ b ≡ neg_ℤ (a *ℤ b)
neg_mulℤ a b =
    sym (+ℤ-neg_ℤ_cancel (neg_ℤ a *ℤ b) (a *ℤ b))
    ∙ ap (λ (x : ℤ). x -ℤ a *ℤ b) (sym (add_mulℤ (neg_ℤ a) a b) ∙ ap (λ (x : ℤ). x *ℤ b) (+ℤ_invl a) ∙ zero-*ℤ b)
    ∙ +ℤ_idl (neg_ℤ (a *ℤ b))

pub mul_assocℤ : (a b c : ℤ) → (a *ℤ b) *ℤ c ≡ a *ℤ (b *ℤ c)
mul_assocℤ a b c = by_ones (λ (z : ℤ). (z *ℤ b) *ℤ c ≡ z *ℤ (b *ℤ c)) base up down a
  where
    base : (pos zero *ℤ b) *ℤ c ≡ pos zero *ℤ (b *ℤ c)
    base = ap (λ (x : ℤ). x *ℤ c) (zero-*ℤ b) ∙ zero-*ℤ c ∙ sym (zero-*ℤ (b *ℤ c))

    up : (z : ℤ) → (z *ℤ b) *ℤ c ≡ z *ℤ (b *ℤ c) → (suc_ℤ z *ℤ b) *ℤ c ≡ suc_ℤ z *ℤ (b *ℤ c)
    up z h = ap (λ (x : ℤ). x *ℤ c) (suc_ℤ-*ℤ z b) ∙ add_mulℤ (z *ℤ b) b c ∙ ap (λ (x : ℤ). x +ℤ b *ℤ c) h ∙ sym (suc_ℤ-*ℤ z (b *ℤ c))

    down : (z : ℤ) → (z *ℤ b) *ℤ c ≡ z *ℤ (b *ℤ c) → (pred_ℤ z *ℤ b) *ℤ c ≡ pred_ℤ z *ℤ (b *ℤ c)
    down z h =
        ap (λ (x : ℤ). x *ℤ c) (pred_ℤ-*ℤ z b) ∙ add_mulℤ (z *ℤ b) (neg_ℤ b) c
        ∙ ap (λ (x : ℤ). (z *ℤ b) *ℤ c +ℤ x) (neg_mulℤ b c) ∙ ap (λ (x : ℤ). x +ℤ neg_ℤ (b *ℤ c)) h ∙ sym (pred_ℤ-*ℤ z (b *ℤ c))
