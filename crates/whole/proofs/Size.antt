-- The size of a signed number, |z|, which the kit names `nat_abs`: of a sum, a difference, a product, and of an expression whose variables
-- are bounded. Assumes nothing.
use mathlib.Core.Path.{◌≡◌, refl, sym, ◌∙◌, ap, subst}
use mathlib.Core.Bool.{Bool, true, false, cond}
use mathlib.Core.List.{List, [], ◌∷◌}
use Prim.Native.Nat.{ℕ, zero, suc, ◌+◌, ◌-◌, ◌*◌, ◌≤◌, ◌<◌, zero-le}
use native.Mathlib.Nat.{le_refl, le_trans, le_of_eq, mul-le-mul, add-le-add}
use native.Mathlib.Omega.{arith}
use lib.Dec.{T, ltb, ltb→lt}
use lib.IntN.{ℤ, pos, negsuc, neg_ℤ, nat_abs, sub_ℕ, ◌+ℤ◌, ◌-ℤ◌, ◌*ℤ◌, neg_ℤ-neg_ℤ, neg_ℤ-+ℤ, +ℤ_comm, +ℤ_idr, -ℤ-+ℤ_cancel}
use lib.ListN.{get_or}
use lib.Signed.{mag}
use Rattle.whole.proofs.Cases.{no_suc}
use Rattle.whole.proofs.Ring.{Expr, var, lit, neg, ◌⊕◌, ◌⊗◌, worth}

pub size_neg : (z : ℤ) → nat_abs (neg_ℤ z) ≡ nat_abs z
size_neg (pos zero) = refl
size_neg (pos (suc n)) = refl
size_neg (negsuc n) = refl

pub size_mul : (x y : ℤ) → nat_abs (x *ℤ y) ≡ nat_abs x * nat_abs y
size_mul (pos a) (pos b) = refl
size_mul (pos a) (negsuc b) = size_neg (pos (a * suc b))
size_mul (negsuc a) (pos b) = size_neg (pos (suc a * b))
size_mul (negsuc a) (negsuc b) = refl

-- two natural numbers that are within n of one another
size_subℕ : (a b : ℕ) {n : ℕ} → a ≤ b + n → b ≤ a + n → nat_abs (sub_ℕ a b) ≤ n
size_subℕ a b {n} ha hb = by_order (ltb a b) (ltb→lt a b)
  where
    by_order : (t : Bool) → (T t → a < b) → nat_abs (cond t (negsuc (b - suc a)) (pos (a - b))) ≤ n
    by_order true h = let l : a < b = h tt in omega arith
    by_order false h = omega arith

pub size_add : (x y : ℤ) → nat_abs (x +ℤ y) ≤ nat_abs x + nat_abs y
size_add (pos a) (pos b) = le_refl (a + b)
size_add (pos a) (negsuc b) = size_subℕ a (suc b) (omega arith) (omega arith)
size_add (negsuc a) (pos b) = size_subℕ b (suc a) (omega arith) (omega arith)
size_add (negsuc a) (negsuc b) = omega arith

pub size_sub : (x y : ℤ) → nat_abs (x -ℤ y) ≤ nat_abs x + nat_abs y
size_sub x y = subst (λ (n : ℕ). nat_abs (x -ℤ y) ≤ nat_abs x + n) (size_neg y) (size_add x (neg_ℤ y))

pub size_sub_comm : (x y : ℤ) → nat_abs (x -ℤ y) ≡ nat_abs (y -ℤ x)
size_sub_comm x y =
    sym (size_neg (x -ℤ y)) ∙ ap nat_abs (neg_ℤ-+ℤ x (neg_ℤ y) ∙ ap (λ (z : ℤ). neg_ℤ x +ℤ z) (neg_ℤ-neg_ℤ y) ∙ +ℤ_comm (neg_ℤ x) y)

-- what lies within n of y is at most |y| + n
pub size_near : (x y : ℤ) {n : ℕ} → nat_abs (x -ℤ y) ≤ n → nat_abs x ≤ nat_abs y + n
size_near x y {n} h =
    subst (λ (z : ℤ). nat_abs z ≤ nat_abs y + n) (-ℤ-+ℤ_cancel x y) (omega (arith, size_add (x -ℤ y) y))

pub size_gap : (a b : ℕ) {n : ℕ} → a ≤ b + n → b ≤ a + n → nat_abs (pos a -ℤ pos b) ≤ n
size_gap a zero {n} ha hb = subst (λ (z : ℤ). nat_abs z ≤ n) (sym (+ℤ_idr (pos a))) (omega arith)
size_gap a (suc b) ha hb = size_subℕ a (suc b) ha hb

-- a number that equals another is bounded as that is
pub size_by : {z w : ℤ} {n : ℕ} → z ≡ w → nat_abs w ≤ n → nat_abs z ≤ n
size_by {n} e l = subst (λ (v : ℤ). nat_abs v ≤ n) (sym e) l

pub size_zero : (z : ℤ) → nat_abs z ≡ 0 → z ≡ pos 0
size_zero (pos n) e = ap pos e
size_zero (negsuc n) e = absurd (no_suc (sym e))

pub mag_size : (z : ℤ) → mag z ≤ nat_abs z
mag_size (pos n) = le_refl n
mag_size (negsuc n) = omega arith

-- ---- an expression is bounded by the same expression in its variables' bounds

abbrev pub bound : List ℕ → Expr → ℕ
bound β (var i) = get_or β i 0
bound β (lit z) = nat_abs z
bound β (neg a) = bound β a
bound β (a ⊕ b) = bound β a + bound β b
bound β (a ⊗ b) = bound β a * bound β b

-- each value's size is at most the bound beside it
pub data Within : List ℤ → List ℕ → Type 0 where
  none : Within [] []
  more : {z : ℤ} {n : ℕ} {ρ : List ℤ} {β : List ℕ} → nat_abs z ≤ n → Within ρ β → Within (z ∷ ρ) (n ∷ β)

within_at : {ρ : List ℤ} {β : List ℕ} → Within ρ β → (i : ℕ) → nat_abs (get_or ρ i (pos 0)) ≤ get_or β i 0
within_at none i = zero-le
within_at (more h w) zero = h
within_at (more h w) (suc i) = within_at w i

pub bounded : {ρ : List ℤ} {β : List ℕ} → Within ρ β → (e : Expr) → nat_abs (worth ρ e) ≤ bound β e
bounded w (var i) = within_at w i
bounded w (lit z) = le_refl (nat_abs z)
bounded {ρ} {β} w (neg a) = subst (λ (n : ℕ). n ≤ bound β a) (sym (size_neg (worth ρ a))) (bounded w a)
bounded {ρ} w (a ⊕ b) = le_trans (size_add (worth ρ a) (worth ρ b)) (add-le-add (bounded w a) (bounded w b))
bounded {ρ} w (a ⊗ b) = le_trans (le_of_eq (size_mul (worth ρ a) (worth ρ b))) (mul-le-mul (bounded w a) (bounded w b))
