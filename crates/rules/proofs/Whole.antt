-- A whole factor, with stray 0 and a middle that is a multiple of Q: the centres that it covers are its middle, so the product is a multiple of Q and
-- rounding loses nothing. Assumes nothing.
use mathlib.Core.Path.{◌≡◌, refl, sym, ◌∙◌, ap, ap₂, subst}
use mathlib.Core.Bool.{Bool, true, false, cond, ◌&&◌, ◌||◌}
use mathlib.Core.List.{[], ◌∷◌}
use mathlib.Core.Logic.{◌⊎◌, inl, inr}
use Prim.Native.Nat.{ℕ, suc, ◌+◌, ◌*◌, ◌/◌, ◌%◌, ◌≤◌}
use native.Mathlib.Nat.{div-add-mod'}
use native.Mathlib.Omega.{arith}
use borrow.Author.Tests.{eqb-true, eqb-false, eq-eqb, ne_eqb}
use lib.Dec.{eqb}
use lib.IntN.{ℤ, pos, negsuc, neg_ℤ, nat_abs, ◌+ℤ◌, ◌-ℤ◌, ◌*ℤ◌, -ℤ-+ℤ_cancel, +ℤ_idl}
use Rattle.rules.specs.declared.Ball.{Ball}
use Rattle.rules.specs.declared.Matryoshka.{Matryoshka}
use Rattle.rules.specs.Numbers.{Q, h, Round}
use Rattle.rules.specs.Values.{Covers}
use Rattle.rules.specs.Matryoshki.{is_whole, rounding_doubt}
use Rattle.rules.proofs.Rounding.{round_loss, round_exact}
use Rattle.whole.proofs.Cases.{both, never}
use Rattle.whole.proofs.Laws.{neg_mulℤ}
use Rattle.whole.proofs.Ring.{ring, ◌⊗◌, x₀, x₁, x₂}
use Rattle.whole.proofs.Size.{size_zero}

-- what the test says
pub record Whole (F : ℕ) (m : Matryoshka) : Type 0 where
  pub no_stray : m.stray ≡ 0
  pub multiple : nat_abs m.middle % Q F ≡ 0

pub is_whole_then : (F : ℕ) (m : Matryoshka) → is_whole F m ≡ true → Whole F m
unfolding is_whole
is_whole_then F m e = let t = both _ _ e in record { no_stray = eqb-true _ _ t.0; multiple = eqb-true _ _ t.1 }

pub then_is_whole : {F : ℕ} {m : Matryoshka} → Whole F m → is_whole F m ≡ true
unfolding is_whole
then_is_whole w = ap₂ ◌&&◌ (eq-eqb _ _ w.no_stray) (eq-eqb _ _ w.multiple)

-- both tests in one, of a sum
pub whole_by_sum : (F : ℕ) (m : Matryoshka) → eqb (m.stray + nat_abs m.middle % Q F) 0 ≡ is_whole F m
unfolding is_whole
whole_by_sum F m = by_tests (eqb m.stray 0) (eqb (nat_abs m.middle % Q F) 0) refl refl
  where
    over : ℕ
    over = nat_abs m.middle % Q F

    by_tests : (t u : Bool) → eqb m.stray 0 ≡ t → eqb over 0 ≡ u → eqb (m.stray + over) 0 ≡ t && u
    by_tests true true e f = eq-eqb (m.stray + over) 0 (omega (arith, eqb-true m.stray 0 e, eqb-true over 0 f))
    by_tests true false e f = ne_eqb (m.stray + over) 0 (λ z. eqb-false over 0 f (omega arith))
    by_tests false u e f = ne_eqb (m.stray + over) 0 (λ z. eqb-false m.stray 0 e (omega arith))

-- a multiple of q by its size is one
pub multiple_of : (z : ℤ) (q : ℕ) → nat_abs z % q ≡ 0 → (k : ℤ) × (z ≡ k *ℤ pos q)
multiple_of (pos a) q e = (pos (a / q), ap pos (exact a e))
  where
    exact : (n : ℕ) → n % q ≡ 0 → n ≡ n / q * q
    exact n e = omega (arith, div-add-mod' n q)
multiple_of (negsuc a) q e = (neg_ℤ (pos (suc a / q)), ap (λ (n : ℕ). neg_ℤ (pos n)) (exact (suc a) e) ∙ sym (neg_mulℤ (pos (suc a / q)) (pos q)))
  where
    exact : (n : ℕ) → n % q ≡ 0 → n ≡ n / q * q
    exact n e = omega (arith, div-add-mod' n q)

-- a centre that a whole factor covers is its middle
pub covered_whole : {F : ℕ} {m : Matryoshka} {b : Ball} → Whole F m → Covers m b → b.centre ≡ m.middle
covered_whole {m = m} {b} w p =
    sym (-ℤ-+ℤ_cancel b.centre m.middle)
    ∙ ap (λ (z : ℤ). z +ℤ m.middle) (size_zero (b.centre -ℤ m.middle) (omega (arith, p.strays, w.no_stray)))
    ∙ +ℤ_idl m.middle

-- by cases on the two factors: one is whole and h is left out, or h stays
pub doubt_cases : (F : ℕ) (x y : Matryoshka) → (Whole F x ⊎ Whole F y) ⊎ (rounding_doubt F x y ≡ h F)
unfolding rounding_doubt
doubt_cases F x y = by_first (is_whole F x) refl
  where
    by_second : (t : Bool) → is_whole F y ≡ t → (Whole F x ⊎ Whole F y) ⊎ (cond (false || t) 0 (h F) ≡ h F)
    by_second true e = inl (inr (is_whole_then F y e))
    by_second false e = inr refl

    by_first : (t : Bool) → is_whole F x ≡ t → (Whole F x ⊎ Whole F y) ⊎ (cond (t || is_whole F y) 0 (h F) ≡ h F)
    by_first true e = inl (inl (is_whole_then F x e))
    by_first false e = by_second (is_whole F y) refl

pub doubt_left_out : (F : ℕ) (x y : Matryoshka) → Whole F x ⊎ Whole F y → rounding_doubt F x y ≡ 0
unfolding rounding_doubt
doubt_left_out F x y (inl w) = ap (λ t. cond (t || is_whole F y) 0 (h F)) (then_is_whole w)
doubt_left_out F x y (inr w) = ap (λ t. cond (is_whole F x || t) 0 (h F)) (then_is_whole w) ∙ either (is_whole F x)
  where
    either : (t : Bool) → cond (t || true) 0 (h F) ≡ 0
    either true = refl
    either false = refl

doubt_stays : (F : ℕ) (x y : Matryoshka) → is_whole F x ≡ false → is_whole F y ≡ false → rounding_doubt F x y ≡ h F
unfolding rounding_doubt
doubt_stays F x y p q = ap₂ (λ s t. cond (s || t) 0 (h F)) p q

neither : (s t : Bool) → s || t ≡ false → (s ≡ false) × (t ≡ false)
neither false false e = (refl, refl)
neither false true e = (refl, e)
neither true t e = (e, never e)

strays : (F : ℕ) (m : Matryoshka) → eqb m.stray 0 ≡ false → is_whole F m ≡ false
unfolding is_whole
strays F m e = ap (λ t. t && eqb (nat_abs m.middle % Q F) 0) e

-- as the code tests them
module _ (F : ℕ) (x y : Matryoshka) where
  pub both_stray : {n : ℕ} → eqb x.stray 0 || eqb y.stray 0 ≡ false → n ≡ h F → n ≡ rounding_doubt F x y
  both_stray e g = let s = neither _ _ e in g ∙ sym (doubt_stays F x y (strays F x s.0) (strays F y s.1))

  module _ {t u : Bool} (first : t ≡ is_whole F x) (second : u ≡ is_whole F y) where
    pub either_whole : t || u ≡ true → 0 ≡ rounding_doubt F x y
    unfolding rounding_doubt
    either_whole e = sym (ap (λ b. cond b 0 (h F)) (sym (ap₂ ◌||◌ first second) ∙ e))

    pub neither_whole : {n : ℕ} → t || u ≡ false → n ≡ h F → n ≡ rounding_doubt F x y
    unfolding rounding_doubt
    neither_whole e g = g ∙ sym (ap (λ b. cond b 0 (h F)) (sym (ap₂ ◌||◌ first second) ∙ e))

-- what rounding a product of covered centres loses is within the doubt
abbrev lost : ℕ → Ball → Ball → ℕ
lost F a b = nat_abs (a.centre *ℤ b.centre -ℤ Round F (a.centre *ℤ b.centre) *ℤ pos (Q F))

pub product_loss : (F : ℕ) {x y : Matryoshka} {a b : Ball} → Covers x a → Covers y b
    → nat_abs (a.centre *ℤ b.centre -ℤ Round F (a.centre *ℤ b.centre) *ℤ pos (Q F)) ≤ rounding_doubt F x y
product_loss F {x} {y} {a} {b} p q = by_cases (doubt_cases F x y)
  where
    first : Whole F x → lost F a b ≡ 0
    first w =
        let k = multiple_of x.middle (Q F) w.multiple in
        round_exact F (a.centre *ℤ b.centre) (k.0 *ℤ b.centre)
        (ap (λ (z : ℤ). z *ℤ b.centre) (covered_whole w p ∙ k.1) ∙ ring (k.0 ∷ pos (Q F) ∷ b.centre ∷ []) (x₀ ⊗ x₁ ⊗ x₂) (x₀ ⊗ x₂ ⊗ x₁) refl)

    second : Whole F y → lost F a b ≡ 0
    second w =
        let k = multiple_of y.middle (Q F) w.multiple in
        round_exact F (a.centre *ℤ b.centre) (a.centre *ℤ k.0)
        (ap (λ (z : ℤ). a.centre *ℤ z) (covered_whole w q ∙ k.1) ∙ ring (a.centre ∷ k.0 ∷ pos (Q F) ∷ []) (x₀ ⊗ (x₁ ⊗ x₂)) (x₀ ⊗ x₁ ⊗ x₂) refl)

    by_cases : (Whole F x ⊎ Whole F y) ⊎ (rounding_doubt F x y ≡ h F) → lost F a b ≤ rounding_doubt F x y
    by_cases (inl (inl w)) = omega (arith, first w)
    by_cases (inl (inr w)) = omega (arith, second w)
    by_cases (inr e) = subst (λ (n : ℕ). lost F a b ≤ n) (sym e) (round_loss F (a.centre *ℤ b.centre))
