-- Rounding: Round moves by n when its argument moves by n·Q, it loses at most h, and it moves by at most Up of what its argument moves.
-- Up is at least p/Q, and no whole number between is. Assumes nothing.
use mathlib.Core.Path.{◌≡◌, refl, sym, ◌∙◌, ap, ap₂, subst}
use mathlib.Core.List.{[], ◌∷◌}
use Prim.Native.Nat.{ℕ, zero, suc, ◌+◌, ◌-◌, ◌*◌, ◌/◌, ◌%◌, ◌≤◌, ◌<◌}
use native.Mathlib.Nat.{le_refl, le_trans, le_antisymm, mul-le-mul_left, le-div_iff_mul-le, div-lt_iff_lt-mul, lt-div-mul-add, div-add-mod', mod-lt, pow-suc, add-mul}
use native.Mathlib.Omega.{arith}
use lib.IntN.{ℤ, pos, nat_abs, ◌+ℤ◌, ◌-ℤ◌, ◌*ℤ◌}
use lib.Pow.{pow_pos}
use lib.Signed.{shr_z}
use Rattle.rules.specs.Numbers.{Q, h, Round, ceiling, Up}
use Rattle.whole.proofs.Floor.{rest, rest_lt, rest_shift, floor_split, floor_unique, floor_shift}
use Rattle.whole.proofs.Ring.{ring, lit, ◌⊕◌, ◌⊖◌, ◌⊗◌, x₀, x₁, x₂, x₃, x₄}
use Rattle.whole.proofs.Size.{size_add, size_mul, size_gap}

-- h is half of Q, rounded down
pub h_half : (F : ℕ) → (h F + h F ≤ Q F) × (Q F ≤ h F + h F + 1)
unfolding h
h_half zero = omega arith
h_half (suc f) = omega (arith, pow-suc 2 f)

-- what Round leaves of p + h
abbrev remainder : ℕ → ℤ → ℕ
remainder F p = rest (p +ℤ pos (h F)) (Q F)

remainder_lt : (F : ℕ) (p : ℤ) → remainder F p < Q F
remainder_lt F p = rest_lt (p +ℤ pos (h F)) (pow_pos F)

round_split : (F : ℕ) (p : ℤ) → p +ℤ pos (h F) ≡ Round F p *ℤ pos (Q F) +ℤ pos (remainder F p)
unfolding Round
round_split F p = floor_split (p +ℤ pos (h F)) (pow_pos F)

pub round_shift : (F : ℕ) (p n : ℤ) → Round F (p +ℤ n *ℤ pos (Q F)) ≡ Round F p +ℤ n
unfolding Round
round_shift F p n =
    ap (λ (z : ℤ). shr_z z (Q F)) (ring (p ∷ n ∷ pos (Q F) ∷ pos (h F) ∷ []) (x₀ ⊕ x₁ ⊗ x₂ ⊕ x₃) (x₀ ⊕ x₃ ⊕ x₁ ⊗ x₂) refl)
    ∙ floor_shift (p +ℤ pos (h F)) n (pow_pos F)

-- |p − Round(p)·Q| is |remainder − h|
pub round_lost : (F : ℕ) (p : ℤ) → p -ℤ Round F p *ℤ pos (Q F) ≡ pos (remainder F p) -ℤ pos (h F)
round_lost F p =
    ring (p ∷ pos (h F) ∷ Round F p ∷ pos (Q F) ∷ []) (x₀ ⊖ x₂ ⊗ x₃) (x₀ ⊕ x₁ ⊖ x₂ ⊗ x₃ ⊖ x₁) refl
    ∙ ap (λ (z : ℤ). z -ℤ Round F p *ℤ pos (Q F) -ℤ pos (h F)) (round_split F p)
    ∙ ring (pos (remainder F p) ∷ pos (h F) ∷ Round F p ∷ pos (Q F) ∷ []) (x₂ ⊗ x₃ ⊕ x₀ ⊖ x₂ ⊗ x₃ ⊖ x₁) (x₀ ⊖ x₁) refl

-- a natural number that is some units above p + h leaves what Round drops
pub round_drops : (F : ℕ) (p : ℤ) (n u : ℕ) → pos u ≡ p +ℤ pos (h F) +ℤ pos n *ℤ pos (Q F)
    → pos (u % Q F) ≡ p +ℤ pos (h F) -ℤ Round F p *ℤ pos (Q F)
round_drops F p n u e =
    ap pos (ap (λ (z : ℤ). rest z (Q F)) e ∙ rest_shift (p +ℤ pos (h F)) (pos n) (pow_pos F))
    ∙ ring (Round F p ∷ pos (Q F) ∷ pos (remainder F p) ∷ []) x₂ (x₀ ⊗ x₁ ⊕ x₂ ⊖ x₀ ⊗ x₁) refl
    ∙ ap (λ (z : ℤ). z -ℤ Round F p *ℤ pos (Q F)) (sym (round_split F p))

pub round_loss : (F : ℕ) (p : ℤ) → nat_abs (p -ℤ Round F p *ℤ pos (Q F)) ≤ h F
round_loss F p =
    subst (λ (z : ℤ). nat_abs z ≤ h F) (sym (round_lost F p))
    (size_gap (remainder F p) (h F) (omega (arith, remainder_lt F p, h_half F)) (omega arith))

-- a multiple of Q loses nothing
pub round_whole : (F : ℕ) (n : ℤ) → Round F (n *ℤ pos (Q F)) ≡ n
unfolding Round
round_whole F n = floor_unique n (h F) (omega (arith, h_half F, pow_pos F))

pub round_exact : (F : ℕ) (p n : ℤ) → p ≡ n *ℤ pos (Q F) → nat_abs (p -ℤ Round F p *ℤ pos (Q F)) ≡ 0
round_exact F p n e =
    ap (λ (z : ℤ). nat_abs (z -ℤ Round F z *ℤ pos (Q F))) e
    ∙ ap nat_abs (ap (λ (z : ℤ). n *ℤ pos (Q F) -ℤ z *ℤ pos (Q F)) (round_whole F n) ∙ ring (n ∷ pos (Q F) ∷ []) (x₀ ⊗ x₁ ⊖ x₀ ⊗ x₁) (lit (pos 0)) refl)

-- what is rounded up covers, and it is the least that does
pub ceiling_covers : (p : ℕ) {q : ℕ} → 0 < q → p ≤ ceiling p q * q
ceiling_covers p {q} h = omega (arith, lt-div-mul-add {a = p + (q - 1)} h)

pub ceiling_at_most : (k : ℕ) {p q : ℕ} → 0 < q → p ≤ k * q → ceiling p q ≤ k
ceiling_at_most k {p} {q} h l = omega (arith, (div-lt_iff_lt-mul {x = p + (q - 1)} {y = k + 1} h).1 (omega (arith, spread)))
  where
    spread : (k + 1) * q ≡ k * q + q
    spread = omega arith

pub ceiling_least : (n p : ℕ) {q : ℕ} → 0 < q → n * q ≤ p + (q - 1) → n ≤ ceiling p q
ceiling_least n p h l = (le-div_iff_mul-le h).1 l

-- by quotient and remainder: the quotient where nothing is left, else one more
pub ceiling_exact : (p : ℕ) {q : ℕ} → 0 < q → p % q ≡ 0 → ceiling p q ≡ p / q
ceiling_exact p {q} h e =
    le_antisymm (ceiling_at_most (p / q) h (omega (arith, div-add-mod' p q))) (ceiling_least (p / q) p h (omega (arith, div-add-mod' p q)))

pub ceiling_more : (p : ℕ) {q : ℕ} → 0 < q → (p % q ≡ 0 → ⊥) → ceiling p q ≡ p / q + 1
ceiling_more p {q} h d =
    le_antisymm (ceiling_at_most (p / q + 1) h (omega (arith, div-add-mod' p q, mod-lt p h, one_more)))
    (ceiling_least (p / q + 1) p h (omega (arith, div-add-mod' p q, one_more)))
  where
    one_more : (p / q + 1) * q ≡ p / q * q + q
    one_more = omega arith

-- it does not fall when more is divided, or by less
pub ceiling_mono : {m n p q : ℕ} → 0 < q → m ≤ n → q ≤ p → ceiling m p ≤ ceiling n q
ceiling_mono {m} {n} {p} {q} h l k =
    ceiling_at_most (ceiling n q) (omega arith) (le_trans l (le_trans (ceiling_covers n h) (mul-le-mul_left (ceiling n q) k)))

pub up_covers : (F p : ℕ) → p ≤ Up F p * Q F
unfolding Up
up_covers F p = ceiling_covers p (pow_pos F)

-- a multiple of Q is rounded up to itself
pub up_whole : (F n : ℕ) → Up F (n * Q F) ≡ n
unfolding Up
up_whole F n = le_antisymm (ceiling_at_most n (pow_pos F) (le_refl (n * Q F))) (ceiling_least n (n * Q F) (pow_pos F) (omega arith))

pub up_least : (F n p : ℕ) → n * Q F ≤ p + (Q F - 1) → n ≤ Up F p
unfolding Up
up_least F n p l = ceiling_least n p (pow_pos F) l

pub up_mono : (F : ℕ) {p q : ℕ} → p ≤ q → Up F p ≤ Up F q
unfolding Up
up_mono F l = ceiling_mono (pow_pos F) l (le_refl (Q F))

-- the Up of a sum is at most the sum of the Ups
pub up_add : (F p q : ℕ) → Up F (p + q) ≤ Up F p + Up F q
unfolding Up
up_add F p q =
    ceiling_at_most (Up F p + Up F q) (pow_pos F) (omega (arith, up_covers F p, up_covers F q, add-mul (Up F p) (Up F q) (Q F)))

pub round_near : (F : ℕ) (p q : ℤ) → nat_abs (Round F p -ℤ Round F q) ≤ Up F (nat_abs (p -ℤ q))
round_near F p q = up_least F _ _ (subst (λ (n : ℕ). n ≤ nat_abs (p -ℤ q) + (Q F - 1)) (ap nat_abs moved ∙ size_mul (Round F p -ℤ Round F q) (pos (Q F))) far)
  where
    moved : (p -ℤ q) +ℤ (pos (remainder F q) -ℤ pos (remainder F p)) ≡ (Round F p -ℤ Round F q) *ℤ pos (Q F)
    moved =
        ring (p ∷ q ∷ pos (h F) ∷ pos (remainder F p) ∷ pos (remainder F q) ∷ []) (x₀ ⊖ x₁ ⊕ (x₄ ⊖ x₃)) (x₀ ⊕ x₂ ⊖ (x₁ ⊕ x₂) ⊕ (x₄ ⊖ x₃)) refl
        ∙ ap₂ (λ (x y : ℤ). x -ℤ y +ℤ (pos (remainder F q) -ℤ pos (remainder F p))) (round_split F p) (round_split F q)
        ∙ ring (Round F p ∷ Round F q ∷ pos (Q F) ∷ pos (remainder F p) ∷ pos (remainder F q) ∷ [])
        (x₀ ⊗ x₂ ⊕ x₃ ⊖ (x₁ ⊗ x₂ ⊕ x₄) ⊕ (x₄ ⊖ x₃)) ((x₀ ⊖ x₁) ⊗ x₂) refl

    far : nat_abs ((p -ℤ q) +ℤ (pos (remainder F q) -ℤ pos (remainder F p))) ≤ nat_abs (p -ℤ q) + (Q F - 1)
    far =
        omega
        (arith, size_add (p -ℤ q) (pos (remainder F q) -ℤ pos (remainder F p)), size_gap (remainder F q) (remainder F p) {n = Q F - 1} (omega (arith, remainder_lt F q)) (omega (arith, remainder_lt F p)))
