-- Slopes weighed by the readings' margins, the sum of L·s over the inputs, and how each rule of the slopes moves it. Assumes nothing.
use mathlib.Core.Path.{◌≡◌, refl, ap}
use mathlib.Core.List.{List, [], ◌∷◌, map}
use Prim.Native.Nat.{ℕ, zero, suc, ◌+◌, ◌*◌, ◌≤◌, ◌<◌, zero-le}
use native.Mathlib.Nat.{le-add_right, le_of_suc-le-suc, not-suc-le-zero, mul-le-mul_right, add-mul}
use native.Mathlib.Omega.{arith}
use lib.IntN.{pos, nat_abs}
use lib.ListN.{get_or, replicate, length}
use Rattle.rules.specs.Numbers.{Q, Up}
use Rattle.rules.proofs.Rounding.{up_covers}
use Rattle.whole.proofs.Ring.{ring, ◌⊕◌, ◌⊗◌, x₀, x₁, x₂, x₃, x₄, x₅, x₆}
use Rattle.lists.specs.Joined.{joined}
use Rattle.cards.specs.Slopes.{input_slopes}
use Rattle.cards.specs.Card.{rise}

-- n numbers
pub data Many : ℕ → List ℕ → Type 0 where
  none : Many zero []
  one : {n a : ℕ} {l : List ℕ} → Many n l → Many (suc n) (a ∷ l)

pub many_long : {n : ℕ} {l : List ℕ} → Many n l → length l ≡ n
many_long none = refl
many_long (one p) = ap suc (many_long p)

pub many_zeros : (n : ℕ) → Many n (replicate n 0)
many_zeros zero = none
many_zeros (suc n) = one (many_zeros n)

pub many_input : (F m i : ℕ) → Many m (input_slopes F m i)
many_input F zero i = none
many_input F (suc m) zero = one (many_zeros m)
many_input F (suc m) (suc i) = one (many_input F m i)

pub many_joined : (f : ℕ → ℕ → ℕ) {n : ℕ} {ks ls : List ℕ} → Many n ks → Many n ls → Many n (joined f ks ls)
many_joined f none none = none
many_joined f (one p) (one q) = one (many_joined f p q)

pub many_map : (f : ℕ → ℕ) {n : ℕ} {ls : List ℕ} → Many n ls → Many n (map f ls)
many_map f none = none
many_map f (one p) = one (many_map f p)

abbrev pub weigh : List ℕ → List ℕ → ℕ
weigh [] ss = 0
weigh (l ∷ ls) [] = 0
weigh (l ∷ ls) (s ∷ ss) = l * s + weigh ls ss

-- an input weighs Q times its own margin
pub weigh_input : (F : ℕ) {m : ℕ} {ss : List ℕ} → Many m ss → (i : ℕ) → i < m → Q F * get_or ss i 0 ≤ weigh (input_slopes F m i) ss
weigh_input F none i l = absurd (not-suc-le-zero l)
weigh_input F (one {a = s} p) zero l = le-add_right (Q F * s) _
weigh_input F (one p) (suc i) l = omega (arith, weigh_input F p i (le_of_suc-le-suc l))

-- what a rule gives at each input covers x·L(Y) + y·L(X) in units of q, so it does with all inputs weighed
pub weigh_both : (f : ℕ → ℕ → ℕ) (x y q : ℕ) → ((k l : ℕ) → x * l + y * k ≤ f k l * q) → {n : ℕ} {ks ls ss : List ℕ} → Many n ks → Many n ls → Many n ss
    → x * weigh ls ss + y * weigh ks ss ≤ weigh (joined f ks ls) ss * q
weigh_both f x y q h none none none = omega arith
weigh_both f x y q h (one {a = k} {l = ks} u) (one {a = l} {l = ls} w) (one {a = s} {l = ss} t) =
    omega (arith, weigh_both f x y q h u w t, mul-le-mul_right s (h k l), apart (weigh ls ss) (weigh ks ss), together (weigh (joined f ks ls) ss))
  where
    apart : (m n : ℕ) → x * (l * s + m) + y * (k * s + n) ≡ (x * l + y * k) * s + (x * m + y * n)
    apart m n =
        ap nat_abs (ring (pos x ∷ pos l ∷ pos s ∷ pos m ∷ pos y ∷ pos k ∷ pos n ∷ [])
        (x₀ ⊗ (x₁ ⊗ x₂ ⊕ x₃) ⊕ x₄ ⊗ (x₅ ⊗ x₂ ⊕ x₆)) ((x₀ ⊗ x₁ ⊕ x₄ ⊗ x₅) ⊗ x₂ ⊕ (x₀ ⊗ x₃ ⊕ x₄ ⊗ x₆)) refl)

    together : (m : ℕ) → (f k l * s + m) * q ≡ f k l * q * s + m * q
    together m = ap nat_abs (ring (pos (f k l) ∷ pos s ∷ pos m ∷ pos q ∷ []) ((x₀ ⊗ x₁ ⊕ x₂) ⊗ x₃) (x₀ ⊗ x₃ ⊗ x₁ ⊕ x₂ ⊗ x₃) refl)

-- what a rule gives at each input covers t·L in units of q, so it does with all inputs weighed
pub weigh_map : (f : ℕ → ℕ) (t q : ℕ) → ((l : ℕ) → t * l ≤ f l * q) → {n : ℕ} {ls ss : List ℕ} → Many n ls → Many n ss
    → t * weigh ls ss ≤ weigh (map f ls) ss * q
weigh_map f t q h none none = omega arith
weigh_map f t q h (one {a = l} {l = ls} u) (one {a = s} {l = ss} w) =
    omega (arith, weigh_map f t q h u w, mul-le-mul_right s (h l), apart (weigh ls ss), together (weigh (map f ls) ss))
  where
    apart : (m : ℕ) → t * (l * s + m) ≡ t * l * s + t * m
    apart m = ap nat_abs (ring (pos t ∷ pos l ∷ pos s ∷ pos m ∷ []) (x₀ ⊗ (x₁ ⊗ x₂ ⊕ x₃)) (x₀ ⊗ x₁ ⊗ x₂ ⊕ x₀ ⊗ x₃) refl)

    together : (m : ℕ) → (f l * s + m) * q ≡ f l * q * s + m * q
    together m = ap nat_abs (ring (pos (f l) ∷ pos s ∷ pos m ∷ pos q ∷ []) ((x₀ ⊗ x₁ ⊕ x₂) ⊗ x₃) (x₀ ⊗ x₃ ⊗ x₁ ⊕ x₂ ⊗ x₃) refl)

-- rounded up input by input, it is no less
pub weigh_rise : (F : ℕ) (ls ss : List ℕ) → weigh ls ss ≤ rise F ls ss * Q F
weigh_rise F [] ss = zero-le
weigh_rise F (l ∷ ls) [] = zero-le
weigh_rise F (l ∷ ls) (s ∷ ss) = omega (arith, up_covers F (l * s), weigh_rise F ls ss, add-mul (Up F (l * s)) (rise F ls ss) (Q F))
