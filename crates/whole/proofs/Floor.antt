-- Division by q rounded down, `shr_z z q` in the kit, also at negative z: what is left over, that the two determine z and are determined by
-- it, and that z moves by n·q when the quotient moves by n. Assumes nothing.
use mathlib.Core.Path.{◌≡◌, refl, sym, ◌∙◌, ap, ap₂}
use mathlib.Core.List.{[], ◌∷◌}
use Prim.Native.Nat.{ℕ, suc, ◌+◌, ◌-◌, ◌*◌, ◌/◌, ◌%◌, ◌<◌}
use native.Mathlib.Nat.{div-add-mod', mod-lt}
use native.Mathlib.Omega.{arith}
use lib.Arith.{digits_div}
use lib.IntN.{ℤ, pos, negsuc, nat_abs, neg_ℤ, ◌+ℤ◌, ◌-ℤ◌, ◌*ℤ◌}
use lib.Signed.{shr_z}
use Rattle.whole.proofs.Ring.{ring, lit, neg, ◌⊕◌, ◌⊖◌, ◌⊗◌, x₀, x₁, x₂, x₃}

-- what z is above the largest multiple of q that is not above it
abbrev pub rest : ℤ → ℕ → ℕ
rest (pos a) q = a % q
rest (negsuc a) q = q - suc (a % q)

pub rest_lt : (z : ℤ) {q : ℕ} → 0 < q → rest z q < q
rest_lt (pos a) h = mod-lt a h
rest_lt (negsuc a) h = omega arith

-- −(k·q + t + 1) is −(k + 1)·q and q − (t + 1) above that
pub below_zero : (k t r : ℕ) {q : ℕ} → r + (t + 1) ≡ q → negsuc (k * q + t) ≡ negsuc k *ℤ pos q +ℤ pos r
below_zero k t r {q} e =
    ap negsuc (ap (λ (n : ℕ). k * n + t) (sym e))
    ∙ ap (λ (n : ℕ). neg_ℤ (pos n)) one_more
    ∙ ring (pos k ∷ pos t ∷ pos r ∷ []) (neg (x₀ ⊗ (x₂ ⊕ (x₁ ⊕ lit (pos 1))) ⊕ x₁ ⊕ lit (pos 1)))
    (neg ((x₀ ⊕ lit (pos 1)) ⊗ (x₂ ⊕ (x₁ ⊕ lit (pos 1)))) ⊕ x₂) refl
    ∙ ap₂ (λ (n m : ℕ). neg_ℤ (pos (n * m)) +ℤ pos r) one_up e
  where
    one_more : suc (k * (r + (t + 1)) + t) ≡ k * (r + (t + 1)) + t + 1
    one_more = omega arith

    one_up : k + 1 ≡ suc k
    one_up = omega arith

pub floor_split : (z : ℤ) {q : ℕ} → 0 < q → z ≡ shr_z z q *ℤ pos q +ℤ pos (rest z q)
floor_split (pos a) {q} h = ap pos (sym (div-add-mod' a q))
floor_split (negsuc a) {q} h =
    ap negsuc (sym (div-add-mod' a q)) ∙ below_zero (a / q) (a % q) (q - suc (a % q)) (whole (mod-lt a h))
  where
    whole : a % q < q → q - suc (a % q) + (a % q + 1) ≡ q
    whole l = omega arith

pub floor_unique : (k : ℤ) (r : ℕ) {q : ℕ} → r < q → shr_z (k *ℤ pos q +ℤ pos r) q ≡ k
floor_unique (pos k) r h = ap pos (digits_div k h)
floor_unique (negsuc k) r {q} h =
    ap (λ (z : ℤ). shr_z z q) (sym (below_zero k (q - suc r) r whole)) ∙ ap negsuc (digits_div k small)
  where
    whole : r + (q - suc r + 1) ≡ q
    whole = omega arith

    small : q - suc r < q
    small = omega arith

pub floor_shift : (z n : ℤ) {q : ℕ} → 0 < q → shr_z (z +ℤ n *ℤ pos q) q ≡ shr_z z q +ℤ n
floor_shift z n {q} h =
    ap (λ (x : ℤ). shr_z x q)
    (ap (λ (x : ℤ). x +ℤ n *ℤ pos q) (floor_split z h)
    ∙ ring (shr_z z q ∷ n ∷ pos q ∷ pos (rest z q) ∷ []) (x₀ ⊗ x₂ ⊕ x₃ ⊕ x₁ ⊗ x₂) ((x₀ ⊕ x₁) ⊗ x₂ ⊕ x₃) refl)
    ∙ floor_unique (shr_z z q +ℤ n) (rest z q) (rest_lt z h)

-- and what is left over stays
pub rest_shift : (z n : ℤ) {q : ℕ} → 0 < q → rest (z +ℤ n *ℤ pos q) q ≡ rest z q
rest_shift z n {q} h =
    let y = z +ℤ n *ℤ pos q in
    let k = shr_z z q in
    let split : y ≡ (k +ℤ n) *ℤ pos q +ℤ pos (rest y q) =
    floor_split y h ∙ ap (λ (x : ℤ). x *ℤ pos q +ℤ pos (rest y q)) (floor_shift z n h) in
    ap nat_abs
    (ring (k ∷ n ∷ pos q ∷ pos (rest y q) ∷ []) x₃ ((x₀ ⊕ x₁) ⊗ x₂ ⊕ x₃ ⊖ (x₀ ⊕ x₁) ⊗ x₂) refl
    ∙ ap (λ (x : ℤ). x -ℤ (k +ℤ n) *ℤ pos q) (sym split ∙ ap (λ (x : ℤ). x +ℤ n *ℤ pos q) (floor_split z h))
    ∙ ring (k ∷ n ∷ pos q ∷ pos (rest z q) ∷ []) (x₀ ⊗ x₂ ⊕ x₃ ⊕ x₁ ⊗ x₂ ⊖ (x₀ ⊕ x₁) ⊗ x₂) x₃ refl)
