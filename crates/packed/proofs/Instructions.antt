-- Constants in two's complement, and what the codes from 2 on ask for. Assumes nothing.
use mathlib.Core.Path.{◌≡◌, refl, sym, ◌∙◌, ap}
use mathlib.Core.Bool.{Bool, true, false, cond}
use mathlib.Core.List.{List, [], ◌∷◌}
use Prim.Native.Nat.{ℕ, zero, suc, ◌+◌, ◌-◌, ◌*◌, ◌^◌, ◌≤◌, ◌<◌}
use native.Mathlib.Omega.{arith}
use lib.Dec.{ltb, lit≤}
use borrow.Author.Tests.{lt-ltb, le-ltb, ltb-true, ltb-false}
use lib.IntN.{ℤ, pos, negsuc, nat_abs, ◌-ℤ◌}
use lib.Signed.{mag}
use mir.Syntax.{w32}
use mir.Val.{sel, to_z, of_z}
use mir.ValLaws.{to_z-of_z}
use Rattle.std.proofs.lemmas.Int.{to_z_pos}
use Rattle.whole.proofs.Floor.{below_zero}
use Rattle.whole.proofs.Ring.{ring, lit, ◌⊕◌, ◌⊖◌, ◌⊗◌, x₀, x₁}
use Rattle.whole.proofs.Machine.{back, back_is}
use Rattle.whole.proofs.Size.{size_sub}
use Rattle.formulas.specs.declared.Instruction.{Instruction}
use Rattle.formulas.specs.declared.Instruction.TheVariants.{Constant, Negate, Add, Subtract, Multiply, Coefficient, Reciprocal}
use Rattle.packed.specs.Items.{twos_complement, read}
use Rattle.packed.specs.Format.{two_operands, with_margin, of_one_divided, by_code, wide, widest}
use Rattle.packed.specs.ReaderAnswers.{combined}

pub twos_complement_low : (c : ℕ) → c < 2 ^ 31 → twos_complement c ≡ pos c
unfolding twos_complement
twos_complement_low c l = ap (λ (t : Bool). cond t (pos c) (pos c -ℤ pos (2 ^ 32))) (lt-ltb c (2 ^ 31) l)

pub twos_complement_high : (c : ℕ) → 2 ^ 31 ≤ c → twos_complement c ≡ pos c -ℤ pos (2 ^ 32)
unfolding twos_complement
twos_complement_high c l = ap (λ (t : Bool). cond t (pos c) (pos c -ℤ pos (2 ^ 32))) (le-ltb c (2 ^ 31) l)

-- as the machine reads 32 bits with a sign
below_none : (n m : ℕ) → n < m → negsuc (m - suc n) ≡ pos n -ℤ pos m
below_none n m l =
    ap negsuc (let z : m - suc n ≡ 0 * m + (m - suc n) = omega arith in z)
    ∙ below_zero 0 (m - suc n) n (let e : n + (m - suc n + 1) ≡ m = omega arith in e)
    ∙ ring (pos n ∷ pos m ∷ []) (lit (negsuc 0) ⊗ x₁ ⊕ x₀) (x₀ ⊖ x₁) refl

pub twos_complement_read : (n : ℕ) → n < 2 ^ 32 → to_z w32 n ≡ twos_complement n
twos_complement_read n l = by_top (ltb n (2 ^ 31)) refl
  where
    by_top : (t : Bool) → ltb n (2 ^ 31) ≡ t → to_z w32 n ≡ twos_complement n
    by_top true k = to_z_pos w32 n (ltb-true n (2 ^ 31) k) ∙ sym (twos_complement_low n (ltb-true n (2 ^ 31) k))
    by_top false k =
        ap (λ (t : Bool). sel t (pos n) (negsuc (2 ^ 32 - suc n))) k ∙ below_none n (2 ^ 32) l
        ∙ sym (twos_complement_high n (ltb-false n (2 ^ 31) k))

pub twos_complement_size : (c : ℕ) → c < 2 ^ 32 → nat_abs (twos_complement c) < 2 ^ 63
twos_complement_size c l = by_sign (ltb c (2 ^ 31)) refl
  where
    by_sign : (t : Bool) → ltb c (2 ^ 31) ≡ t → nat_abs (twos_complement c) < 2 ^ 63
    by_sign true k = rw (twos_complement_low c (ltb-true c (2 ^ 31) k)) (omega arith)
    by_sign false k =
        rw (twos_complement_high c (ltb-false c (2 ^ 31) k)) (omega (arith, size_sub (pos c) (pos (2 ^ 32))))

-- a constant that was kept in 64 bits
pub twos_complement_back : (c : ℕ) {z : ℤ} → c < 2 ^ 32 → z ≡ twos_complement c → back z ≡ twos_complement c
twos_complement_back c {z} l e = ap back e ∙ back_is (twos_complement c) (twos_complement_size c l)

-- 32 bits read with a sign, and kept in 64
pub twos_complement_signed : {n : ℕ} {x y : ℤ} → n < 2 ^ 32 → x ≡ to_z w32 n → mag x < 2 ^ 31 → y ≡ to_z w32 (of_z w32 x) → back y ≡ twos_complement n
twos_complement_signed {n} {x} l e m f = twos_complement_back n l (f ∙ to_z-of_z w32 x (record { sfits = m }) ∙ e ∙ twos_complement_read n l)

-- codes 2 to 4
pub by_code_two : (F v code : ℕ) (bs : List ℕ) → (code ≡ 0 → ⊥) → (code ≡ 1 → ⊥)
    → code < 5 → read (by_code F v code) bs ≡ read (two_operands (combined code) v) bs
unfolding by_code
by_code_two F v zero bs p q l = absurd (p refl)
by_code_two F v (suc zero) bs p q l = absurd (q refl)
by_code_two F v (suc (suc zero)) bs p q l = refl
by_code_two F v (suc (suc (suc zero))) bs p q l = refl
by_code_two F v (suc (suc (suc (suc zero)))) bs p q l = refl
by_code_two F v (suc (suc (suc (suc (suc k))))) bs p q l = absurd (omega arith)

-- code 5
pub by_code_margin : (F v : ℕ) (bs : List ℕ) → read (by_code F v 5) bs ≡ read with_margin bs
unfolding by_code
by_code_margin F v bs = refl

-- code 6
pub by_code_reciprocal : (F v : ℕ) (bs : List ℕ) → read (by_code F v 6) bs ≡ read (of_one_divided F v) bs
unfolding by_code
by_code_reciprocal F v bs = refl

pub wide_most : (i : Instruction) → wide i ≤ widest
wide_most (Constant c) = lit≤ tt
wide_most (Negate i) = lit≤ tt
wide_most (Add i j) = lit≤ tt
wide_most (Subtract i j) = lit≤ tt
wide_most (Multiply i j) = lit≤ tt
wide_most (Coefficient c r) = lit≤ tt
wide_most (Reciprocal i) = lit≤ tt
