-- What the instructions of a text keep to. Assumes nothing.
use mathlib.Core.Path.{◌≡◌, ◌∙◌, ap, subst}
use mathlib.Core.Bool.{Bool, true}
use mathlib.Core.List.{List, ◌++◌}
use Prim.Native.Nat.{ℕ, suc, ◌+◌, ◌*◌, ◌^◌, ◌≤◌, ◌<◌}
use native.Mathlib.Nat.{div-add-mod', mod-lt, one-le-pow, zero-lt-suc, mul-le-mul_right}
use native.Mathlib.Omega.{arith}
use lib.IntN.{pos}
use lib.ListN.{length, length-append}
use borrow.Author.Tests.{eq-eqb, leb-true}
use Rattle.rules.specs.Numbers.{M, Q}
use Rattle.formulas.specs.declared.Instruction.{Instruction}
use Rattle.formulas.specs.declared.Instruction.TheVariants.{Constant, Add, Subtract, Multiply}
use Rattle.formulas.specs.Formula.{Smaller}
use Rattle.lists.specs.Each.{Each, none, one}
use Rattle.expressions.specs.Tree.{Tree, input, written, negated, sum, difference, product}
use Rattle.numerals.specs.Units.{units, is_exact}
use Rattle.expressions.specs.Compiled.{constant_fits, number_as, number_instruction, Compiled, joined, compiled, Proper}

-- "code 0 when exact": where the number is a whole number of units, it is that constant
units_exact : (F v e c : ℕ) → c * 10 ^ e ≡ v * Q F → units F v e ≡ c
unfolding units
units_exact F v e c k = between (units F v e) (10 ^ e) (one-le-pow e 10 (zero-lt-suc 9)) low high
  where
    two_pos : 0 < 2 * 10 ^ e
    two_pos = omega (arith, one-le-pow e 10 (zero-lt-suc 9))

    low : units F v e * 10 ^ e < c * 10 ^ e + 10 ^ e
    low = omega (arith, k, div-add-mod' (2 * (v * Q F) + 10 ^ e) (2 * 10 ^ e), one-le-pow e 10 (zero-lt-suc 9))

    high : c * 10 ^ e < units F v e * 10 ^ e + 10 ^ e
    high = omega (arith, k, div-add-mod' (2 * (v * Q F) + 10 ^ e) (2 * 10 ^ e), mod-lt (2 * (v * Q F) + 10 ^ e) two_pos)

    between : (u T : ℕ) → 1 ≤ T → u * T < c * T + T → c * T < u * T + T → u ≡ c
    between u T p a b =
        let h : suc c ≤ u → ⊥ = λ l. clash c u a (mul-le-mul_right T l) in
        let g : suc u ≤ c → ⊥ = λ l. clash u c b (mul-le-mul_right T l) in
        omega arith
      where
        clash : (x y : ℕ) → y * T < x * T + T → suc x * T ≤ y * T → ⊥
        clash x y i j = omega arith

pub exact_constant : (F v e c : ℕ) → c * 10 ^ e ≡ v * Q F → number_instruction F v e ≡ Constant (pos c)
exact_constant F v e c k =
    ap (λ (t : Bool). number_as t (units F v e)) (eq-eqb (units F v e * 10 ^ e) (v * Q F) (ap (λ (u : ℕ). u * 10 ^ e) (units_exact F v e c k) ∙ k))
    ∙ ap (λ (u : ℕ). Constant (pos u)) (units_exact F v e c k)

-- ---- "it may name only smaller values"

pub each_both : {P : ℕ → Instruction → Type 0} {v : ℕ} {is js : List Instruction} → Each P v is → Each P (v + length is) js → Each P v (is ++ js)
each_both {P} {v} {js} none b = subst (λ w. Each P w js) (plus_zero v) b
  where
    plus_zero : (v : ℕ) → v + 0 ≡ v
    plus_zero v = omega arith
each_both {P} {v} {js} (one {more} p a) b = one p (each_both a (subst (λ w. Each P w js) (plus_suc v (length more)) b))
  where
    plus_suc : (v k : ℕ) → v + suc k ≡ suc v + k
    plus_suc v k = omega arith

-- an instruction names only smaller values, wherever its constant is permitted
abbrev Orderly : ℕ → ℕ → Instruction → Type 0
Orderly F v i = constant_fits i ≡ true → Smaller F v i

pub record Ordered (F n : ℕ) (a : Compiled) : Type 0 where
  pub earlier : Each (Orderly F) n a.program
  pub named : a.result < n + length a.program

both : {F n : ℕ} {a : Compiled} (op : ℕ → ℕ → Instruction) → ((v i j : ℕ) → i < v → j < v → Orderly F v (op i j)) → Ordered F n a
    → (b : Compiled) → Ordered F (n + length a.program) b → Ordered F n (joined op n a b)
both {n = n} {a} op fits x b y =
    record {
      earlier =
          each_both x.earlier
          (each_both y.earlier
          (one (fits (n + length a.program + length b.program) a.result b.result (omega (arith, x.named)) y.named) none));
      named = simp length-append (omega arith);
    }

pub ordered : (F m : ℕ) (t : Tree) → Proper m t → (n : ℕ) → m ≤ n → Ordered F n (compiled F t n)
ordered F m (input i) l n h = record { earlier = none; named = omega arith }
ordered F m (written v e) l n h = record { earlier = one (fits (is_exact F v e)) none; named = omega arith }
  where
    fits : (t : Bool) → Orderly F n (number_as t (units F v e))
    fits true p = leb-true (units F v e) M p
    fits Bool.false p = leb-true (units F v e + 1) M p
ordered F m (negated t) l n h =
    let x = ordered F m t l n h in
    record { earlier = each_both x.earlier (one (λ p. x.named) none); named = rw length-append (omega arith) }
ordered F m (sum t u) l n h =
    both Add (λ v i j p q r. (p, q)) (ordered F m t l.0 n h) (compiled F u (n + length (compiled F t n).program))
    (ordered F m u l.1 (n + length (compiled F t n).program) (omega arith))
ordered F m (difference t u) l n h =
    both Subtract (λ v i j p q r. (p, q)) (ordered F m t l.0 n h) (compiled F u (n + length (compiled F t n).program))
    (ordered F m u l.1 (n + length (compiled F t n).program) (omega arith))
ordered F m (product t u) l n h =
    both Multiply (λ v i j p q r. (p, q)) (ordered F m t l.0 n h) (compiled F u (n + length (compiled F t n).program))
    (ordered F m u l.1 (n + length (compiled F t n).program) (omega arith))
