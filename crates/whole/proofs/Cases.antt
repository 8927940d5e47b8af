-- Small facts that many proofs cite: what an answer stands for once its case is known, two tests at once, counts. Assumes nothing.
use mathlib.Core.Path.{◌≡◌, refl, sym, ◌∙◌, ap, ap₂}
use mathlib.Core.Bool.{Bool, true, false, ◌&&◌}
use Prim.Native.Nat.{ℕ, suc, ◌≤◌, ◌<◌}
use native.Mathlib.Omega.{arith}

-- what an answer stands for, once it is known which case it is
pub by_case : {T A : Type 0} (answer : T → A) {t u : T} {a : A} → answer t ≡ a → t ≡ u → a ≡ answer u
by_case answer e k = sym e ∙ ap answer k

-- a test that both passes and fails
pub never : {A : Type 0} → true ≡ false → A
never e = absurd (let z : ◌≡◌ {A = ℕ} 0 1 = cc in omega arith)

-- two tests that pass together
pub both : (t u : Bool) → t && u ≡ true → (t ≡ true) × (u ≡ true)
both true u e = (refl, e)
both false u e = never (sym e)

pub down : {m n : ℕ} → suc m ≡ suc n → m ≡ n
down e = omega arith

pub no_suc : {n : ℕ} → 0 ≡ suc n → ⊥
no_suc e = omega arith

-- a count that has not come to its end is below it
pub less : {k n : ℕ} → k ≤ n → (k ≡ n → ⊥) → k < n
less l d = omega arith

pub ap₃ : {A B C D : Type 0} (f : A → B → C → D) {a d : A} {b e : B} {c g : C} → a ≡ d → b ≡ e → c ≡ g → f a b c ≡ f d e g
ap₃ f {a} {d} {b} {e} {c} p q r = ap (λ x. f x b c) p ∙ ap₂ (λ y z. f d y z) q r
