-- What can be gone on from, as the beginnings of texts are: a list stops being so at one place only. Assumes nothing.
use mathlib.Core.Path.{◌≡◌, sym, ◌∙◌, ap, subst}
use mathlib.Core.List.{List, ◌++◌}
use Prim.Native.Nat.{ℕ, suc, ◌+◌, ◌-◌, ◌≤◌, ◌<◌}
use native.Mathlib.Omega.{arith}
use lib.ListN.{take, drop, take-append-drop}
use lib.Seq.{take-add}

-- P holds of less where it holds of more
module _ {A : Type 0} {P : List A → Type 0} (less : (a b : List A) → P (a ++ b) → P a) (s : List A) where
  pub begins_take : (p : ℕ) → P s → P (take p s)
  begins_take p x = less (take p s) (drop p s) (subst P (sym (take-append-drop p s)) x)

  begins_shorter : {p q : ℕ} → p ≤ q → P (take q s) → P (take p s)
  begins_shorter {p} {q} l x =
      less (take p s) (take (q - p) (drop p s)) (subst P (ap (λ (k : ℕ). take k s) (parted l) ∙ take-add p (q - p) s) x)
    where
      parted : p ≤ q → q ≡ p + (q - p)
      parted l = omega arith

  pub one_place : (p q : ℕ) → P (take p s) → (P (take (suc p) s) → ⊥) → P (take q s) → (P (take (suc q) s) → ⊥) → p ≡ q
  one_place p q b w c v =
      let h : p < q → ⊥ = λ l. w (begins_shorter l c) in
      let k : q < p → ⊥ = λ l. v (begins_shorter l b) in
      omega arith
