-- A whole number times x is so many times x, with so many times its stray and its margin; 1 times x is x. Assumes nothing.
use mathlib.Core.Path.{◌≡◌, refl, ◌∙◌, ap}
use mathlib.Core.List.{[], ◌∷◌}
use mathlib.Core.Logic.{inl, inr}
use Prim.Native.Nat.{ℕ, ◌+◌, ◌*◌, ◌%◌}
use native.Mathlib.Nat.{mul-mod_left, mul_right_comm, add-zero, zero-add, mul-zero, one-mul}
use lib.IntN.{ℤ, pos, nat_abs, ◌*ℤ◌}
use Rattle.rules.specs.declared.Matryoshka.{Matryoshka}
use Rattle.rules.specs.Numbers.{Q, Round, Up}
use Rattle.rules.specs.Values.{IsMatryoshka, matryoshka_reach}
use Rattle.refusals.specs.Answer.{value}
use Rattle.rules.specs.Matryoshki.{matryoshka, matryoshka_product, whole_number, times, matryoshka_rule}
use Rattle.rules.specs.Operation.{multiply}
use Rattle.rules.specs.Steps.{within_reach}
use Rattle.rules.proofs.Reach.{reach_accepts}
use Rattle.rules.proofs.Rounding.{round_whole, up_whole}
use Rattle.whole.proofs.Cases.{ap₃}
use Rattle.whole.proofs.Ring.{ring, lit, ◌⊗◌, x₀, x₁, x₂}
use Rattle.whole.proofs.Size.{size_mul}
use Rattle.rules.proofs.Whole.{Whole, doubt_left_out}

module _ (F : ℕ) (k : ℤ) where
  a_whole_number : Whole F (whole_number F k)
  a_whole_number = record { no_stray = refl; multiple = ap (λ (n : ℕ). n % Q F) (size_mul k (pos (Q F))) ∙ mul-mod_left (nat_abs k) (Q F) }

  -- so many doubts, as many units
  up_times : (n : ℕ) → Up F (nat_abs (k *ℤ pos (Q F)) * n) ≡ nat_abs k * n
  up_times n =
      ap (λ (m : ℕ). Up F (m * n)) (size_mul k (pos (Q F))) ∙ ap (Up F) (mul_right_comm (nat_abs k) (Q F) n) ∙ up_whole F (nat_abs k * n)

  pub whole_times : (x : Matryoshka) → matryoshka_product F (whole_number F k) x ≡ times k x
  whole_times x =
      ap₃ matryoshka
      (ap (Round F) (ring (k ∷ pos (Q F) ∷ x.middle ∷ []) (x₀ ⊗ x₁ ⊗ x₂) (x₀ ⊗ x₂ ⊗ x₁) refl) ∙ round_whole F (k *ℤ x.middle))
      (ap (Up F) (simp (add-zero, mul-zero)) ∙ up_times x.stray)
      (ap (Up F) (ap (λ (n : ℕ). (nat_abs (k *ℤ pos (Q F)) + 0 + 0) * x.margin + (nat_abs x.middle + x.stray) * 0 + n)
      (doubt_left_out F (whole_number F k) x (inl a_whole_number)) ∙ simp (add-zero, mul-zero)) ∙ up_times x.margin)

  pub times_whole : (x : Matryoshka) → matryoshka_product F x (whole_number F k) ≡ times k x
  times_whole x =
      ap₃ matryoshka
      (ap (Round F) (ring (k ∷ pos (Q F) ∷ x.middle ∷ []) (x₂ ⊗ (x₀ ⊗ x₁)) (x₀ ⊗ x₂ ⊗ x₁) refl) ∙ round_whole F (k *ℤ x.middle))
      (ap (Up F) (simp (mul-zero, zero-add)) ∙ up_times x.stray)
      (ap (Up F) (ap (λ (n : ℕ). (nat_abs x.middle + x.stray + x.margin) * 0 + (nat_abs (k *ℤ pos (Q F)) + 0) * x.margin + n)
      (doubt_left_out F x (whole_number F k) (inr a_whole_number)) ∙ simp (add-zero, mul-zero, zero-add)) ∙ up_times x.margin)

module _ (F : ℕ) (x : Matryoshka) (legal : IsMatryoshka x) where
  once : times (pos 1) x ≡ x
  once = ap₃ matryoshka (ring (x.middle ∷ []) (lit (pos 1) ⊗ x₀) x₀ refl) (one-mul x.stray) (one-mul x.margin)

  accepted : {m : Matryoshka} → m ≡ x → within_reach matryoshka_reach m ≡ value x
  accepted e = ap (within_reach matryoshka_reach) e ∙ reach_accepts matryoshka_reach x legal

  pub one_times : matryoshka_rule F (multiply (whole_number F (pos 1)) x) ≡ value x
  one_times = accepted (whole_times F (pos 1) x ∙ once)

  pub times_one : matryoshka_rule F (multiply x (whole_number F (pos 1))) ≡ value x
  times_one = accepted (times_whole F (pos 1) x ∙ once)
