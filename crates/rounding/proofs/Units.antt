-- The parts of a unit that rounding adds, as the rules name them, and their bounds at every scale. Assumes nothing.
use mathlib.Core.Path.{◌≡◌, refl}
use Prim.Native.Nat.{ℕ, zero, suc, ◌+◌, ◌-◌, ◌*◌, ◌/◌, ◌^◌, ◌≤◌, ◌<◌}
use native.Mathlib.Nat.{div-one, div-le_self, lt_of_le_of_lt}
use native.Mathlib.Omega.{arith}
use lib.Pow.{pow_mono}
use Rattle.rules.specs.Numbers.{M, Q, h, top_scale, Up}
use Rattle.rules.proofs.Rounding.{h_half}

-- Q is at most 2^30
pub unit_bound : {F : ℕ} → F ≤ top_scale → Q F ≤ 2 ^ 30
unit_bound l = pow_mono l

pub half_bound : {F : ℕ} → F ≤ top_scale → h F ≤ 2 ^ 30
half_bound {F} l = omega (arith, unit_bound l, h_half F)

pub unit_part : (F : ℕ) → Q F / 1 ≡ Q F
unit_part F = div-one (Q F)

pub half_part : (F : ℕ) → Q F / 2 ≡ h F
unfolding h
half_part zero = refl
half_part (suc f) = refl

-- a rounded doubt is no larger than the doubt and a unit
pub up_size : {F : ℕ} (p : ℕ) → F ≤ top_scale → p ≤ M * M + 2 ^ 30 → Up F p < 2 ^ 62
unfolding Up
up_size {F} p f l = lt_of_le_of_lt (div-le_self (p + (Q F - 1)) (Q F)) (omega (arith, unit_bound f))
