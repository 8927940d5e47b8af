-- A number that the machine keeps, tested. Assumes nothing.
use mathlib.Core.Path.{subst}
use Prim.Native.Nat.{ℕ, ◌<◌}
use native.Mathlib.Omega.{arith}
use lib.IntN.{ℤ}
use mir.Syntax.{w64}
use mir.Val.{SFits}
use mir.ValLaws.{to_z-of_z}
use Rattle.std.specs.declared.result.Result.{Result}
use Rattle.std.specs.declared.result.Result.TheVariants.{Ok}
use Rattle.refusals.specs.declared.Refusal.{Refusal}
use Rattle.whole.proofs.Machine.{back}
use Rattle.whole.proofs.Limits.{natural}
use Rattle.decimal_jobs.specs.Tests.{Natural}

pub kept : {limit : ℕ} {why : Refusal} {z : ℤ} {r : Result ℕ Refusal} → SFits w64 z → Natural limit why (back z) r → Natural limit why z r
kept {limit} {why} {z} {r} f n = subst (λ x. Natural limit why x r) (to_z-of_z w64 z f) n

pub small : {limit : ℕ} {why : Refusal} {z : ℤ} {n : ℕ} → Natural limit why z (Ok n) → n < limit
small {limit} {z = z} k = let l = (natural limit z k.is.0).small in omega (arith, k.is.1)
