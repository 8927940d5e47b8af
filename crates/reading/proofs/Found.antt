-- What each reader finds, off a loaded cursor. Assumes nothing.
use mathlib.Core.Path.{◌≡◌}
use mathlib.Core.List.{List}
use Prim.Native.Nat.{ℕ, ◌+◌, ◌<◌, ◌≤◌}
use native.Mathlib.Omega.{arith}
use lib.IntN.{nat_abs}
use lib.ListN.{length}
use Rattle.std.specs.Int.{div_ceil}
use Rattle.std.specs.declared.result.Result.TheVariants.{Err}
use Rattle.whole.proofs.Machine.{back}
use Rattle.refusals.specs.declared.Refusal.TheVariants as refusal
use Rattle.packed.specs.declared.coefficient.Centred.{Centred}
use Rattle.packed.specs.declared.loaded.Loaded.{Loaded}
use Rattle.packed.specs.ReaderAnswers.{ReadFrom, Fifth, IsCentred}
use Rattle.packed.proofs.Inside.{constant_refused, constant_ahead, first_refused, negate_ahead, second_refused, two_ahead}
use Rattle.packed.proofs.Margins.{margin_ended, both_there, reach_fits, margin_ahead, margin_refused}
use Rattle.packed.proofs.Reciprocals.{scale_refused, divisor_ended, divisor_refused, divisor_ahead}

-- both fields are there, and reach over M
pub over_limit : {s : List ℕ} {l : Loaded} {g : Centred} {n k : ℕ} → Fifth s l → k ≡ div_ceil (l.at + 66) 8 → k ≤ length s
    → IsCentred s l g → n ≡ nat_abs (back g.centre) → 2147483647 < n + g.margin → ReadFrom s l (Err refusal.Constant)
over_limit o up there gets size over = margin_refused o (omega arith) gets size over

pub ruleset constants = (constant_refused, constant_ahead)

pub ruleset operands = (first_refused, negate_ahead, second_refused, two_ahead)

pub ruleset reciprocals = (scale_refused, divisor_ended, divisor_refused, divisor_ahead)

pub ruleset margins = (margin_ended, both_there, reach_fits, margin_ahead)
