-- `part` meets its contract: nothing of 2^scale is shifted out. Assumes nothing.
use mathlib.Core.Path.{◌≡◌}
use Prim.Native.Nat.{◌*◌, ◌%◌, ◌^◌}
use native.Mathlib.Omega.{arith}
use borrow.Author.Rules.{rules}
use Rattle.whole.proofs.Machine.{one_shifted}
use Rattle.rounding.proofs.part.Statement.{statement}
use Rattle.rounding.proofs.part.Tie as tie
use Rattle.rounding.proofs.part.Reads as reads
use Rattle.rounding.proofs.part.Lts as lts

unit_is : (c : lts.Start reads.Pre reads.Post) → (1 * 2 ^ c.args.scale) % 2 ^ 64 ≡ 2 ^ c.args.scale
unit_is c = one_shifted c.args.scale (omega arith)

sub_result : tie.Need-overflow_sub-result
sub_result c = rw (unit_is c) c.requires.2

returns : tie.Need-returns
returns c = rw (unit_is c)

pub part_spec : {M : Type 1} → statement M
part_spec = tie.close (tie.spec (λ c. search rules) (λ c. search rules) sub_result returns)
