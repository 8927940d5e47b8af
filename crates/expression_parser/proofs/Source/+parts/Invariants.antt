-- Each call has less of the text before it, or stands lower at the same place; and what a product or a sum is so far.
use Rattle.std.proofs.Common.{ℕ, ◌+◌, ◌-◌, ◌*◌, length}
use Rattle.expression_parser.specs.declared.Operands.{Operands}
use Rattle.expression_parser.specs.declared.Operands.TheVariants.{Factors, Products}
use Rattle.expression_parser.proofs.Joined.{Joining}
use Rattle.expression_parser.proofs.Source.+parts.Given as goal

abbrev pub height : Operands → ℕ
height Factors = 1
height Products = 3

abbrev pub decreases-factor : goal.decreases-factor
decreases-factor l = 5 * (length l.self.now.text.now - l.reached.now.at)

abbrev pub decreases-operand : goal.decreases-operand
decreases-operand l = 5 * (length l.self.now.text.now - l.reached.now.at) + height l.operands

abbrev pub decreases-joined : goal.decreases-joined
decreases-joined l = 5 * (length l.self.now.text.now - l.reached.now.at) + height l.operands + 1

abbrev pub invariant-joined-loop-sign : goal.invariant-joined-loop-sign
invariant-joined-loop-sign l = Joining l.fn.operands l.fn.self l.fn.reached l.fn.words l.words l.left l.reached

abbrev pub decreases-joined-loop-sign : goal.decreases-joined-loop-sign
decreases-joined-loop-sign l = length l.self.text.now - l.reached.at
