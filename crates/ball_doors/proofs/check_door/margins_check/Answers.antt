-- A header that was checked is within its limits.
use borrow.Author.Rules.{rules}
use Rattle.replies.proofs.Telling.{checked_limits}
use Rattle.ball_doors.proofs.check_door.margins_check.Goals as goal

pub formula_told-requires : goal.formula_told-requires
formula_told-requires c = search (checked_limits, rules)
