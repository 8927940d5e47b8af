-- So many outputs at the most are told.
use borrow.Author.Rules.{rules}
use Rattle.formulas.specs.Kinds.{ball_kind}
use Rattle.replies.proofs.Telling.{kept_few}
use Rattle.ball_doors.proofs.ball_door.margins_ball.Goals as goal

pub replied-requires : goal.replied-requires
replied-requires c = search (kept_few ball_kind, rules)
