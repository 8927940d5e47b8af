-- So many outputs at the most are told.
use borrow.Author.Rules.{rules}
use Rattle.formulas.specs.Kinds.{plain_kind}
use Rattle.replies.proofs.Telling.{kept_few}
use Rattle.plain_door.proofs.margins_plain.Goals as goal

pub replied-requires : goal.replied-requires
replied-requires c = search (kept_few plain_kind, rules)
