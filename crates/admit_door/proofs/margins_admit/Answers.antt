-- So many outputs at the most are told.
use borrow.Author.Rules.{rules}
use Rattle.formulas.specs.Kinds.{matryoshka_kind}
use Rattle.replies.proofs.Telling.{kept_few}
use Rattle.admit_door.proofs.margins_admit.Goals as goal

pub replied-requires : goal.replied-requires
replied-requires c = search (kept_few matryoshka_kind, rules)
