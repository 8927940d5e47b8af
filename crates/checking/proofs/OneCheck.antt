-- The check's contract allows one outcome. Assumes nothing.
use mathlib.Core.Path.{◌≡◌}
use Rattle.refusals.proofs.OneReply.{one_bare}
use Rattle.checking.specs.CheckAnswers.{Checked, check_answer}

pub check_one_outcome : (r s : Checked) → check_answer r ≡ check_answer s → r ≡ s
check_one_outcome = one_bare
