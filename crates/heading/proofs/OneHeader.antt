-- Passing the header allows one outcome. Assumes nothing.
use mathlib.Core.Path.{◌≡◌, sym, ◌∙◌, ap}
use mathlib.Core.List.{List}
use Prim.Native.Nat.{ℕ}
use Rattle.std.specs.declared.result.Result.TheVariants.{Ok, Err}
use Rattle.refusals.proofs.Answers.{no_value}
use Rattle.refusals.proofs.OneReply.{one_refusal}
use Rattle.bits.proofs.OneField.{one_cursor}
use Rattle.heading.specs.HeaderAnswers.{Passed}
use Rattle.heading.specs.HeaderAnswers.{HeaderPassed}

pub header_one_outcome : (s : List ℕ) (x : ℕ) (r t : Passed) → HeaderPassed s x r → HeaderPassed s x t → r ≡ t
header_one_outcome s x (Ok c) (Ok d) a b = ap Ok (one_cursor c d (a.well.past ∙ sym b.well.past))
header_one_outcome s x (Ok c) (Err q) a b = absurd (no_value (sym b.is ∙ a.is))
header_one_outcome s x (Err q) (Ok d) a b = absurd (no_value (sym a.is ∙ b.is))
header_one_outcome s x (Err q) (Err z) a b = ap Err (one_refusal (sym a.is ∙ b.is))
