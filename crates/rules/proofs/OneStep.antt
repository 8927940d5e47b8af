-- A step's answer stands for one outcome alone: two outcomes that stand for the same answer are equal. So a contract that fixes what an
-- outcome stands for fixes the outcome. Assumes nothing.
use mathlib.Core.Path.{◌≡◌, sym, ap}
use Rattle.std.specs.declared.result.Result.TheVariants.{Ok, Err}
use Rattle.refusals.proofs.Answers.{no_value, same_value}
use Rattle.refusals.proofs.OneReply.{one_refusal}
use Rattle.rules.specs.Steps.{PlainStep}
use Rattle.rules.specs.Steps.{BallStep}
use Rattle.rules.specs.Steps.{MatryoshkaStep}
use Rattle.rules.specs.Steps.{plain_answer, ball_answer, matryoshka_answer}

pub plain_step_one_outcome : (r s : PlainStep) → plain_answer r ≡ plain_answer s → r ≡ s
plain_step_one_outcome (Ok x) (Ok y) e = ap Ok (same_value e)
plain_step_one_outcome (Ok x) (Err r) e = absurd (no_value (sym e))
plain_step_one_outcome (Err q) (Ok y) e = absurd (no_value e)
plain_step_one_outcome (Err q) (Err r) e = ap Err (one_refusal e)

pub ball_step_one_outcome : (r s : BallStep) → ball_answer r ≡ ball_answer s → r ≡ s
ball_step_one_outcome (Ok x) (Ok y) e = ap Ok (same_value e)
ball_step_one_outcome (Ok x) (Err r) e = absurd (no_value (sym e))
ball_step_one_outcome (Err q) (Ok y) e = absurd (no_value e)
ball_step_one_outcome (Err q) (Err r) e = ap Err (one_refusal e)

pub matryoshka_step_one_outcome : (r s : MatryoshkaStep) → matryoshka_answer r ≡ matryoshka_answer s → r ≡ s
matryoshka_step_one_outcome (Ok x) (Ok y) e = ap Ok (same_value e)
matryoshka_step_one_outcome (Ok x) (Err r) e = absurd (no_value (sym e))
matryoshka_step_one_outcome (Err q) (Ok y) e = absurd (no_value e)
matryoshka_step_one_outcome (Err q) (Err r) e = ap Err (one_refusal e)
