-- What C sees of each job: the reply's number where Rattle has an enum; the lent lists are those of the job.
use Rattle.std.specs.Prelude.{◌≡◌, ℕ}
use Rattle.std.specs.declared.result.Result.TheVariants.{Ok, Err}
use Rattle.refusals.specs.Answer.{Answer, value, refused}
use Rattle.refusals.specs.Said.{Said, answered, refuses}
use Rattle.formulas.specs.declared.Header.{Header}
use Rattle.formulas.specs.Formula as formulas
use Rattle.formulas.specs.Formula.{InLimits}
use Rattle.formulas.specs.Kinds.{Kind}
use Rattle.formulas.specs.Job.{work_of, outputs_of, said, Lent, lent_job}
use Rattle.checking.specs.CheckAnswers.{Checked}
use Rattle.replies.specs.declared.MarginsReply.{MarginsReply}
use Rattle.replies.specs.declared.MarginsFormula.{MarginsFormula}
use Rattle.replies.specs.declared.MarginsPacked.{MarginsPacked}

-- refusal 0 is none
abbrev pub margins_reply : Said → MarginsReply
margins_reply (answered n) = record { refusal = 0; outputs = n; place = 0 }
margins_reply (refuses n k) = record { refusal = n; outputs = 0; place = k }

abbrev pub margins_packed : Said → MarginsPacked
margins_packed (answered n) = record { refusal = 0; bytes = n; place = 0 }
margins_packed (refuses n k) = record { refusal = n; bytes = 0; place = k }

abbrev pub margins_formula : Answer Header → MarginsFormula
margins_formula (value h) =
    record { refusal = 0; scale = h.scale; inputs = h.inputs; outputs = h.outputs; instructions = h.instructions }
margins_formula (refused n) = record { refusal = n; scale = 0; inputs = 0; outputs = 0; instructions = 0 }

-- a header that was checked is within its limits
abbrev pub CheckedInLimits : Checked → Type 0
CheckedInLimits (Ok h) = InLimits h
CheckedInLimits (Err r) = Unit {0}

abbrev pub outputs_told : Said → ℕ
outputs_told (answered n) = n
outputs_told (refuses n k) = 0

-- the reply, and every place of every lent list
pub record Door (K : Kind) (a : Answer formulas.Formula) (given : K.Readings) (old new : Lent K)
    (r : MarginsReply) : Type 0 where
  pub tells : r ≡ margins_reply (said (lent_job K a given old))
  pub works : K.Holds (work_of (lent_job K a given old)) old.work new.work
  pub gives : K.Holds (outputs_of (lent_job K a given old)) old.output new.output
