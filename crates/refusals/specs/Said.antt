-- What a reply says: the number of outputs, or a refusal's number and its place.
use Rattle.std.specs.Prelude.{ℕ}
use Rattle.std.specs.declared.result.Result.{Result}
use Rattle.std.specs.declared.result.Result.TheVariants.{Ok, Err}
use Rattle.refusals.specs.declared.Refused.{Refused}
use Rattle.refusals.specs.Refusals.{refusal_number}

pub data Said : Type 0 where
  answered : ℕ → Said
  refuses : ℕ → ℕ → Said

-- how a job ended: with so many outputs, or refused
abbrev pub Reply : Type 0
Reply = Result ℕ Refused

abbrev pub reply_said : Reply → Said
reply_said (Ok n) = answered n
reply_said (Err e) = refuses (refusal_number e.why) e.place
