-- What C sees of decimals out and in: the job's reply as a struct, and every place of the lent lists.
use Rattle.std.specs.Prelude.{◌≡◌, List, ℕ, ℤ}
use Rattle.refusals.specs.Said.{Reply}
use Rattle.refusals.specs.Said.{reply_said}
use Rattle.rules.specs.declared.Ball.{Ball}
use Rattle.replies.specs.declared.MarginsPacked.{MarginsPacked}
use Rattle.replies.specs.declared.MarginsReply.{MarginsReply}
use Rattle.replies.specs.Doors.{margins_packed, margins_reply}
use Rattle.decimal_jobs.specs.Out.{OutLists, ToDecimal}
use Rattle.decimal_jobs.specs.In.{InLists, FromDecimal}

pub record OutDoor (F d : ℤ) (b : Ball) (old new : OutLists) (r : MarginsPacked) : Type 0 where
  pub reply : Reply
  pub job : ToDecimal F d b old new reply
  pub tells : r ≡ margins_packed (reply_said reply)

pub record InDoor (F : ℤ) (number margin : List ℕ) (old new : InLists) (r : MarginsReply) : Type 0 where
  pub reply : Reply
  pub job : FromDecimal F number margin old new reply
  pub tells : r ≡ margins_reply (reply_said reply)
