-- What C sees of making a card and of using it: the job's reply as a struct, and every place of the lent lists.
use Rattle.std.specs.Prelude.{◌≡◌, List, ℕ}
use Rattle.refusals.specs.Said.{Reply}
use Rattle.refusals.specs.Said.{reply_said}
use Rattle.formulas.specs.Readings.{Domain}
use Rattle.packed.specs.Meaning.{formula}
use Rattle.replies.specs.declared.MarginsReply.{MarginsReply}
use Rattle.replies.specs.Doors.{margins_reply}
use Rattle.cards.specs.Using.{Use}
use Rattle.cards.specs.Lent.{CardLists, CardKept, UseKept}

pub record CardDoor (s : List ℕ) (g : Domain) (old new : CardLists) (r : MarginsReply) : Type 0 where
  pub reply : Reply
  pub job : CardKept (formula s) g old new reply
  pub tells : r ≡ margins_reply (reply_said reply)

pub record UseDoor (u : Use) (old new : List ℕ) (r : MarginsReply) : Type 0 where
  pub reply : Reply
  pub job : UseKept u old new reply
  pub tells : r ≡ margins_reply (reply_said reply)
