-- What a job leaves in the lists that it was lent.
use Rattle.std.specs.Prelude.{◌≡◌}
use Rattle.refusals.specs.Said.{Reply}

-- the reply, and every place of the lent lists: later places keep what they held, `put` being one in front of the other
pub record Leaves {L : Type 0} (put : L → L → L) (Answers : L → Reply → L → Type 0) (old new : L) (r : Reply) : Type 0 where
  pub front : L
  pub answers : Answers old r front
  pub writes : new ≡ put front old
