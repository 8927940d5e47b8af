-- The lists that the two jobs are lent, after each answer: a card in front of E and L, the margins in front of theirs;
-- on a refusal every list keeps its contents. What is told is the number of outputs, as of a run.
use Rattle.std.specs.Prelude.{◌≡◌, List, [], ℕ, pos, length}
use Rattle.lists.specs.Over.{over}
use Rattle.refusals.specs.Said.{Reply}
use Rattle.refusals.specs.Answer.{Answer, value, refused}
use Rattle.refusals.specs.Places.{Placed}
use Rattle.refusals.specs.Said.{Said, answered, refuses, reply_said}
use Rattle.formulas.specs.Formula.{Formula}
use Rattle.formulas.specs.Readings.{BallReadings, Domain, ball_readings}
use Rattle.cards.specs.Card.{Card, flat}
use Rattle.cards.specs.Making.{card_job}
use Rattle.cards.specs.Using.{Use, use_card}

-- E and L
pub record CardLists : Type 0 where
  pub static : List ℕ
  pub slopes : List ℕ

abbrev pub static_in : Placed Card → List ℕ
static_in (value k) = k.static
static_in (refused w) = []

abbrev pub slopes_in : Placed Card → List ℕ
slopes_in (value k) = flat k.slopes
slopes_in (refused w) = []

abbrev pub card_said : Placed Card → Said
card_said (value k) = answered (length k.static)
card_said (refused w) = refuses w.number w.place

abbrev pub lent_card : Answer Formula → Domain → CardLists → Placed Card
lent_card a g lent = card_job a g (length lent.static) (length lent.slopes)

pub record CardKept (a : Answer Formula) (g : Domain) (old new : CardLists) (r : Reply) : Type 0 where
  pub says : reply_said r ≡ card_said (lent_card a g old)
  pub static_holds : new.static ≡ over (static_in (lent_card a g old)) old.static
  pub slopes_hold : new.slopes ≡ over (slopes_in (lent_card a g old)) old.slopes

abbrev pub margins_in : Placed (List ℕ) → List ℕ
margins_in (value rs) = rs
margins_in (refused w) = []

abbrev pub use_said : Placed (List ℕ) → Said
use_said (value rs) = answered (length rs)
use_said (refused w) = refuses w.number w.place

pub record UseKept (u : Use) (old new : List ℕ) (r : Reply) : Type 0 where
  pub says : reply_said r ≡ use_said (use_card u (length old))
  pub holds : new ≡ over (margins_in (use_card u (length old))) old

-- "a card's use is given F, m, n, middles, strays and card"
abbrev pub use_of : Formula → Domain → CardLists → BallReadings → Use
use_of f g lists bs =
    record {
      scale = pos f.header.scale;
      inputs = pos f.header.inputs;
      outputs = pos f.header.outputs;
      domain = ball_readings g.middles g.strays;
      static = lists.static;
      slopes = lists.slopes;
      readings = bs;
    }
