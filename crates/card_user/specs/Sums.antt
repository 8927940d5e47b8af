-- The margin of one output and of all, as the code adds them up, and what they may take for granted.
use Rattle.std.specs.Prelude.{◌≡◌, cond, List, map, ℕ, ◌*◌, ◌^◌, ◌≤◌, ◌<◌, leb, ℤ, nat_abs, length, get_or, take, drop}
use Rattle.std.specs.declared.option.Option.{Option}
use Rattle.std.specs.declared.option.Option.TheVariants.{None, Some}
use Rattle.lists.specs.Over.{over}
use Rattle.std.specs.declared.result.Result.TheVariants.{Ok}
use Rattle.refusals.specs.Said.{Reply}
use Rattle.refusals.specs.Places.{Verdict}
use Rattle.refusals.specs.Answer.{value, then}
use Rattle.refusals.specs.Places.{Placed, verdict_says}
use Rattle.refusals.specs.Said.{reply_said}
use Rattle.rules.specs.Numbers.{M, Up, top_scale}
use Rattle.formulas.specs.Readings.{number_at}
use Rattle.cards.specs.Slopes.{largest}
use Rattle.cards.specs.Card.{card_margin, card_in, card_margins}
use Rattle.cards.specs.Using.{sums_within}
use Rattle.cards.specs.Lent.{margins_in, use_said}
use Rattle.card_user.specs.declared.Card.{Card}
use Rattle.card_user.specs.Tests.{Holds}

-- the product of a slope and a reading's margin is small
pub record Rising (F slope margin : ℕ) : Type 0 where
  pub scale_small : F ≤ top_scale
  pub product_small : slope * margin ≤ M * M

-- "L·s/Q rounded up"
pub record Rises (F slope margin r : ℕ) : Type 0 where
  pub is : r ≡ Up F (slope * margin)
  pub small : r < 2 ^ 62

-- a card that fits, and its readings' margins
pub record Summable (c : Card) (rs : List ℤ) : Type 0 where
  pub scale_small : c.scale ≤ top_scale
  pub holds : Holds c
  pub static_small : largest (take c.outputs c.static_margins.now) ≤ M
  pub slopes_small : largest (take (c.outputs * c.inputs) c.slopes.now) ≤ M
  pub margins_there : length rs ≡ c.inputs
  pub margins_small : (i : ℕ) → i < c.inputs → nat_abs (number_at rs i) ≤ M

-- the sum of output j
abbrev pub output_sum : Card → List ℤ → ℕ → ℕ
output_sum c rs j =
    card_margin c.scale (map nat_abs rs) (get_or c.static_margins.now j 0) (take c.inputs (drop (j * c.inputs) c.slopes.now))

-- unless it is past M
abbrev pub within : ℕ → Option ℕ
within n = cond (leb n M) (Some n) None

pub record AddsUp (c : Card) (rs : List ℤ) (j : ℕ) (r : Option ℕ) : Type 0 where
  pub is : r ≡ within (output_sum c rs j)

abbrev pub output_sums : Card → List ℤ → List ℕ
output_sums c rs = card_margins c.scale (card_in c.inputs c.outputs c.static_margins.now c.slopes.now) (map nat_abs rs)

-- all sums, or the first that passes M
pub record SumsUp (c : Card) (rs : List ℤ) (old new : List ℕ) (v : Verdict) : Type 0 where
  pub says : verdict_says v ≡ sums_within 0 (output_sums c rs)
  pub holds : v ≡ Ok tt → new ≡ over (output_sums c rs) old

abbrev pub sums_answer : List ℕ → Placed (List ℕ)
sums_answer rs = then (sums_within 0 rs) (λ w. value rs)

pub record Puts (c : Card) (rs : List ℤ) (old new : List ℕ) (r : Reply) : Type 0 where
  pub says : reply_said r ≡ use_said (sums_answer (output_sums c rs))
  pub holds : new ≡ over (margins_in (sums_answer (output_sums c rs))) old
