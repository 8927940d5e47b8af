-- The figures of request j follow from the definitions: one table for making a card, one for using it. Assumes nothing.
use mathlib.Core.Path.{◌≡◌, refl}
use mathlib.Core.List.{[], ◌∷◌, map}
use lib.IntN.{pos}
use Rattle.refusals.specs.Answer.{value}
use Rattle.rules.specs.Numbers.{h, Round, Up}
use Rattle.rules.specs.Reciprocals.{Inverse, inexact}
use Rattle.rules.specs.Steps.{within_reach}
use Rattle.rules.specs.Balls.{ball}
use Rattle.rules.specs.Matryoshki.{matryoshka, is_whole, rounding_doubt}
use Rattle.formulas.specs.Readings.{judged, readings_tested}
use Rattle.cards.specs.Card.{still}
use Rattle.cards.specs.Making.{admitting, card_made, card_job}
use Rattle.cards.specs.Using.{use_card}
use Rattle.cards.specs.Figures.{power, makings, MakingsHold, usages, UsagesHold}

pub makings_hold : MakingsHold makings
unfolding h Round Up Inverse inexact within_reach is_whole rounding_doubt judged readings_tested card_made card_job
makings_hold = refl

-- x^28 is admitted where its slope is not
pub power_admitted : admitting power (matryoshka (pos 2) 0 0 ∷ [])
    ≡ value
    (map still
    (ball (pos 2) 0 ∷ ball (pos 4) 0 ∷ ball (pos 16) 0 ∷ ball (pos 256) 0 ∷ ball (pos 65536) 0 ∷ ball (pos 16777216) 0 ∷ ball (pos 268435456) 0 ∷ []))
unfolding h Round Up within_reach is_whole rounding_doubt
power_admitted = refl

pub usages_hold : UsagesHold usages
unfolding Up judged readings_tested use_card
usages_hold = refl
