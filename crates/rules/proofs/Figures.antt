-- Document 01's marked figures follow from the written rules: one table, one claim; and so do those of requests b, e and g. Assumes nothing.
use mathlib.Core.Path.{refl}
use Rattle.rules.specs.Numbers.{h, Round, Up}
use Rattle.rules.specs.Reciprocals.{Inverse, inexact}
use Rattle.rules.specs.Steps.{within_reach}
use Rattle.rules.specs.Matryoshki.{is_whole, rounding_doubt}
use Rattle.rules.specs.Figures.{figures, coefficient_figures, reciprocal_figures, whole_figures, Hold}

pub figures_hold : Hold figures
unfolding h Round Up within_reach is_whole rounding_doubt
figures_hold = refl

pub coefficients_hold : Hold coefficient_figures
unfolding h Round Up within_reach is_whole rounding_doubt
coefficients_hold = refl

pub reciprocals_hold : Hold reciprocal_figures
unfolding Inverse inexact within_reach
reciprocals_hold = refl

pub wholes_hold : Hold whole_figures
unfolding h Round Up within_reach is_whole rounding_doubt
wholes_hold = refl
