-- The figures of request c follow from the definitions: one table, one claim. Assumes nothing.
use mathlib.Core.Path.{refl}
use Rattle.formulas.specs.Readings.{judged, readings_tested}
use Rattle.formulas.specs.ReadingFigures.{reading_figures, Hold}

pub reading_figures_hold : Hold reading_figures
unfolding judged readings_tested
reading_figures_hold = refl
