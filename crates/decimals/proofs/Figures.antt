-- The worked figures hold. Assumes nothing.
use mathlib.Core.Path.{◌≡◌, refl}
use mathlib.Core.List.{map}
use Rattle.rules.specs.Numbers.{h, Round, Up}
use Rattle.decimals.specs.Out.{out}
use Rattle.reciprocals.specs.Nearest.{nearest, unless_divides}
use Rattle.decimals.specs.In.{into}
use Rattle.decimals.specs.Figures.{Counted, Made, out_figures, in_figures}

pub out_hold : map (λ (f : Counted). out f.scale f.decimals f.units) out_figures ≡ map (λ (f : Counted). f.must) out_figures
unfolding h Round Up
out_hold = refl

pub in_hold : map (λ (f : Made). into f.scale f.number f.margin) in_figures ≡ map (λ (f : Made). f.must) in_figures
unfolding nearest unless_divides
in_hold = refl
