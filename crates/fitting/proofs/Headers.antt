-- What the first two fields of a header may be given. Assumes nothing.
use mathlib.Core.Path.{◌≡◌, refl}
use lib.IntN.{ℤ, pos, negsuc}
use Rattle.packed.specs.Items.{scale, inputs}
use Rattle.packing.specs.Packing.{fits}
use Rattle.whole.specs.Limits.{is_below}

pub fits_scale : (z : ℤ) → fits scale z ≡ is_below 31 z
fits_scale (pos n) = refl
fits_scale (negsuc n) = refl

pub fits_inputs : (z : ℤ) → fits inputs z ≡ is_below 17 z
fits_inputs (pos n) = refl
fits_inputs (negsuc n) = refl
