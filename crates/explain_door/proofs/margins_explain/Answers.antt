-- A part that is told is one of 0 to 255.
use Rattle.explain_door.proofs.ExplainTelling.{part_fits}
use Rattle.explain_door.proofs.margins_explain.Goals as goal

pub told-requires : goal.told-requires
told-requires c = search part_fits
