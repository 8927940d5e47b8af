-- What a finished job gives is legal, once for the three kinds. Assumes nothing.
use mathlib.Core.Path.{sym, subst}
use mathlib.Core.List.{List}
use Prim.Native.Nat.{ℕ}
use native.Mathlib.Omega.{arith}
use Rattle.lists.specs.All.{All}
use Rattle.lists.proofs.Each.{all_picked}
use Rattle.refusals.specs.Answer.{Answer}
use Rattle.formulas.specs.Formula.{Formula, WellFormed}
use Rattle.formulas.specs.Kinds.{Kind}
use Rattle.formulas.proofs.Walks.{run_keeps}
use Rattle.formulas.specs.Lawful.{Lawful}
use Rattle.formulas.proofs.Jobs.{made_many, Does}

pub outputs_legal : {K : Kind} → Lawful K → (a : Answer Formula) (given : K.Readings) (work output : ℕ) {vs os : List K.Value}
    (d : Does K a given work output vs os) → WellFormed d.on.formula → All K.Legal os
outputs_legal {K} law a given work output d well =
    let f = d.on.formula in
    subst (All K.Legal) (sym d.picks)
    (all_picked K.nothing
    (run_keeps (K.rule f.header.scale) K.nothing (λ o v. law.rule_legal f.header.scale o) f.program d.on.values
    (law.tested_values f.header.inputs given d.started.fits).legal d.finishes)
    well.results_below (omega (arith, made_many law a given work output d.started well d.finishes)))
