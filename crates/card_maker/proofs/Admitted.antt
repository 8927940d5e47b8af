-- The admission in the code's shape. Assumes nothing.
use mathlib.Core.Path.{◌≡◌}
use mathlib.Core.List.{List}
use Prim.Native.Nat.{ℕ}
use native.Mathlib.Omega.{arith}
use lib.IntN.{ℤ}
use lib.ListN.{length}
use Rattle.lists.specs.Over.{least}
use Rattle.lists.proofs.Over.{both_least}
use Rattle.rules.specs.Lists.{matryoshka_lists}
use Rattle.formulas.specs.declared.Header.{Header}
use Rattle.formulas.specs.Readings.{Domain}
use Rattle.formulas.specs.Kinds.{matryoshka_kind}
use Rattle.formulas.proofs.Fitting.{let_in, DomainFit, domain_fit}
use Rattle.card_maker.specs.Parts.{all_places, Begun, Admissible, Runnable}

pub fit_of : {s : List ℕ} {h : Header} {g : Domain} → Begun s h g → DomainFit h.inputs g
fit_of {h = h} {g} b = domain_fit g (let_in matryoshka_kind h.inputs g b.fits).0

-- lists of 528 places are long enough for every formula
pub admit_runnable : {s : List ℕ} {h : Header} {g : Domain} {ms : List ℤ} {ss rs : List ℕ} → length ms ≡ 528 → length ss ≡ 528
    → Admissible s h g rs → Runnable matryoshka_kind s h g (matryoshka_lists ms ss rs)
admit_runnable {ms = ms} {ss} {rs} x y p =
    record {
      is_formula = p.begun.is_formula;
      fits = p.begun.fits;
      room =
          both_least all_places (length ms) (least (length ss) (length rs)) (omega (arith, x))
          (both_least all_places (length ss) (length rs) (omega (arith, y)) p.margins_room);
    }
