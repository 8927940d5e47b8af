-- A run of either kind in the code's shape: the values are copied, and walked on. Assumes nothing.
use mathlib.Core.Path.{◌≡◌, sym, ◌∙◌, ap, subst}
use mathlib.Core.List.{List}
use Prim.Native.Nat.{ℕ, ◌≤◌}
use native.Mathlib.Omega.{arith}
use Rattle.lists.specs.All.{All}
use Rattle.formulas.specs.declared.Header.{Header}
use Rattle.formulas.specs.Formula.{places}
use Rattle.formulas.specs.Run.{Walk, run, made_by, walk_end}
use Rattle.formulas.specs.Kinds.{Kind}
use Rattle.formulas.specs.Lawful.{Lawful, Values}
use Rattle.formulas.proofs.Walks.{run_longer}
use Rattle.packed.specs.Meaning.{meant, checked}
use Rattle.packed.proofs.Formed.{formed, limits_of}
use Rattle.refusals.specs.Answer.{value}
use Rattle.walks.specs.Copying.{Copyable, Copies}
use Rattle.walks.specs.Walks.{Walked, Walkable, walk_of, Walks}
use Rattle.card_maker.specs.Parts.{all_places, Runnable, walk_on, Runs}

-- every formula has places for all its values
pub places_few : (s : List ℕ) {h : Header} → checked s ≡ value h → places h ≤ all_places
places_few s b = let l = limits_of (formed s b) in omega (arith, l.inputs_few, l.instructions_few)

module _ {K : Kind} (law : Lawful K) {s : List ℕ} {h : Header} {g : K.Readings} {work : K.Lists} (p : Runnable K s h g work) where
  pub run_values : Values K h.inputs (K.values g)
  run_values = law.tested_values h.inputs g p.fits

  pub run_copyable : Copyable K h.inputs g work
  run_copyable = record { passed = p.fits; room = omega (arith, p.room, places_few s p.is_formula) }

  module _ {now : K.Lists} (c : Copies K g work now) where
    in_front : K.front h.inputs now ≡ K.values g
    in_front = law.front_holds (K.values g) h.inputs work now run_values.many c.holds

    as_long : K.room now ≡ K.room work
    as_long = law.room_holds (K.values g) work now (omega (arith, run_values.many, p.room, places_few s p.is_formula)) c.holds

    pub run_walkable : Walkable K s h now
    run_walkable =
        record {
          is_formula = p.is_formula;
          room = omega (arith, as_long, p.room, places_few s p.is_formula);
          legal = subst (All K.Legal) (sym in_front) run_values.legal;
        }

    pub run_done : {new : K.Lists} {r : Walked} → Walks K s h now new r → Runs K s h g work new r
    run_done {new} w =
        record {
          says = w.says ∙ ap (walk_end h.inputs) same_walk;
          holds =
              law.holds_over (K.values g) (made_by (walk_on K s h g)) work now new
              (run_longer (K.rule h.scale) K.nothing (meant s).program (K.values g)) c.holds
              (subst (λ (v : Walk K.Value). K.Holds (made_by v) now new) same_walk w.holds);
        }
      where
        same_walk : walk_of K s h now ≡ walk_on K s h g
        same_walk = ap (run (K.rule h.scale) K.nothing (meant s).program) in_front
