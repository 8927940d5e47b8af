-- A run from its copied inputs to its end, in the code's shape, once for the three kinds. Assumes nothing.
use mathlib.Core.Path.{◌≡◌, refl, sym, ◌∙◌, ap, ap₂, subst}
use mathlib.Core.List.{List, map}
use Prim.Native.Nat.{ℕ, ◌≤◌, ◌<◌}
use native.Mathlib.Omega.{arith}
use lib.ListN.{length, get_or, length-map}
use Rattle.lists.specs.Each.{Each}
use Rattle.lists.specs.All.{All}
use Rattle.std.specs.declared.result.Result.TheVariants.{Ok, Err}
use Rattle.refusals.specs.declared.Refused.{Refused}
use Rattle.refusals.specs.Said.{Reply}
use Rattle.refusals.proofs.OneReply.{passed_on}
use Rattle.std.specs.Prelude.{IsErrAnd}
use Rattle.refusals.specs.Answer.{value}
use Rattle.refusals.specs.Said.{answered}
use Rattle.refusals.proofs.Answers.{first_of, same_value, then_value}
use Rattle.bits.specs.declared.Cursor.{Cursor}
use Rattle.formulas.specs.declared.Header.{Header}
use Rattle.formulas.specs.Formula.{Formula, places}
use Rattle.formulas.specs.Run.{Walk, finished, stopped, run, made_by, walk_end}
use Rattle.formulas.specs.Kinds.{Kind, tested}
use Rattle.formulas.specs.Job.{Started, Result, done, walk_ended, started_run, work_of, outputs_of, said, Lent, lent, lent_start, Kept}
use Rattle.formulas.proofs.Fitting.{let_in}
use Rattle.formulas.proofs.Walks.{run_long, run_longer}
use Rattle.formulas.specs.Lawful.{Values, Lawful}
use Rattle.formulas.proofs.Jobs.{starts, job_started, ends_stopped, ends_done}
use Rattle.packed.specs.Meaning.{formula, meant, checked}
use Rattle.packed.proofs.Formed.{Formed, formed, limits_of, meant_is}
use Rattle.walks.specs.Walks.{Walked}
use Rattle.walks.specs.Walks.{walked_said, Walkable, walk_of, Walks}
use Rattle.outputs.specs.Picking.{Pickable, Picks}
use Rattle.walks.specs.Copying.{Copyable, Copies}
use Rattle.running.specs.Ready.{Begins, Finishable, Finishes}

-- the formula and the values that a run starts on
pub record Begun (K : Kind) (s : List ℕ) (h : Header) (given : K.Readings) (old : Lent K) : Type 0 where
  pub values : List K.Value
  pub begun : lent_start K (formula s) given old ≡ value (record { formula = meant s; values = values })
  pub is_header : (meant s).header ≡ h
  pub is_formula : checked s ≡ value h
  pub fits : tested K h.inputs given ≡ value values
  pub work_room : places h ≤ K.room old.work
  pub output_room : h.outputs ≤ K.room old.output

pub begun_by : {K : Kind} {s : List ℕ} {h : Header} {given : K.Readings} {old : Lent K} → Begins K s h given old → Begun K s h given old
unfolding checked
begun_by {K} {s} {h} {given} {old} b =
    let a = first_of (lent_start K (formula s) given old) (λ st. value st.formula.header) b.starts_with in
    let st = a.first in
    let e = same_value a.then_was in
    let p = starts K (formula s) given (K.room old.work) (K.room old.output) a.was in
    let m = sym (meant_is s p.means) in
    record {
      values = st.values;
      begun = a.was ∙ ap (λ (f : Formula). value (record { formula = f; values = st.values })) m;
      is_header = ap (λ (f : Formula). f.header) (sym m) ∙ e;
      is_formula = then_value (λ (f : Formula). value f.header) p.means ∙ ap value e;
      fits = subst (λ (g : Header). tested K g.inputs given ≡ value st.values) e p.fits;
      work_room = subst (λ (g : Header). places g ≤ K.room old.work) e p.work_room;
      output_room = subst (λ (g : Header). g.outputs ≤ K.room old.output) e p.output_room;
    }

-- from the inputs in front of the work lists to the end
module _ {K : Kind} (law : Lawful K) {s : List ℕ} {h : Header} {work output new : K.Lists} {r : Walked} (w : Walks K s h work new r) where
  pub finish_stopped : {e : Refused} → r ≡ Err e → Finishable K s h (lent K work output)
      → Finishes K s h (lent K work output) (lent K new output) (Err e)
  finish_stopped t f =
      let e = ends_stopped K.nothing (meant s) (walk_of K s h work) (sym (ap walked_said t) ∙ w.says ∙ counts) in
      record { says = ap said (sym e); works = w.holds; gives = subst (λ (j : Result K.Value). K.Holds (outputs_of j) output output) (sym e) (law.holds_none output) }
    where
      counts : walk_end h.inputs (walk_of K s h work) ≡ walk_end (meant s).header.inputs (walk_of K s h work)
      counts = ap (λ (g : Header). walk_end g.inputs (walk_of K s h work)) (sym (formed s f.walkable.is_formula).is_header)

  module _ {d : Cursor} (t : r ≡ Ok d) (f : Finishable K s h (lent K work output)) where
    there : Formed s h
    there = formed s f.walkable.is_formula

    ends : (walk_ended K.nothing (meant s) (walk_of K s h work) ≡ done (made_by (walk_of K s h work)) (map (λ o. get_or (made_by (walk_of K s h work)) o K.nothing) (meant s).results))
        × (walk_of K s h work ≡ finished (made_by (walk_of K s h work)))
    ends =
        ends_done K.nothing (meant s) (walk_of K s h work)
        (sym (ap walked_said t) ∙ w.says ∙ ap (λ (g : Header). walk_end g.inputs (walk_of K s h work)) (sym there.is_header))

    all_made : length (made_by (walk_of K s h work)) ≡ places h
    all_made =
        run_long (K.rule h.scale) K.nothing (meant s).program (K.front h.inputs work) ends.1
        ∙ omega (arith, law.front_many h.inputs work (omega (arith, f.walkable.room)), there.well.program_long, ap (λ (g : Header). g.instructions) there.is_header)

    pub finish_pickable : Pickable s d h.outputs (K.room new) (K.room output)
    finish_pickable =
        let same = law.room_holds (made_by (walk_of K s h work)) work new (omega (arith, all_made, f.walkable.room)) w.holds in
        record {
          at_outputs = rw t at w.stands;
          counts = ap (λ (g : Header). g.outputs) (sym there.is_header);
          few = (limits_of there).outputs_few;
          enough = omega (arith, same, f.walkable.room, ap places there.is_header);
          room = f.output_room;
        }

    pub outputs_named : Each (λ j o. o < places h) 0 (meant s).results
    outputs_named = subst (λ (g : Header). Each (λ j o. o < places g) 0 (meant s).results) there.is_header there.well.results_below

    pub values_enough : places h ≤ length (made_by (walk_of K s h work))
    values_enough = omega (arith, all_made)

    -- the outputs hold what the walk's values are at the places named
    pub finish_done : {out : K.Lists} → K.Holds (map (λ o. get_or (made_by (walk_of K s h work)) o K.nothing) (meant s).results) output out
        → Finishes K s h (lent K work output) (lent K new out) (Ok h.outputs)
    finish_done {out} o =
        record {
          says =
              ap answered (sym (length-map (meant s).results (λ o. get_or (made_by (walk_of K s h work)) o K.nothing) ∙ there.well.results_long
              ∙ ap (λ (g : Header). g.outputs) there.is_header))
              ∙ ap said (sym ends.0);
          works = w.holds;
          gives = subst (λ (j : Result K.Value). K.Holds (outputs_of j) output out) (sym ends.0) o;
        }

-- the inputs were copied to the front of the work lists
pub record Copied (K : Kind) (s : List ℕ) (h : Header) (given : K.Readings) (old : Lent K) (now : K.Lists) : Type 0 where
  pub begun_on : Begun K s h given old
  pub holds : K.Holds begun_on.values old.work now

module _ {K : Kind} (law : Lawful K) {s : List ℕ} {h : Header} {given : K.Readings} {old : Lent K} {now : K.Lists} (c : Copied K s h given old now) where
  inputs : Values K h.inputs c.begun_on.values
  inputs = law.tested_values h.inputs given c.begun_on.fits

  in_front : K.front h.inputs now ≡ c.begun_on.values
  in_front = law.front_holds c.begun_on.values h.inputs old.work now inputs.many c.holds

  pub copied_finishable : Finishable K s h (lent K now old.output)
  copied_finishable =
      let same = law.room_holds c.begun_on.values old.work now (omega (arith, inputs.many, c.begun_on.work_room)) c.holds in
      record {
        walkable =
            record {
              is_formula = c.begun_on.is_formula;
              room = omega (arith, c.begun_on.work_room, same);
              legal = subst (All K.Legal) (sym in_front) inputs.legal;
            };
        output_room = c.begun_on.output_room;
      }

  -- the walk from the copied inputs is the run that the job speaks of
  pub copied_kept : {new : Lent K} {r : Reply} → Finishes K s h (lent K now old.output) new r → Kept K (formula s) given old new r
  copied_kept {new} {r} f =
      let st : Started K = record { formula = meant s; values = c.begun_on.values } in
      let is : walk_of K s h now ≡ started_run K st =
      ap₂ (λ (g : Header) (vs : List K.Value). run (K.rule g.scale) K.nothing (meant s).program vs) (sym c.begun_on.is_header) in_front in
      let job = job_started K (formula s) given (K.room old.work) (K.room old.output) c.begun_on.begun in
      let ends = ap (walk_ended K.nothing (meant s)) is ∙ sym job in
      let grown = subst (λ (x : Walk K.Value). length c.begun_on.values ≤ length (made_by x)) (sym is)
      (run_longer (K.rule (meant s).header.scale) K.nothing (meant s).program c.begun_on.values) in
      record {
        says = f.says ∙ ap said ends;
        works =
            subst (λ (vs : List K.Value). K.Holds vs old.work new.work) (sym (work_made (walk_of K s h now)) ∙ ap work_of ends)
            (law.holds_over c.begun_on.values (made_by (walk_of K s h now)) old.work now new.work grown c.holds f.works);
        gives = subst (λ (j : Result K.Value). K.Holds (outputs_of j) old.output new.output) ends f.gives;
      }
    where
      work_made : (x : Walk K.Value) → work_of (walk_ended K.nothing (meant s) x) ≡ made_by x
      work_made (finished vs) = refl
      work_made (stopped n vs) = refl

-- the run in the code's shape: readings copied, instructions walked, outputs picked
module _ {K : Kind} (law : Lawful K) {s : List ℕ} {h : Header} {given : K.Readings} {work output : K.Lists}
    (b : Begins K s h given (lent K work output)) where
  begun_on : Begun K s h given (lent K work output)
  begun_on = begun_by b

  values_are : K.values given ≡ begun_on.values
  values_are = (let_in K h.inputs given begun_on.fits).1

  pub run_copyable : Copyable K h.inputs given work
  run_copyable =
      record {
        passed = begun_on.fits ∙ ap value (sym values_are);
        room = omega (arith, begun_on.work_room);
      }

  module _ {now : K.Lists} (c : Copies K given work now) where
    copied : Copied K s h given (lent K work output) now
    copied = record { begun_on = begun_on; holds = subst (λ (vs : List K.Value). K.Holds vs work now) values_are c.holds }

    pub run_walkable : Walkable K s h now
    run_walkable = (copied_finishable law copied).walkable

    module _ {new : K.Lists} {r : Walked} (w : Walks K s h now new r) where
      pub run_stops : {out : K.Lists} {e : Refused} {q : Reply} → out ≡ output → r ≡ Err e → IsErrAnd q (λ x. x ≡ e)
          → Kept K (formula s) given (lent K work output) (lent K new out) q
      run_stops {q = q} same t u =
          subst (λ (l : K.Lists). Kept K (formula s) given (lent K work output) (lent K new l) q) (sym same)
          (subst (λ (q : Reply). Kept K (formula s) given (lent K work output) (lent K new output) q) (sym (passed_on u))
          (copied_kept law copied (finish_stopped law w t (copied_finishable law copied))))

      module _ {d : Cursor} (t : r ≡ Ok d) {mid : K.Lists} (same : mid ≡ output) where
        pub run_pickable : Pickable s d h.outputs (K.room new) (K.room mid)
        run_pickable =
            subst (λ (l : K.Lists). Pickable s d h.outputs (K.room new) (K.room l)) (sym same) (finish_pickable law w t (copied_finishable law copied))

        pub run_done : {last out : K.Lists} → last ≡ new → Picks K s new mid out → Kept K (formula s) given (lent K work output) (lent K last out) (Ok h.outputs)
        run_done {last} {out} still p =
            subst (λ (l : K.Lists). Kept K (formula s) given (lent K work output) (lent K l out) (Ok h.outputs)) (sym still)
            (copied_kept law copied
            (finish_done law w t (copied_finishable law copied)
            (subst (λ (l : K.Lists). K.Holds (map (λ o. get_or (made_by (walk_of K s h now)) o K.nothing) (meant s).results) l out) same
            (subst (λ (vs : List K.Value). K.Holds (map (λ o. get_or vs o K.nothing) (meant s).results) mid out) made_seen p.holds))))
          where
            made_seen : K.front (places (meant s).header) new ≡ made_by (walk_of K s h now)
            made_seen =
                law.front_holds (made_by (walk_of K s h now)) (places (meant s).header) now new
                (all_made law w t (copied_finishable law copied) ∙ ap places (sym begun_on.is_header)) w.holds
