-- A done job leaves lists that hold its values and outputs and nothing else as they are. Assumes nothing.
use mathlib.Core.Path.{◌≡◌, refl, sym, ◌∙◌, ap, ap₂, subst}
use mathlib.Core.List.{List}
use Prim.Native.Nat.{ℕ}
use native.Mathlib.Nat.{le_refl}
use native.Mathlib.Omega.{arith}
use lib.ListN.{length, get_or, length-map}
use lib.Seq.{take_all}
use Rattle.lists.specs.Over.{over, least}
use Rattle.lists.proofs.Over.{over_start}
use Rattle.lists.specs.Joined.{Rel}
use Rattle.std.specs.declared.result.Result.TheVariants.{Ok}
use Rattle.rules.specs.declared.Ball.{Ball}
use Rattle.rules.specs.Values.{Contains}
use Rattle.rules.specs.Lists.{centres_of, margins_of, middles_of, strays_of, static_margins_of}
use Rattle.formulas.specs.Readings.{BallReadings}
use Rattle.formulas.specs.Kinds.{Kind, ball_kind, matryoshka_kind}
use Rattle.formulas.specs.Job.{job, done, lent, Kept}
use Rattle.formulas.specs.Lawful.{Lawful}
use Rattle.formulas.proofs.Lawful.{ball_lawful}
use Rattle.formulas.proofs.Jobs.{Starts, starts_done, made_many, does, kept_as}
use Rattle.packed.specs.Meaning.{formula}
use Rattle.packed.proofs.WellFormed.{accepted_well_formed}
use Rattle.telling.proofs.Told.{least_same, least_thrice}
use Rattle.demands.specs.Demands.{exact_outputs}
use Rattle.demands.proofs.Demand2.{demand_2}
use Rattle.assurances.specs.Printed.{Encloses, lists_of_balls, lists_of_matryoshki}

-- lists that hold the values and nothing else
pub record Exactly (K : Kind) (lists : List K.Value → K.Lists) : Type 0 where
  pub room_is : (vs : List K.Value) → K.room (lists vs) ≡ length vs
  pub holds_itself : (vs : List K.Value) → K.Holds vs (lists vs) (lists vs)

over_itself : {A : Type 0} (l : List A) → l ≡ over l l
over_itself l = over_start l refl (take_all (length l) l (le_refl (length l)))

pub exact_balls : Exactly ball_kind lists_of_balls
exact_balls =
    record {
      room_is = λ vs. ap₂ least (length-map vs _) (length-map vs _) ∙ least_same (length vs);
      holds_itself = λ vs. record { centres_hold = over_itself (centres_of vs); margins_hold = over_itself (margins_of vs) };
    }

pub exact_matryoshki : Exactly matryoshka_kind lists_of_matryoshki
exact_matryoshki =
    record {
      room_is = λ vs. ap₂ least (length-map vs _) (ap₂ least (length-map vs _) (length-map vs _)) ∙ least_thrice (length vs);
      holds_itself = λ vs. record {
        middles_hold = over_itself (middles_of vs);
        strays_hold = over_itself (strays_of vs);
        margins_hold = over_itself (static_margins_of vs);
      };
    }

pub exact_kept : {K : Kind} {lists : List K.Value → K.Lists} → Lawful K → Exactly K lists → (bytes : List ℕ) (given : K.Readings) (work output : ℕ) {vs os : List K.Value}
    → job K (formula bytes) given work output ≡ done vs os
    → Kept K (formula bytes) given (lent K (lists vs) (lists os)) (lent K (lists vs) (lists os)) (Ok (length os))
exact_kept {K} {lists} law x bytes given work output {vs} {os} e =
    let d = does K (formula bytes) given work output e in
    let well = accepted_well_formed bytes d.started.means in
    let many = ap length d.picks ∙ length-map d.on.formula.results (λ o. get_or vs o K.nothing) in
    let p : Starts K (formula bytes) given (K.room (lists vs)) (K.room (lists os)) d.on =
    record {
      means = d.started.means;
      fits = d.started.fits;
      work_room = omega (arith, x.room_is vs, made_many law (formula bytes) given work output d.started well d.finishes);
      output_room = omega (arith, x.room_is os, many, well.results_long);
    } in
    kept_as law (Ok (length os))
    (starts_done K (formula bytes) given (K.room (lists vs)) (K.room (lists os)) p d.finishes ∙ ap (done vs) (sym d.picks))
    refl (x.holds_itself vs) (x.holds_itself os)

-- demand 2 of the outputs of any ball job that is done
pub done_encloses : (bytes : List ℕ) (given : BallReadings) (work output : ℕ) {vs bs : List Ball} → job ball_kind (formula bytes) given work output ≡ done vs bs
    → Encloses bytes given bs
done_encloses bytes given work output {vs} {bs} e =
    let h = demand_2 (exact_kept ball_lawful exact_balls bytes given work output e) in
    record {
      meant = h.meant;
      means = h.means;
      as_many = h.as_many;
      inside = λ xs ys c x.
          subst (λ (l : List Ball). Rel (Contains h.meant.header.scale) l (exact_outputs h.meant ys))
          (ball_lawful.front_holds bs (length bs) (lists_of_balls bs) (lists_of_balls bs) refl (exact_balls.holds_itself bs)) (h.outputs_inside xs ys c x);
    }
