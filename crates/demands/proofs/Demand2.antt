-- Demand 2: what an accepted ball job wrote encloses exact arithmetic on every choice of fractions inside the reading margins. Assumes nothing.
use mathlib.Core.Path.{◌≡◌, refl, sym, ◌∙◌, ap, subst}
use mathlib.Core.List.{List, [], map}
use Prim.Native.Nat.{ℕ}
use native.Mathlib.Omega.{arith}
use lib.IntN.{nat_abs}
use lib.ListN.{length}
use Rattle.lists.specs.Each.{Each}
use Rattle.lists.specs.Joined.{Rel}
use Rattle.lists.proofs.Joined.{rel_picked}
use Rattle.std.specs.declared.result.Result.TheVariants.{Ok}
use Rattle.refusals.specs.Answer.{value}
use Rattle.refusals.proofs.Answers.{same_value}
use Rattle.rules.specs.declared.Ball.{Ball}
use Rattle.rules.specs.Values.{Fraction, Contains}
use Rattle.rules.specs.Balls.{ball_rule}
use Rattle.rules.specs.Lists.{balls, no_ball}
use Rattle.formulas.specs.Formula.{Formula, Smaller}
use Rattle.formulas.specs.Readings.{BallReadings}
use Rattle.formulas.specs.Run.{run}
use Rattle.formulas.specs.Kinds.{ball_kind}
use Rattle.formulas.specs.Job.{Lent, Kept}
use Rattle.formulas.specs.ExactRun.{nought, ExactRun, end}
use Rattle.formulas.proofs.Enclosure.{run_encloses, exact_run_goes_on}
use Rattle.formulas.proofs.Fitting.{let_in}
use Rattle.formulas.proofs.Lawful.{ball_lawful}
use Rattle.packed.specs.Meaning.{formula}
use Rattle.demands.specs.Demands.{Chosen, exact_outputs, HasExact, Honest}
use Rattle.demands.proofs.Answering.{Answers, answers, all_made, values_stand, outputs_stand}

-- where exact arithmetic comes through, it has values for the whole formula, so the demands speak of something
pub exact_there : {f : Formula} {given : BallReadings} → HasExact f given → {xs : List Fraction} → Chosen f.header.scale given xs
    → (ys : List Fraction) × ExactRun f.header.scale f.program xs ys
exact_there {f} h {xs} c = h.comes_through [] f.program refl xs xs c end

module _ {s : List ℕ} {given : BallReadings} {old new : Lent ball_kind} {n : ℕ} (a : Answers ball_kind s given old new n) where
  -- the run's inputs are the readings
  are_readings : balls given.centres (map nat_abs given.margins) ≡ a.on.values
  are_readings = (let_in ball_kind a.on.formula.header.inputs given a.started.fits).1

  as_named : Each (Smaller a.on.formula.header.scale) (length a.on.values) a.on.formula.program
  as_named =
      subst (λ (m : ℕ). Each (Smaller a.on.formula.header.scale) m a.on.formula.program)
      (sym (ball_lawful.tested_values a.on.formula.header.inputs given a.started.fits).many) a.well.operands_smaller

  inside : {xs : List Fraction} → Chosen a.on.formula.header.scale given xs → Rel (Contains a.on.formula.header.scale) a.on.values xs
  inside {xs} c = subst (λ (bs : List Ball). Rel (Contains a.on.formula.header.scale) bs xs) are_readings c

  -- each fraction inside an accepted ball has its reciprocal
  comes_through : HasExact a.on.formula given
  comes_through =
      record {
        comes_through = λ is js e xs ys c x.
            exact_run_goes_on a.on.formula.header.scale no_ball is js (inside c)
            (subst (Each (Smaller a.on.formula.header.scale) (length a.on.values)) e as_named)
            (ap (λ l. run (ball_rule a.on.formula.header.scale) no_ball l a.on.values) (sym e) ∙ a.finishes) x;
      }

  encloses : {xs ys : List Fraction} → Chosen a.on.formula.header.scale given xs
      → ExactRun a.on.formula.header.scale a.on.formula.program xs ys → Rel (Contains a.on.formula.header.scale) a.made ys
  encloses c x = run_encloses a.on.formula.header.scale no_ball a.on.formula.program (inside c) as_named a.finishes x

-- a ball run that answered: exact arithmetic comes through for all choices inside its readings
pub exact_in_ball_run : (s : List ℕ) {given : BallReadings} {old new : Lent ball_kind} {n : ℕ} → Kept ball_kind (formula s) given old new (Ok n)
    → {f : Formula} → formula s ≡ value f → HasExact f given
exact_in_ball_run s {given} k e =
    let a = answers k in
    subst (λ (f : Formula). HasExact f given) (same_value (sym a.started.means ∙ e)) (comes_through a)

pub demand_2 : {s : List ℕ} {given : BallReadings} {old new : Lent ball_kind} {n : ℕ} → Kept ball_kind (formula s) given old new (Ok n) → Honest s given new n
demand_2 {s} {given} {old} {new} {n} k =
    let a = answers k in
    let F = a.on.formula.header.scale in
    record {
      meant = a.on.formula;
      means = a.started.means;
      as_many = a.as_many ∙ a.well.results_long;
      values_inside = λ xs ys c x. subst (λ (bs : List Ball). Rel (Contains F) bs ys) (sym (values_stand ball_lawful a)) (encloses a c x);
      outputs_inside = λ xs ys c x.
          subst (λ (bs : List Ball). Rel (Contains F) bs (exact_outputs a.on.formula ys)) (sym (outputs_stand ball_lawful a))
          (rel_picked no_ball nought (encloses a c x) a.well.results_below (omega (arith, all_made ball_lawful a)));
    }
