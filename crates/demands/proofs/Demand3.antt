-- Demand 3: what an accepted admission promises of every plain and every ball job on readings within its domain. Assumes nothing.
use mathlib.Core.Path.{◌≡◌, refl, sym, ◌∙◌, ap, ap₂, subst}
use mathlib.Core.List.{List, [], ◌∷◌, map}
use Prim.Native.Nat.{ℕ}
use native.Mathlib.Nat.{le_trans, le_of_eq, add-le-add, add-mul, mul-le-mul_right}
use native.Mathlib.Omega.{arith}
use lib.IntN.{ℤ, pos, nat_abs, ◌-ℤ◌, ◌*ℤ◌}
use lib.ListN.{length, get_or, take, length-map}
use Rattle.lists.specs.Each.{Each}
use Rattle.lists.specs.Over.{over}
use Rattle.lists.specs.Joined.{Rel}
use Rattle.lists.proofs.Joined.{rel_length, rel_picked}
use Rattle.std.specs.declared.result.Result.TheVariants.{Ok}
use Rattle.refusals.specs.Said.{Reply}
use Rattle.refusals.specs.Answer.{value}
use Rattle.refusals.proofs.Answers.{same_value}
use Rattle.rules.specs.declared.Ball.{Ball}
use Rattle.rules.specs.declared.Matryoshka.{Matryoshka}
use Rattle.whole.proofs.Ring.{ring, ◌⊕◌, ◌⊖◌, ◌⊗◌, x₀, x₁, x₂, x₃}
use Rattle.whole.proofs.Size.{size_by, size_add, size_mul}
use Rattle.rules.specs.Numbers.{Q}
use Rattle.rules.specs.Values.{Fraction, Contains, Covers}
use Rattle.rules.specs.Plain.{plain_rule}
use Rattle.rules.specs.Balls.{ball_rule}
use Rattle.rules.specs.Lists.{balls, centres_of, no_ball, matryoshki, static_margins_of, no_matryoshka}
use Rattle.rules.proofs.Lists.{centre_part, static_part, balls_centres}
use Rattle.lists.proofs.PartOf.{part_front}
use Rattle.formulas.specs.Formula.{Formula, Smaller, places}
use Rattle.formulas.specs.Run.{finished, run}
use Rattle.formulas.specs.Readings.{BallReadings, Domain, plain_brought, balls_brought, domain_brought}
use Rattle.formulas.specs.Kinds.{plain_kind, ball_kind, matryoshka_kind}
use Rattle.formulas.specs.Job.{Lent, Kept}
use Rattle.formulas.specs.ExactRun.{nought, ExactRun}
use Rattle.formulas.proofs.Enclosure.{run_encloses, exact_run_goes_on}
use Rattle.formulas.proofs.Covering.{CoveredRun, run_covers}
use Rattle.formulas.proofs.Judging.{Fit}
use Rattle.formulas.proofs.Fitting.{let_in, let_through, ball_fit, balls_even, ball_many}
use Rattle.formulas.proofs.Lawful.{plain_lawful, matryoshka_lawful}
use Rattle.packed.specs.Meaning.{formula}
use Rattle.demands.specs.Demands.{Chosen, exact_outputs, HasExact, InDomain, LongEnough, WithinStray, stray_plus_margin, Admitted}
use Rattle.demands.proofs.Answering.{picked, Answers, answers, all_made, outputs_stand, AnswersWith, answers_with}
use Rattle.demands.proofs.Nearness.{near_covered, near_fit}

-- a ball's centre with the margin of what covers it still contains what the ball contains
covering_margins : (F : ℕ) {ms : List Matryoshka} {bs : List Ball} {xs : List Fraction} → Rel Covers ms bs → Rel (Contains F) bs xs
    → Rel (Contains F) (balls (centres_of bs) (static_margins_of ms)) xs
covering_margins F Rel.none Rel.none = Rel.none
covering_margins F (Rel.one c cs) (Rel.one {b = x} i is) =
    Rel.one (record { near = le_trans i.near (mul-le-mul_right x.denominator c.doubts) }) (covering_margins F cs is)

-- what covers a ball strays from its centre by no more than its stray
covering_strays : {ms : List Matryoshka} {bs : List Ball} → Rel Covers ms bs → Rel WithinStray ms (centres_of bs)
covering_strays Rel.none = Rel.none
covering_strays (Rel.one c cs) = Rel.one c.strays (covering_strays cs)

-- n·Q − C·d is n·Q − c·d and (c − C)·d
near_middle : (F : ℕ) (m : Matryoshka) (b : Ball) (x : Fraction) → Covers m b → Contains F b x → Contains F (stray_plus_margin m) x
near_middle F m b x c i =
    let d = x.denominator in
    record {
      near =
          size_by
          (ring ((x.numerator *ℤ pos (Q F)) ∷ m.middle ∷ b.centre ∷ pos d ∷ []) (x₀ ⊖ x₁ ⊗ x₃) ((x₂ ⊖ x₁) ⊗ x₃ ⊕ (x₀ ⊖ x₂ ⊗ x₃)) refl)
          (le_trans (size_add ((b.centre -ℤ m.middle) *ℤ pos d) (x.numerator *ℤ pos (Q F) -ℤ b.centre *ℤ pos d))
          (le_trans
          (add-le-add
          (le_trans (le_of_eq (size_mul (b.centre -ℤ m.middle) (pos d))) (mul-le-mul_right d c.strays))
          (le_trans i.near (mul-le-mul_right d c.doubts)))
          (le_of_eq (sym (add-mul m.stray m.margin d)))));
    }

covering_middles : (F : ℕ) {ms : List Matryoshka} {bs : List Ball} {xs : List Fraction} → Rel Covers ms bs → Rel (Contains F) bs xs
    → Rel (Contains F) (map stray_plus_margin ms) xs
covering_middles F Rel.none Rel.none = Rel.none
covering_middles F (Rel.one {a = m} {b = b} c cs) (Rel.one {b = x} i is) = Rel.one (near_middle F m b x c i) (covering_middles F cs is)

module _ {s : List ℕ} {d : Domain} {old new : Lent matryoshka_kind} {n : ℕ} (a : Answers matryoshka_kind s d old new n) where
  abbrev F : ℕ
  F = a.on.formula.header.scale

  abbrev os : List ℕ
  os = a.on.formula.results

  was_let_in : Fit a.on.formula.header.inputs (domain_brought d) × (matryoshki d.middles (map nat_abs d.strays) (map nat_abs d.margins) ≡ a.on.values)
  was_let_in = let_in matryoshka_kind a.on.formula.header.inputs d a.started.fits

  module _ {g : BallReadings} (w : InDomain d g) where
    abbrev readings : List Ball
    readings = balls g.centres (map nat_abs g.margins)

    fit : Fit a.on.formula.header.inputs (plain_brought g.centres) × Fit a.on.formula.header.inputs (balls_brought g)
    fit = near_fit w was_let_in.0

    -- the ball run that the admission covers
    covers : CoveredRun F a.on.formula.program readings a.made
    covers =
        run_covers F no_matryoshka a.on.formula.program (subst (λ (ms : List Matryoshka). Rel Covers ms readings) was_let_in.1 (near_covered w))
        (subst (λ (m : ℕ). Each (Smaller F) m a.on.formula.program) (sym (matryoshka_lawful.tested_values a.on.formula.header.inputs d a.started.fits).many)
        a.well.operands_smaller)
        a.finishes

    abbrev outs : List Ball
    outs = picked no_ball covers.made os

    bare : run (plain_rule F) (pos 0) a.on.formula.program g.centres ≡ finished (centres_of covers.made)
    bare =
        ap (λ (l : List ℤ). run (plain_rule F) (pos 0) a.on.formula.program l)
        (sym (balls_centres g.centres (map nat_abs g.margins) (balls_even (ball_fit g fit.1))))
        ∙ covers.plain_finishes

    plain_answers : (lent : Lent plain_kind) {after : Lent plain_kind} (r : Reply) → LongEnough plain_kind a.on.formula.header lent
        → Kept plain_kind (formula s) g.centres lent after r → AnswersWith plain_kind a.on.formula (centres_of covers.made) lent after r n
    plain_answers lent r u k = answers_with plain_kind s r a.started.means (let_through plain_kind a.on.formula.header.inputs g.centres fit.0) u bare a.as_many k

    ball_answers : (lent : Lent ball_kind) {after : Lent ball_kind} (r : Reply) → LongEnough ball_kind a.on.formula.header lent
        → Kept ball_kind (formula s) g lent after r → AnswersWith ball_kind a.on.formula covers.made lent after r n
    ball_answers lent r u k = answers_with ball_kind s r a.started.means (let_through ball_kind a.on.formula.header.inputs g fit.1) u covers.balls_finish a.as_many k

    -- the bare answers are the centres of the covered outputs
    each_centre : (ps : List ℕ) → picked (pos 0) (centres_of covers.made) ps ≡ centres_of (picked no_ball covers.made ps)
    each_centre [] = refl
    each_centre (p ∷ ps) = ap₂ ◌∷◌ (centre_part.at covers.made p) (each_centre ps)

    plain_stand : (lent : Lent plain_kind) {after : Lent plain_kind} {r : Reply} → AnswersWith plain_kind a.on.formula (centres_of covers.made) lent after r n
        → take n after.output ≡ centres_of outs
    plain_stand lent {after} p = plain_lawful.front_holds _ n lent.output after.output p.many p.output_holds ∙ each_centre os

    centres_stand : (lent : Lent ball_kind) {after : Lent ball_kind} {r : Reply} → AnswersWith ball_kind a.on.formula covers.made lent after r n
        → take n after.output.centres ≡ centres_of outs
    centres_stand lent p = part_front centre_part outs lent.output.centres p.many p.output_holds.centres_hold

    all_covered : length covers.made ≡ places a.on.formula.header
    all_covered = sym (rel_length covers.covered) ∙ all_made matryoshka_lawful a

    -- all values of the plain run and all centres of the ball run, wherever they were written
    all_centres_stand : (was : List ℤ) {now : List ℤ} → now ≡ over (centres_of covers.made) was
        → take (places a.on.formula.header) now ≡ centres_of covers.made
    all_centres_stand was h = part_front centre_part covers.made was all_covered h

    covered_outputs : Rel Covers (picked no_matryoshka a.made os) outs
    covered_outputs =
        rel_picked no_matryoshka no_ball covers.covered a.well.results_below (omega (arith, all_made matryoshka_lawful a))

    as_named : Each (Smaller F) (length readings) a.on.formula.program
    as_named =
        subst (λ (m : ℕ). Each (Smaller F) m a.on.formula.program) (sym (ball_many (ball_fit g fit.1))) a.well.operands_smaller

    -- no fraction inside a covered ball that is divided by is 0
    comes_through : HasExact a.on.formula g
    comes_through =
        record {
          comes_through = λ is js e xs ys c x.
              exact_run_goes_on F no_ball is js c (subst (Each (Smaller F) (length readings)) e as_named)
              (ap (λ l. run (ball_rule F) no_ball l readings) (sym e) ∙ covers.balls_finish) x;
        }

    enclosed_outputs : {xs ys : List Fraction} → Chosen F g xs → ExactRun F a.on.formula.program xs ys
        → Rel (Contains F) outs (exact_outputs a.on.formula ys)
    enclosed_outputs c x =
        rel_picked no_ball nought
        (run_encloses F no_ball a.on.formula.program c as_named covers.balls_finish x)
        a.well.results_below (omega (arith, all_covered))

  static_stand : take n new.output.margins ≡ static_margins_of (picked no_matryoshka a.made os)
  static_stand =
      part_front static_part (picked no_matryoshka a.made os) old.output.margins
      (length-map os (λ o. get_or a.made o no_matryoshka) ∙ sym a.as_many) a.output_holds.margins_hold

-- an admitted domain: exact arithmetic comes through for all choices inside readings within it
pub exact_in_domain : (s : List ℕ) {d : Domain} {old new : Lent matryoshka_kind} {n : ℕ} → Kept matryoshka_kind (formula s) d old new (Ok n)
    → {f : Formula} → formula s ≡ value f → {g : BallReadings} → InDomain d g → HasExact f g
exact_in_domain s k e {g} w =
    let a = answers k in
    subst (λ (f : Formula). HasExact f g) (same_value (sym a.started.means ∙ e)) (comes_through a w)

pub demand_3 : {s : List ℕ} {d : Domain} {old new : Lent matryoshka_kind} {n : ℕ} → Kept matryoshka_kind (formula s) d old new (Ok n) → Admitted s d new n
demand_3 {s} {n = n} k =
    let a = answers k in
    let F = a.on.formula.header.scale in
    record {
      meant = a.on.formula;
      means = a.started.means;
      plain_runs = λ w lent r u p. (plain_answers a w lent r u p).is;
      ball_runs = λ w lent r u p. (ball_answers a w lent r u p).is;
      centres_agree = λ w lent r u p before t v q.
          plain_stand a w lent (plain_answers a w lent r u p) ∙ sym (centres_stand a w before (ball_answers a w before t v q));
      values_agree = λ w lent r u p before t v q.
          all_centres_stand a w lent.work (plain_answers a w lent r u p).work_holds
          ∙ sym (all_centres_stand a w before.work.centres (ball_answers a w before t v q).work_holds.centres_hold);
      answers_close = λ w lent r u p xs ys c x.
          subst (λ (bs : List Ball). Rel (Contains F) bs (exact_outputs a.on.formula ys))
          (sym (ap₂ balls (plain_stand a w lent (plain_answers a w lent r u p)) (static_stand a)))
          (covering_margins F (covered_outputs a w) (enclosed_outputs a w c x));
      centres_near = λ w lent r u p.
          subst (Rel WithinStray _) (sym (plain_stand a w lent (plain_answers a w lent r u p)))
          (subst (λ (ms : List Matryoshka). Rel WithinStray ms (centres_of (outs a w))) (sym (outputs_stand matryoshka_lawful a)) (covering_strays (covered_outputs a w)));
      answers_near = λ w xs ys c x.
          subst (λ (ms : List Matryoshka). Rel (Contains F) (map stray_plus_margin ms) (exact_outputs a.on.formula ys)) (sym (outputs_stand matryoshka_lawful a))
          (covering_middles F (covered_outputs a w) (enclosed_outputs a w c x));
    }
