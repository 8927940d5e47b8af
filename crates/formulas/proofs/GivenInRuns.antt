-- A job of any kind gives refusals 10, 11, 13 to 15 and 17 exactly when the documents say, and no number beyond. Assumes nothing.
use mathlib.Core.Path.{◌≡◌, refl, sym, ◌∙◌, ap, subst, subst₂}
use mathlib.Core.Bool.{Bool, true, false, cond, ◌&&◌}
use mathlib.Core.List.{List, [], ◌∷◌, ◌++◌}
use mathlib.Core.Logic.{◌⊎◌, inl, inr}
use Prim.Native.Nat.{ℕ, ◌-◌, ◌≤◌, ◌<◌}
use native.Mathlib.Omega.{arith}
use lib.Dec.{leb}
use borrow.Author.Tests.{leb-false, lt-leb}
use lib.IntN.{ℤ, pos, nat_abs}
use lib.ListN.{length}
use Rattle.whole.proofs.Cases.{never}
use Rattle.lists.specs.Over.{least}
use Rattle.lists.proofs.Over.{least_both}
use Rattle.refusals.specs.Answer.{Answer, value, refused, then}
use Rattle.refusals.specs.Places.{Where, Placed, refused_at, elsewhere, HasPlace}
use Rattle.refusals.specs.Refusals.{OfBytes, in_file_order, reciprocal_scale, AtStep, out_of_reach, divided_by_zero}
use Rattle.refusals.specs.Said.{refuses}
use Rattle.refusals.proofs.Answers.{no_value, refused_same, then_value, then_refused}
use Rattle.refusals.proofs.OneReply.{never_both, first_said, place_said}
use Rattle.rules.specs.Operation.{Operation, divides_by_zero}
use Rattle.rules.specs.Steps.{step_answer}
use Rattle.rules.specs.Reciprocals.{plain_may_be_zero, ball_may_be_zero, matryoshka_may_be_zero}
use Rattle.rules.proofs.Zeros.{plain_zero, zero_plain, ball_zero, zero_ball, matryoshka_zero, zero_matryoshka}
use Rattle.rules.proofs.Reach.{StepRefused, divides, too_far, step_refused, refuses_step}
use Rattle.formulas.specs.declared.Header.{Header}
use Rattle.formulas.specs.declared.Instruction.{Instruction}
use Rattle.formulas.specs.Formula.{Formula, places}
use Rattle.formulas.specs.Run.{Walk, finished, stopped, with_values, onward, run}
use Rattle.formulas.specs.Readings.{Reading, judged, readings_tested}
use Rattle.formulas.specs.Kinds.{Kind, plain_kind, ball_kind, matryoshka_kind, tested}
use Rattle.formulas.specs.Job.{Started, roomy, if_room, start, walk_ended, started_run, job, said, Lent, lent_job}
use Rattle.formulas.specs.GivenInRuns.{Terms, plain_terms, ball_terms, matryoshka_terms, Lowest, Read, Passed, OneUnder, NoRoom, work_short, output_short, Comes, coming, DividesBy, reciprocal_of, Counted, GivenInRun, thirteen, fourteen, fifteen, ten, eleven, seventeen, JobNumber}
use Rattle.formulas.proofs.Judging.{Judgement, good, negative, too_large, judgement, not_bad, judged_good, good_judged, negative_judged, large_judged}
use Rattle.formulas.proofs.Judging.{RefusedAt, refused_lowest, each_counted, none_other, miscounted, counted_tested, Unfit, other_count, bad_reading}
use Rattle.formulas.proofs.Fitting.{not_let_in, not_let_in_number}
use Rattle.formulas.specs.Lawful.{Lawful}
use Rattle.formulas.proofs.Walks.{never_stopped, same_values, run_long}
use Rattle.formulas.proofs.Jobs.{Starts, starts, start_is, job_refused, job_started}

-- how a kind refuses: a step by what it divides by and by its reach, lists by the shortest of them
pub record Refusing (K : Kind) (T : Terms K) : Type 0 where
  pub may_be_zero : K.Value → Bool
  pub tested_zero : (v : K.Value) → may_be_zero v ≡ true → T.MayBeZero v
  pub zero_tested : (v : K.Value) → T.MayBeZero v → may_be_zero v ≡ true
  pub steps : (F : ℕ) (o : Operation K.Value) → K.rule F o ≡ step_answer may_be_zero T.reach o (T.result F o)
  pub room_under : (n : ℕ) (l : K.Lists) → K.room l < n → OneUnder n (T.lengths l)
  pub under_room : (n : ℕ) (l : K.Lists) → OneUnder n (T.lengths l) → K.room l < n

-- only 0 has no size
no_size : (a : ℤ) → nat_abs a ≡ 0 → a ≡ pos 0
no_size (pos n) e = ap pos e
no_size (ℤ.negsuc n) e = absurd (omega arith)

-- one list, and one more
alone : {n k : ℕ} → (k < n) ⊎ ⊥ → k < n
alone (inl l) = l
alone (inr e) = absurd e

module _ (n a b : ℕ) where
  least_under : {A : Type 0} → (b < n → A) → least a b < n → (a < n) ⊎ A
  unfolding least
  least_under {A} f l = by_test (leb a b) l
    where
      by_test : (t : Bool) → cond t a b < n → (a < n) ⊎ A
      by_test true l = inl l
      by_test false l = inr (f l)

  under_least : {A : Type 0} → (A → b < n) → (a < n) ⊎ A → least a b < n
  under_least f (inl l) = omega (arith, least_both (least a b) a b (omega arith))
  under_least f (inr u) = omega (arith, f u, least_both (least a b) a b (omega arith))

pub plain_refusing : Refusing plain_kind plain_terms
plain_refusing =
    record {
      may_be_zero = plain_may_be_zero;
      tested_zero = λ a e. no_size a (plain_zero a e);
      zero_tested = λ a e. zero_plain a (ap nat_abs e);
      steps = λ F o. refl;
      room_under = λ n l u. inl u;
      under_room = λ n l u. alone u;
    }

pub ball_refusing : Refusing ball_kind ball_terms
ball_refusing =
    record {
      may_be_zero = ball_may_be_zero;
      tested_zero = ball_zero;
      zero_tested = zero_ball;
      steps = λ F o. refl;
      room_under = λ n l u. least_under n (length l.centres) (length l.margins) (λ v. inl v) u;
      under_room = λ n l u. under_least n (length l.centres) (length l.margins) (λ v. alone v) u;
    }

pub matryoshka_refusing : Refusing matryoshka_kind matryoshka_terms
matryoshka_refusing =
    record {
      may_be_zero = matryoshka_may_be_zero;
      tested_zero = matryoshka_zero;
      zero_tested = zero_matryoshka;
      steps = λ F o. refl;
      room_under = λ n l u.
          let s = length l.strays in
          let r = length l.margins in
          least_under n (length l.middles) (least s r) (λ v. least_under n s r (λ w. inl w) v) u;
      under_room = λ n l u.
          let s = length l.strays in
          let r = length l.margins in
          under_least n (length l.middles) (least s r) (λ v. under_least n s r (λ w. alone w) v) u;
    }

-- ---- where a walk stops

module _ {A : Type 0} (rule : Operation A → Answer A) (d : A) where
  -- the instructions before, the one that is refused, and those after
  pub record Stop (is : List Instruction) (vs : List A) (n : ℕ) (ws : List A) : Type 0 where
    pub earlier : List Instruction
    pub instruction : Instruction
    pub later : List Instruction
    pub in_order : is ≡ earlier ++ instruction ∷ later
    pub carried_out : run rule d earlier vs ≡ finished ws
    pub refuses_it : rule (with_values d ws instruction) ≡ refused n

  pub stop_there : (is : List Instruction) (i : Instruction) (after : List Instruction) (vs : List A) {n : ℕ} {ws : List A}
      → run rule d is vs ≡ finished ws → rule (with_values d ws i) ≡ refused n → run rule d (is ++ i ∷ after) vs ≡ stopped n ws
  stop_there [] i after vs {n} {ws} e r =
      subst (λ (l : List A). onward l (λ k. run rule d after k) (rule (with_values d l i)) ≡ stopped n ws) (sym (same_values e))
      (ap (onward ws (λ k. run rule d after k)) r)
  stop_there (j ∷ is) i after vs {n} {ws} e r =
      by_rule (rule (with_values d vs j)) e (λ v k. stop_there is i after (vs ++ v ∷ []) k r)
    where
      by_rule : (a : Answer A) → onward vs (λ l. run rule d is l) a ≡ finished ws
          → ((v : A) → run rule d is (vs ++ v ∷ []) ≡ finished ws → run rule d (is ++ i ∷ after) (vs ++ v ∷ []) ≡ stopped n ws)
          → onward vs (λ l. run rule d (is ++ i ∷ after) l) a ≡ stopped n ws
      by_rule (value v) e rec = rec v e
      by_rule (refused m) e rec = absurd (never_stopped e)

  pub stop_of : (is : List Instruction) (vs : List A) {n : ℕ} {ws : List A} → run rule d is vs ≡ stopped n ws → Stop is vs n ws
  stop_of [] vs e = absurd (never_stopped (sym e))
  stop_of (i ∷ is) vs {n} {ws} e = by_rule (rule (with_values d vs i)) refl e (λ v k. stop_of is (vs ++ v ∷ []) k)
    where
      here : {m : ℕ} → rule (with_values d vs i) ≡ refused m → m ≡ n → vs ≡ ws → Stop (i ∷ is) vs n ws
      here u p q =
          record {
            earlier = [];
            instruction = i;
            later = is;
            in_order = refl;
            carried_out = ap finished q;
            refuses_it = subst (λ (l : List A). rule (with_values d l i) ≡ refused n) q (u ∙ ap refused p);
          }

      by_rule : (a : Answer A) → rule (with_values d vs i) ≡ a → onward vs (λ l. run rule d is l) a ≡ stopped n ws
          → ((v : A) → run rule d is (vs ++ v ∷ []) ≡ stopped n ws → Stop is (vs ++ v ∷ []) n ws) → Stop (i ∷ is) vs n ws
      by_rule (value v) u e rec =
          let s = rec v e in
          record {
            earlier = i ∷ s.earlier;
            instruction = s.instruction;
            later = s.later;
            in_order = ap (λ l. i ∷ l) s.in_order;
            carried_out = ap (onward vs (λ l. run rule d s.earlier l)) u ∙ s.carried_out;
            refuses_it = s.refuses_it;
          }
      by_rule (refused m) u e rec = here u (cc) (cc)

-- ---- what a step divides by

module _ {K : Kind} {T : Terms K} (refusing : Refusing K T) where
  -- "17 .. if": the test, and the words
  pub there_zero : (o : Operation K.Value) → divides_by_zero refusing.may_be_zero o ≡ true → DividesBy T.MayBeZero o
  there_zero (Operation.constant c) e = never (sym e)
  there_zero (Operation.negate v) e = never (sym e)
  there_zero (Operation.add v w) e = never (sym e)
  there_zero (Operation.subtract v w) e = never (sym e)
  there_zero (Operation.multiply v w) e = never (sym e)
  there_zero (Operation.coefficient c r) e = never (sym e)
  there_zero (Operation.reciprocal v) e = reciprocal_of (refusing.tested_zero v e)

  pub zero_there : {o : Operation K.Value} → DividesBy T.MayBeZero o → divides_by_zero refusing.may_be_zero o ≡ true
  zero_there (reciprocal_of {a = v} z) = refusing.zero_tested v z

  pub zero_none : {o : Operation K.Value} → divides_by_zero refusing.may_be_zero o ≡ false → DividesBy T.MayBeZero o → ⊥
  zero_none e z = never (sym (zero_there z) ∙ e)

  pub no_zero : (o : Operation K.Value) → (DividesBy T.MayBeZero o → ⊥) → divides_by_zero refusing.may_be_zero o ≡ false
  no_zero o d = by_test (divides_by_zero refusing.may_be_zero o) refl
    where
      by_test : (t : Bool) → divides_by_zero refusing.may_be_zero o ≡ t → divides_by_zero refusing.may_be_zero o ≡ false
      by_test true u = absurd (d (there_zero o u))
      by_test false u = u

-- ---- room

-- the shortest work list is short, or the shortest output list
abbrev Short : Header → ℕ → ℕ → Type 0
Short h work output = (work < places h) ⊎ (output < h.outputs)

lacking : (h : Header) (work output : ℕ) → roomy h work output ≡ false → Short h work output
lacking h work output e = by_work (leb (places h) work) refl e
  where
    by_work : (t : Bool) → leb (places h) work ≡ t → t && leb h.outputs output ≡ false → Short h work output
    by_work true u e = inr (leb-false h.outputs output e)
    by_work false u e = inl (leb-false (places h) work u)

short : (h : Header) (work output : ℕ) → Short h work output → roomy h work output ≡ false
short h work output (inl l) = ap (λ (t : Bool). t && leb h.outputs output) (lt-leb (places h) work l)
short h work output (inr l) = by_work (leb (places h) work)
  where
    by_work : (t : Bool) → t && leb h.outputs output ≡ false
    by_work true = lt-leb h.outputs output l
    by_work false = refl

-- ---- why a job is refused

module _ {K : Kind} {T : Terms K} (law : Lawful K) (refusing : Refusing K T) (a : Answer Formula) (given : K.Readings)
    (work output : ℕ) where
  abbrev begun : Formula → List K.Value → Started K
  begun f vs = record { formula = f; values = vs }

  -- before any step
  data NotStarted (w : Where) : Type 0 where
    by_bytes : a ≡ refused w.number → 0 ≡ w.place → NotStarted w
    by_readings : (r : Read a) → tested K r.formula.header.inputs given ≡ refused w → NotStarted w
    by_room : (p : Passed K a given) → Short p.formula.header work output → 10 ≡ w.number → 0 ≡ w.place → NotStarted w

  not_started : {w : Where} → start K a given work output ≡ refused w → NotStarted w
  unfolding start
  not_started {w} e = by_formula a refl e
    where
      of_room : (p : Passed K a given) (t : Bool) → roomy p.formula.header work output ≡ t
          → elsewhere (if_room t (begun p.formula p.values)) ≡ refused w → NotStarted w
      of_room p true u e = absurd (no_value (sym e))
      of_room p false u e =
          let same = refused_same e in
          by_room p (lacking p.formula.header work output u) (ap (λ (v : Where). v.number) same) (ap (λ (v : Where). v.place) same)

      by_tested : (f : Formula) → a ≡ value f → (b : Placed (List K.Value)) → tested K f.header.inputs given ≡ b
          → then b (λ vs. elsewhere (if_room (roomy f.header work output) (begun f vs))) ≡ refused w → NotStarted w
      by_tested f u (refused v) t e = by_readings (record { formula = f; means = u }) (t ∙ ap refused (refused_same e))
      by_tested f u (value vs) t e =
          of_room (record { formula = f; means = u; values = vs; fits = t }) (roomy f.header work output) refl e

      by_formula : (b : Answer Formula) → a ≡ b
          → then (elsewhere b) (λ f. then (tested K f.header.inputs given) (λ vs. elsewhere (if_room (roomy f.header work output) (begun f vs))))
          ≡ refused w → NotStarted w
      by_formula (refused m) u e =
          let same = refused_same e in
          by_bytes (u ∙ ap (λ (v : Where). refused v.number) same) (ap (λ (v : Where). v.place) same)
      by_formula (value f) u e = by_tested f u (tested K f.header.inputs given) refl e

  -- why a kind's rule refuses an instruction
  abbrev Refuses : ℕ → Operation K.Value → ℕ → Type 0
  Refuses F o n = StepRefused refusing.may_be_zero T.reach o (T.result F o) n

  -- or at a step, by 17 or 11
  data Why (n k : ℕ) : Type 0 where
    early : NotStarted (record { number = n; place = k }) → Why n k
    at_step : (st : Started K) → Starts K a given work output st → (c : Comes K st.formula st.values k)
        → Refuses st.formula.header.scale (coming c) n → Why n k

  why : {n k : ℕ} → said (job K a given work output) ≡ refuses n k → Why n k
  why {n} {k} e = by_start (start K a given work output) refl
    where
      of_walk : (st : Started K) → Starts K a given work output st → (w : Walk K.Value) → started_run K st ≡ w
          → said (walk_ended K.nothing st.formula w) ≡ refuses n k → Why n k
      of_walk st s (finished vs) u e = absurd (never_both e)
      of_walk st s (stopped m ws) u e =
          let F = st.formula.header.scale in
          let x = stop_of (K.rule F) K.nothing st.formula.program st.values u in
          let o = with_values K.nothing ws x.instruction in
          let r = step_refused refusing.may_be_zero T.reach o (T.result F o) (sym (refusing.steps F o) ∙ x.refuses_it) in
          let long = run_long (K.rule F) K.nothing x.earlier st.values x.carried_out in
          let many = (law.tested_values st.formula.header.inputs given s.fits).many in
          let place : length x.earlier ≡ k = omega (arith, long, many, ap place_said e) in
          at_step st s
          (record {
            earlier = x.earlier;
            instruction = x.instruction;
            later = x.later;
            in_order = x.in_order;
            number = place;
            made = ws;
            carried_out = x.carried_out;
          }) (subst (Refuses F o) (ap first_said e) r)

      by_start : (b : Placed (Started K)) → start K a given work output ≡ b → Why n k
      by_start (refused w) u =
          let q = sym (ap said (job_refused K a given work output u)) ∙ e in
          early (subst₂ (λ (n k : ℕ). NotStarted (record { number = n; place = k })) (ap first_said q) (ap place_said q) (not_started u))
      by_start (value st) u =
          of_walk st (starts K a given work output u) (started_run K st) refl (sym (ap said (job_started K a given work output u)) ∙ e)

  -- where reading gives only its own numbers
  pub job_last : {n k : ℕ} → ((m : ℕ) → a ≡ refused m → OfBytes m) → said (job K a given work output) ≡ refuses n k → JobNumber n
  job_last {n} {k} few e = by_why (why e)
    where
      numbered : {n : ℕ} → (n ≡ 9 → ⊥) → (n ≡ 12 → ⊥) → n ≤ 17 → JobNumber n
      numbered p q r = record { not_nine = p; not_twelve = q; most = r }

      of_bytes : {n : ℕ} → OfBytes n → JobNumber n
      of_bytes (in_file_order l m) = numbered (λ z. omega arith) (λ z. omega arith) (omega arith)
      of_bytes reciprocal_scale = numbered (λ z. omega arith) (λ z. omega arith) (omega arith)

      of_step : {F n : ℕ} {o : Operation K.Value} → Refuses F o n → JobNumber n
      of_step (divides z) = numbered (λ z. omega arith) (λ z. omega arith) (omega arith)
      of_step (too_far z l) = numbered (λ z. omega arith) (λ z. omega arith) (omega arith)

      by_why : Why n k → JobNumber n
      by_why (early (by_bytes u z)) = of_bytes (few n u)
      by_why (early (by_readings r u)) =
          let t = not_let_in_number K r.formula.header.inputs given u in
          numbered (λ z. omega (arith, t.from_13)) (λ z. omega (arith, t.from_13)) (omega (arith, t.to_15))
      by_why (early (by_room p s t z)) = let i : 10 ≡ n = t in numbered (λ z. omega arith) (λ z. omega arith) (omega arith)
      by_why (at_step st s c r) = of_step r

  -- "Every other refusal has place 0."
  pub every_other_place : {n k : ℕ} → said (job K a given work output) ≡ refuses n k → (HasPlace n → ⊥) → k ≡ 0
  every_other_place {n} {k} e d = by_why (why e)
    where
      of_step : {F n : ℕ} {o : Operation K.Value} → Refuses F o n → AtStep n
      of_step (divides z) = divided_by_zero
      of_step (too_far z l) = out_of_reach

      by_judgement : {b : Answer (Unit {0})} {g : Reading} → Judgement g b → b ≡ refused n → k ≡ 0
      by_judgement (good f u) r = absurd (no_value (sym (sym u ∙ r)))
      by_judgement (negative m u) r = absurd (d (subst HasPlace (refused_same (sym u ∙ r)) HasPlace.negative))
      by_judgement (too_large s l u) r = absurd (d (subst HasPlace (refused_same (sym u ∙ r)) HasPlace.too_large))

      by_reading : (r : Read a) → Unfit r.formula.header.inputs (K.brought given) (record { number = n; place = k }) → k ≡ 0
      by_reading r (other_count o p q) = q
      by_reading r (bad_reading c x) = by_judgement (judgement ((K.brought given).reading_at k)) x.refuses

      by_why : Why n k → k ≡ 0
      by_why (early (by_bytes u z)) = sym z
      by_why (early (by_readings r u)) = by_reading r (not_let_in K r.formula.header.inputs given u)
      by_why (early (by_room p s t z)) = sym z
      by_why (at_step st s c r) = absurd (d (HasPlace.instruction (of_step r)))

  without_room : (p : Passed K a given) → Short p.formula.header work output → start K a given work output ≡ refused_at 10 0
  unfolding start
  without_room p r =
      then_value _ (ap elsewhere p.means) ∙ then_value _ p.fits
      ∙ ap (λ (t : Bool). elsewhere (if_room t (begun p.formula p.values))) (short p.formula.header work output r)

  -- readings that are refused
  misread : (r : Read a) {w : Where} → readings_tested r.formula.header.inputs (K.brought given) ≡ refused w
      → said (job K a given work output) ≡ refuses w.number w.place
  unfolding start
  misread r e =
      ap said
      (job_refused K a given work output
      (then_value _ (ap elsewhere r.means) ∙ then_refused _ (then_refused (λ x. value (K.values given)) e)))

  bad_at : (r : Read a) → Counted K r.formula given → {n k : ℕ} → Lowest r.formula.header.inputs (K.brought given).reading_at k
      → judged ((K.brought given).reading_at k) ≡ refused n → said (job K a given work output) ≡ refuses n k
  bad_at r c {n} {k} low e =
      let m = r.formula.header.inputs in
      let g = (K.brought given).reading_at in
      let there : RefusedAt g 0 m (record { number = n; place = k }) =
      record {
        from = omega arith;
        among = omega (arith, low.among);
        good_before = λ j p l. good_judged (g j) (low.none_before j l);
        refuses = e;
      } in
      misread r (counted_tested m (K.brought given) (each_counted m (K.brought given).counts c) ∙ refused_lowest g 0 m there)

  stopped_run : (p : Passed K a given) {k n : ℕ} → (c : Comes K p.formula p.values k) → Refuses p.formula.header.scale (coming c) n
      → started_run K (begun p.formula p.values) ≡ stopped n c.made
  stopped_run p c r =
      let F = p.formula.header.scale in
      let o = coming c in
      ap (λ is. run (K.rule F) K.nothing is p.values) c.in_order
      ∙ stop_there (K.rule F) K.nothing c.earlier c.instruction c.later p.values c.carried_out
      (refusing.steps F o ∙ refuses_step refusing.may_be_zero T.reach o (T.result F o) r)

  at_step_refused : (p : Passed K a given) → places p.formula.header ≤ work → p.formula.header.outputs ≤ output → {k n : ℕ}
      → (c : Comes K p.formula p.values k) → Refuses p.formula.header.scale (coming c) n → said (job K a given work output) ≡ refuses n k
  at_step_refused p w l {k} {n} c r =
      let st = start_is K a given work output (record { means = p.means; fits = p.fits; work_room = w; output_room = l }) in
      let long = run_long (K.rule p.formula.header.scale) K.nothing c.earlier p.values c.carried_out in
      let many = (law.tested_values p.formula.header.inputs given p.fits).many in
      let place : length c.made - p.formula.header.inputs ≡ k = omega (arith, long, many, c.number) in
      ap said (job_started K a given work output st)
      ∙ ap (λ w. said (walk_ended K.nothing p.formula w)) (stopped_run p c r) ∙ ap (refuses n) place

-- ---- each refusal, of the lent lists

module _ {K : Kind} {T : Terms K} (law : Lawful K) (refusing : Refusing K T) (a : Answer Formula) (given : K.Readings)
    (lent : Lent K) where
  abbrev work : ℕ
  work = K.room lent.work

  abbrev output : ℕ
  output = K.room lent.output

  has_short : {h : Header} → NoRoom K T h lent → Short h work output
  has_short {h} (work_short u) = inl (refusing.under_room (places h) lent.work u)
  has_short {h} (output_short u) = inr (refusing.under_room h.outputs lent.output u)

  no_room : {h : Header} → Short h work output → NoRoom K T h lent
  no_room {h} (inl l) = work_short (refusing.room_under (places h) lent.work l)
  no_room {h} (inr l) = output_short (refusing.room_under h.outputs lent.output l)

  long_enough : {h : Header} → (NoRoom K T h lent → ⊥) → (places h ≤ work) × (h.outputs ≤ output)
  long_enough {h} d = (at_least (λ l. d (no_room (inl l))), at_least (λ l. d (no_room (inr l))))
    where
      at_least : {m n : ℕ} → (n < m → ⊥) → m ≤ n
      at_least d = omega arith

  pub given_in_run_refused : {n k : ℕ} → GivenInRun K T a given lent n k → said (lent_job K a given lent) ≡ refuses n k
  given_in_run_refused (thirteen r o) =
      misread law refusing a given work output r (miscounted r.formula.header.inputs (K.brought given) o)
  given_in_run_refused (fourteen r c {k} low n) =
      bad_at law refusing a given work output r c low (negative_judged ((K.brought given).reading_at k) n)
  given_in_run_refused (fifteen r c {k} low d l) =
      bad_at law refusing a given work output r c low (large_judged ((K.brought given).reading_at k) d l)
  given_in_run_refused (ten p r) =
      ap said (job_refused K a given work output (without_room law refusing a given work output p (has_short r)))
  given_in_run_refused (eleven p d c z l) =
      let r = long_enough d in
      at_step_refused law refusing a given work output p r.0 r.1 c (too_far (no_zero refusing (coming c) z) l)
  given_in_run_refused (seventeen p d c z) =
      let r = long_enough d in
      at_step_refused law refusing a given work output p r.0 r.1 c (divides (zero_there refusing z))

  -- where reading gives only its own numbers
  pub refused_given_in_run : {n k : ℕ} → ((m : ℕ) → a ≡ refused m → OfBytes m) → (OfBytes n → ⊥)
      → said (lent_job K a given lent) ≡ refuses n k → GivenInRun K T a given lent n k
  refused_given_in_run {n} {k} few other e = by_why (why law refusing a given work output e)
    where
      both_short : (h : Header) → places h ≤ work → h.outputs ≤ output → Short h work output → ⊥
      both_short h p q (inl l) = omega arith
      both_short h p q (inr l) = omega arith

      by_reading : (r : Read a) → Unfit r.formula.header.inputs (K.brought given) (record { number = n; place = k })
          → GivenInRun K T a given lent n k
      by_reading r (other_count o p q) = subst₂ (GivenInRun K T a given lent) (sym p) (sym q) (thirteen r o)
      by_reading r (bad_reading c x) = by_judgement (judgement ((K.brought given).reading_at k))
        where
          g : ℕ → Reading
          g = (K.brought given).reading_at

          low : Lowest r.formula.header.inputs g k
          low = record { among = omega (arith, x.among); none_before = λ j l. not_bad (judged_good (g j) (x.good_before j (omega arith) l)) }

          counted : Counted K r.formula given
          counted = none_other r.formula.header.inputs c

          by_judgement : Judgement (g k) (judged (g k)) → GivenInRun K T a given lent n k
          by_judgement (good f u) = absurd (no_value (sym x.refuses ∙ u))
          by_judgement (negative b u) =
              subst (λ (m : ℕ). GivenInRun K T a given lent m k) (refused_same (sym u ∙ x.refuses)) (fourteen r counted low b)
          by_judgement (too_large s b u) =
              subst (λ (m : ℕ). GivenInRun K T a given lent m k) (refused_same (sym u ∙ x.refuses)) (fifteen r counted low s b)

      of_step : (p : Passed K a given) → (NoRoom K T p.formula.header lent → ⊥) → (c : Comes K p.formula p.values k) {m : ℕ}
          → StepRefused refusing.may_be_zero T.reach (coming c) (T.result p.formula.header.scale (coming c)) m
          → GivenInRun K T a given lent m k
      of_step p d c (divides z) = seventeen p d c (there_zero refusing (coming c) z)
      of_step p d c (too_far z l) = eleven p d c (zero_none refusing z) l

      by_why : Why law refusing a given work output n k → GivenInRun K T a given lent n k
      by_why (early (by_bytes u z)) = absurd (other (few n u))
      by_why (early (by_readings r u)) = by_reading r (not_let_in K r.formula.header.inputs given u)
      by_why (early (by_room p s t z)) = subst₂ (GivenInRun K T a given lent) t z (ten p (no_room s))
      by_why (at_step st s c r) =
          of_step (record { formula = st.formula; means = s.means; values = st.values; fits = s.fits })
          (λ t. both_short st.formula.header s.work_room s.output_room (has_short t)) c r
