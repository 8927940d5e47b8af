-- Making a card: each answer is given exactly when the words say, and two answers that the words allow are equal. Assumes nothing.
use mathlib.Core.Path.{◌≡◌, refl, sym, ◌∙◌, ap, subst}
use mathlib.Core.Bool.{Bool, true, false}
use mathlib.Core.List.{List}
use mathlib.Core.Logic.{◌⊎◌, inl, inr}
use Prim.Native.Nat.{ℕ, ◌-◌, ◌*◌, ◌≤◌, ◌<◌}
use native.Mathlib.Omega.{arith}
use borrow.Author.Tests.{leb-true, leb-false, le-leb, lt-leb}
use lib.Dec.{leb}
use lib.ListN.{length, length-map}
use Rattle.whole.proofs.Cases.{both}
use Rattle.refusals.specs.declared.Refusal.TheVariants as refusal
use Rattle.refusals.specs.Answer.{Answer, value, refused, then}
use Rattle.refusals.specs.Places.{Placed, refused_at, elsewhere}
use Rattle.rules.specs.declared.Ball.{Ball}
use Rattle.rules.specs.declared.Matryoshka.{Matryoshka}
use Rattle.rules.specs.Balls.{ball, ball_rule}
use Rattle.rules.specs.Matryoshki.{matryoshka_rule}
use Rattle.rules.specs.Lists.{no_ball, no_matryoshka}
use Rattle.formulas.specs.declared.Header.{Header}
use Rattle.formulas.specs.Formula.{Formula}
use Rattle.formulas.specs.Run.{Walk, finished, stopped, run}
use Rattle.formulas.specs.Readings.{Domain}
use Rattle.formulas.specs.Kinds.{matryoshka_kind, tested}
use Rattle.formulas.specs.GivenInRuns.{Read, Passed}
use Rattle.formulas.proofs.Lawful.{matryoshka_lawful}
use Rattle.formulas.proofs.GivenInRuns.{ball_refusing, matryoshka_refusing}
use Rattle.cards.specs.Slopes.{all_inputs, slope_run}
use Rattle.cards.specs.Card.{Card, picked}
use Rattle.cards.specs.Making.{unless, walked, all_still, ranges_of, card_room, admitting, ranging, grading, card_made, card_job}
use Rattle.cards.specs.GivenInMaking.{ShortCard, Ready, Admits, Ranges, ranges_formula}
use Rattle.cards.specs.GivenInMaking.{CardAnswer, unread, misread, twenty_two, ten, of_admission, of_that_ball_run, eleven, made}
use Rattle.cards.proofs.Tests.{unless_passes, unless_refuses, one_fails, first_fails, second_fails, both_pass}
use Rattle.cards.proofs.Tests.{readings_misread, misread_readings, moves, moves_not_still, rests, still_rests}
use Rattle.cards.proofs.Stops.{stop_met, met_stop, stop_steep, steep_stop}

-- ---- 10

short_card : (h : Header) (e l : ℕ) → card_room h e l ≡ false → ShortCard h e l
short_card h e l u = by_case (one_fails (leb h.outputs e) (leb (h.outputs * h.inputs) l) u)
  where
    by_case : (leb h.outputs e ≡ false) ⊎ (leb (h.outputs * h.inputs) l ≡ false) → ShortCard h e l
    by_case (inl t) = inl (leb-false h.outputs e t)
    by_case (inr t) = inr (leb-false (h.outputs * h.inputs) l t)

card_short : (h : Header) (e l : ℕ) → ShortCard h e l → card_room h e l ≡ false
card_short h e l (inl t) = first_fails (leb (h.outputs * h.inputs) l) (lt-leb h.outputs e t)
card_short h e l (inr t) = second_fails (leb h.outputs e) (lt-leb (h.outputs * h.inputs) l t)

-- both lists are long enough
pub long_enough : (h : Header) (e l : ℕ) → (ShortCard h e l → ⊥) → (h.outputs ≤ e) × (h.outputs * h.inputs ≤ l)
long_enough h e l d = (at_least (λ t. d (inl t)), at_least (λ t. d (inr t)))
  where
    at_least : {m n : ℕ} → (n < m → ⊥) → m ≤ n
    at_least d = omega arith

card_roomy : (h : Header) (e l : ℕ) → (ShortCard h e l → ⊥) → card_room h e l ≡ true
card_roomy h e l d =
    let r = long_enough h e l d in
    both_pass (le-leb h.outputs e r.0) (le-leb (h.outputs * h.inputs) l r.1)

roomy_card : (h : Header) (e l : ℕ) → card_room h e l ≡ true → ShortCard h e l → ⊥
roomy_card h e l u (inl t) = omega (arith, leb-true h.outputs e (both (leb h.outputs e) (leb (h.outputs * h.inputs) l) u).0)
roomy_card h e l u (inr t) = omega (arith, leb-true (h.outputs * h.inputs) l (both (leb h.outputs e) (leb (h.outputs * h.inputs) l) u).1)

module _ (a : Answer Formula) (g : Domain) (er lr : ℕ) where
  abbrev Given : Placed Card → Type 0
  Given x = CardAnswer a g er lr x

  abbrev after_room : Formula → List Matryoshka → Placed (Unit {0}) → Placed Card
  after_room f ms b = then b (λ y. card_made f ms)

  abbrev after_still : Formula → List Matryoshka → Placed (Unit {0}) → Placed Card
  after_still f ms b = then b (λ x. after_room f ms (unless refusal.NoRoom (card_room f.header er lr)))

  abbrev after_tested : Formula → Placed (List Matryoshka) → Placed Card
  after_tested f b = then b (λ ms. after_still f ms (unless refusal.MarginNotZero (all_still ms)))

  abbrev after_read : Answer Formula → Placed Card
  after_read b = then (elsewhere b) (λ f. after_tested f (tested matryoshka_kind f.header.inputs g))

  -- as many values as inputs
  pub passed_many : (p : Passed matryoshka_kind a g) → length p.values ≡ p.formula.header.inputs
  passed_many p = (matryoshka_lawful.tested_values p.formula.header.inputs g p.fits).many

  pub ranges_many : (p : Passed matryoshka_kind a g) → length (ranges_of p.values) ≡ p.formula.header.inputs
  ranges_many p = length-map p.values (λ (m : Matryoshka). ball m.middle m.stray) ∙ passed_many p

  -- ---- what the job answers is among what the words allow

  graded : (r : Ranges a g er lr) (b : Walk (List ℕ))
      → slope_run (ranges_formula a g er lr r).header.scale (ranges_formula a g er lr r).header.inputs r.ranges (ranges_formula a g er lr r).program
      (all_inputs (ranges_formula a g er lr r).header.scale (ranges_formula a g er lr r).header.inputs) ≡ b
      → Given (then (walked (ranges_formula a g er lr r).header.inputs b)
      (λ ls. value (picked (ranges_formula a g er lr r).results r.accepts.admits ls)))
  graded r (finished ls) e = made r ls e
  graded r (stopped n ks) e =
      let s = stop_steep (ranges_formula a g er lr r) r.ranges e in
      subst (λ (i : ℕ). Given (refused_at i (length ks - (ranges_formula a g er lr r).header.inputs))) (sym s.eleven) (eleven r s.comes s.steep)

  ranged : (r : Admits a g er lr) (b : Walk Ball)
      → run (ball_rule r.ready.passed.formula.header.scale) no_ball r.ready.passed.formula.program (ranges_of r.ready.passed.values) ≡ b
      → Given (then (walked r.ready.passed.formula.header.inputs b) (λ bs. then (grading r.ready.passed.formula bs)
      (λ ls. value (picked r.ready.passed.formula.results r.admits ls))))
  ranged r (finished bs) e = graded (record { accepts = r; ranges = bs; ranged = e }) _ refl
  ranged r (stopped n bs) e =
      of_that_ball_run r (stop_met ball_refusing r.ready.passed.formula (ranges_of r.ready.passed.values) (ranges_many r.ready.passed) e)

  admitted : (r : Ready a g er lr) (b : Walk Matryoshka)
      → run (matryoshka_rule r.passed.formula.header.scale) no_matryoshka r.passed.formula.program r.passed.values ≡ b
      → Given (then (walked r.passed.formula.header.inputs b) (λ ns. then (ranging r.passed.formula (ranges_of r.passed.values)) (λ bs.
      then (grading r.passed.formula bs) (λ ls. value (picked r.passed.formula.results ns ls)))))
  admitted r (finished ns) e = ranged (record { ready = r; admits = ns; admitted = e }) _ refl
  admitted r (stopped n ms) e =
      of_admission r (stop_met matryoshka_refusing r.passed.formula r.passed.values (passed_many r.passed) e)

  readied : (r : Ready a g er lr) → Given (card_made r.passed.formula r.passed.values)
  unfolding card_made
  readied r = admitted r _ refl

  pub job_answers : Given (card_job a g er lr)
  unfolding card_job
  job_answers = by_formula a refl
    where
      by_room : (p : Passed matryoshka_kind a g) → all_still p.values ≡ true → (t : Bool) → card_room p.formula.header er lr ≡ t
          → Given (after_room p.formula p.values (unless refusal.NoRoom t))
      by_room p s true e = readied (record { passed = p; at_rest = still_rests p.values s; roomy = roomy_card p.formula.header er lr e })
      by_room p s false e = ten p (still_rests p.values s) (short_card p.formula.header er lr e)

      by_still : (p : Passed matryoshka_kind a g) → (t : Bool) → all_still p.values ≡ t
          → Given (after_still p.formula p.values (unless refusal.MarginNotZero t))
      by_still p true e = by_room p e (card_room p.formula.header er lr) refl
      by_still p false e = twenty_two p (moves p.values e)

      by_tested : (f : Formula) → a ≡ value f → (b : Placed (List Matryoshka)) → tested matryoshka_kind f.header.inputs g ≡ b → Given (after_tested f b)
      by_tested f u (value ms) e = by_still (record { formula = f; means = u; values = ms; fits = e }) (all_still ms) refl
      by_tested f u (refused w) e = misread (record { formula = f; means = u }) (readings_misread matryoshka_kind f.header.inputs g e)

      by_formula : (b : Answer Formula) → a ≡ b → Given (after_read b)
      by_formula (value f) u = by_tested f u (tested matryoshka_kind f.header.inputs g) refl
      by_formula (refused n) u = unread u

  -- ---- and no other answer is

  is_read : (r : Read a) → card_job a g er lr ≡ after_tested r.formula (tested matryoshka_kind r.formula.header.inputs g)
  unfolding card_job
  is_read r = ap after_read r.means

  is_passed : (p : Passed matryoshka_kind a g)
      → card_job a g er lr ≡ after_still p.formula p.values (unless refusal.MarginNotZero (all_still p.values))
  is_passed p = is_read (record { formula = p.formula; means = p.means }) ∙ ap (after_tested p.formula) p.fits

  is_still : (p : Passed matryoshka_kind a g) → all_still p.values ≡ true
      → card_job a g er lr ≡ after_room p.formula p.values (unless refusal.NoRoom (card_room p.formula.header er lr))
  is_still p e = is_passed p ∙ ap (after_still p.formula p.values) (unless_passes refusal.MarginNotZero e)

  is_ready : (r : Ready a g er lr) → card_job a g er lr ≡ card_made r.passed.formula r.passed.values
  is_ready r =
      is_still r.passed (rests r.passed.values r.at_rest)
      ∙ ap (after_room r.passed.formula r.passed.values) (unless_passes refusal.NoRoom (card_roomy r.passed.formula.header er lr r.roomy))

  abbrev after_ranging : Formula → List Matryoshka → Placed (List Ball) → Placed Card
  after_ranging f ns b = then b (λ bs. then (grading f bs) (λ ls. value (picked f.results ns ls)))

  is_admitting : (r : Ready a g er lr) {b : Placed (List Matryoshka)} → admitting r.passed.formula r.passed.values ≡ b
      → card_job a g er lr ≡ then b (λ ns. after_ranging r.passed.formula ns (ranging r.passed.formula (ranges_of r.passed.values)))
  unfolding card_made
  is_admitting r e =
      is_ready r
      ∙ ap (λ b. then b (λ ns. after_ranging r.passed.formula ns (ranging r.passed.formula (ranges_of r.passed.values)))) e

  is_ranging : (r : Admits a g er lr) {b : Placed (List Ball)} → ranging r.ready.passed.formula (ranges_of r.ready.passed.values) ≡ b
      → card_job a g er lr ≡ after_ranging r.ready.passed.formula r.admits b
  is_ranging r e =
      is_admitting r.ready (ap (walked r.ready.passed.formula.header.inputs) r.admitted)
      ∙ ap (after_ranging r.ready.passed.formula r.admits) e

  is_grading : (r : Ranges a g er lr) {b : Placed (List (List ℕ))} → grading r.accepts.ready.passed.formula r.ranges ≡ b
      → card_job a g er lr ≡ then b (λ ls. value (picked r.accepts.ready.passed.formula.results r.accepts.admits ls))
  is_grading r e =
      is_ranging r.accepts (ap (walked r.accepts.ready.passed.formula.header.inputs) r.ranged)
      ∙ ap (λ b. then b (λ ls. value (picked r.accepts.ready.passed.formula.results r.accepts.admits ls))) e

  pub answers_job : {x : Placed Card} → Given x → card_job a g er lr ≡ x
  unfolding card_job
  answers_job (unread e) = ap after_read e
  answers_job (misread r m) = is_read r ∙ ap (after_tested r.formula) (misread_readings matryoshka_kind r.formula.header.inputs g m)
  answers_job (twenty_two p o) = is_passed p ∙ ap (after_still p.formula p.values) (unless_refuses refusal.MarginNotZero (moves_not_still p.values o))
  answers_job (ten p d s) =
      is_still p (rests p.values d) ∙ ap (after_room p.formula p.values) (unless_refuses refusal.NoRoom (card_short p.formula.header er lr s))
  answers_job (of_admission r m) = is_admitting r (met_stop matryoshka_refusing r.passed.formula r.passed.values (passed_many r.passed) m)
  answers_job (of_that_ball_run r m) =
      is_ranging r (met_stop ball_refusing r.ready.passed.formula (ranges_of r.ready.passed.values) (ranges_many r.ready.passed) m)
  answers_job (eleven r c t) = is_grading r (steep_stop r.accepts.ready.passed.formula r.ranges c t)
  answers_job (made r ls e) = is_grading r (ap (walked r.accepts.ready.passed.formula.header.inputs) e)

  -- two answers that the words allow are equal
  pub one_card_answer : {x y : Placed Card} → Given x → Given y → x ≡ y
  one_card_answer p q = sym (answers_job p) ∙ answers_job q
