-- The card: over a domain with all margins 0 that is admitted, for any readings wholly inside it and any fractions inside their margins, every
-- exact result is within the static margin plus, for each input, L·s/Q rounded up, of the bare answer. Assumes nothing.
use mathlib.Core.Path.{◌≡◌, sym, ◌∙◌, ap, ap₂, subst, subst₃}
use mathlib.Core.List.{List, [], map}
use Prim.Native.Nat.{ℕ, ◌+◌, ◌*◌, ◌≤◌, ◌<◌}
use native.Mathlib.Omega.{arith}
use lib.IntN.{ℤ, pos, nat_abs, ◌-ℤ◌}
use lib.ListN.{length, get_or, length-map, get_or-map}
use Rattle.lists.specs.Each.{Each}
use Rattle.lists.specs.Joined.{joined, Rel}
use Rattle.lists.proofs.InTurn.{each_map, each_apply, in_turn}
use Rattle.lists.proofs.Joined.{rel_at, rel_length}
use Rattle.refusals.specs.Answer.{value}
use Rattle.rules.specs.declared.Ball.{Ball}
use Rattle.rules.specs.declared.Matryoshka.{Matryoshka}
use Rattle.rules.specs.Numbers.{Q}
use Rattle.rules.specs.Values.{Fraction, Contains, plain_reach, matryoshka_reach}
use Rattle.rules.specs.Reciprocals.{plain_may_be_zero, matryoshka_may_be_zero}
use Rattle.rules.specs.Operation.{Operation, each}
use Rattle.rules.specs.Exact.{Exact}
use Rattle.rules.specs.Plain.{plain_rule, plain_result}
use Rattle.rules.specs.Balls.{ball, ball_rule}
use Rattle.rules.specs.Matryoshki.{matryoshka_rule, matryoshka_result}
use Rattle.rules.specs.Lists.{centres_of, margins_of, no_ball, no_matryoshka}
use Rattle.rules.proofs.Reach.{step_accepted}
use Rattle.formulas.specs.declared.Instruction.{Instruction}
use Rattle.formulas.specs.declared.Instruction.TheVariants.{Constant, Negate, Add, Subtract, Multiply, Coefficient, Reciprocal}
use Rattle.formulas.specs.Formula.{Formula, Smaller, WellFormed}
use Rattle.formulas.specs.Run.{finished, run}
use Rattle.formulas.specs.ExactRun.{nought, ExactRun}
use Rattle.formulas.proofs.Walks.{same_values, run_long}
use Rattle.formulas.proofs.Settled.{Makes, run_stays, run_settles, ExactlyMakes, exact_stays, exact_settles}
use Rattle.formulas.proofs.Enclosure.{run_encloses, exact_run_exists}
use Rattle.formulas.proofs.Covering.{CoveredRun, run_covers}
use Rattle.cards.specs.Slopes.{input_slopes, all_inputs, slopes_rule, slope_run}
use Rattle.cards.specs.Card.{still, Inside, Card, picked, CardOf, card_margin, card_margins, CardHolds}
use Rattle.cards.proofs.Between.{Between, ranges_finish}
use Rattle.cards.proofs.Weights.{Many, weigh, weigh_input}
use Rattle.cards.proofs.Slopes.{Slopes, rule_made, slopes_made, inputs_kept, slopes_many}
use Rattle.cards.proofs.Around.{Around, Value, graded, result_around, around_contains}
use Rattle.cards.proofs.Readings.{centre_alone, inside_covered, centres_alone, readings_inside, margins_many, reading_around}

-- one step of all runs at once, on operands whose exact values lie around the bare ones
step_around : (F : ℕ) {m : ℕ} {ss : List ℕ} → Many m ss → (o : Operation (Value F m ss)) {n : Matryoshka} {l : List ℕ} {p : ℤ} {y : Fraction}
    → matryoshka_rule F (each (λ (a : Value F m ss). a.static) o) ≡ value n → slopes_rule F m (each graded o) ≡ value l
    → plain_rule F (each (λ (a : Value F m ss). a.bare) o) ≡ value p → Exact F (each (λ (a : Value F m ss). a.exact) o) y
    → Around F n.margin (weigh l ss) p y
step_around F {m} {ss} t o {n} {l} {p} {y} kn kl kp x =
    let r = step_accepted matryoshka_may_be_zero matryoshka_reach statics (matryoshka_result F statics) kn in
    subst₃ (λ (k : Matryoshka) (r : List ℕ) (z : ℤ). Around F k.margin (weigh r ss) z y)
    r.same
    (rule_made F m (each graded o) kl)
    (step_accepted plain_may_be_zero plain_reach bares (plain_result F bares) kp).same
    (result_around F t o r.divisible x)
  where
    statics : Operation Matryoshka
    statics = each (λ (a : Value F m ss). a.static) o

    bares : Operation ℤ
    bares = each (λ (a : Value F m ss). a.bare) o

module _ (F : ℕ) (is : List Instruction) {ds : List Ball} {ns : List Matryoshka} {es : List Ball} {ls : List (List ℕ)}
    (small : Each (Smaller F) (length ds) is)
    (admitted : run (matryoshka_rule F) no_matryoshka is (map still ds) ≡ finished ns)
    (ranged : run (ball_rule F) no_ball is ds ≡ finished es)
    (sloping : slope_run F (length ds) es is (all_inputs F (length ds)) ≡ finished ls)
    {bs : List Ball} (inside : Rel Inside ds bs) where
  abbrev margins : List ℕ
  margins = margins_of bs

  small_still : Each (Smaller F) (length (map still ds)) is
  small_still = subst (λ (n : ℕ). Each (Smaller F) n is) (sym (length-map ds still)) small

  covers : CoveredRun F is (map centre_alone bs) ns
  covers = run_covers F no_matryoshka is (inside_covered inside) small_still admitted

  abbrev bare : List ℤ
  bare = centres_of covers.made

  plain : run (plain_rule F) (pos 0) is (centres_of bs) ≡ finished bare
  plain = ap (λ (l : List ℤ). run (plain_rule F) (pos 0) is l) (sym (centres_alone bs)) ∙ covers.plain_finishes

  between : Rel Between ns es
  between =
      let r = ranges_finish F is ds small admitted in
      subst (λ (l : List Ball). Rel Between ns l) (same_values (sym r.finishes ∙ ranged)) r.related

  abbrev all : ℕ
  all = length ds + length is

  long : length ns ≡ all
  long = run_long (matryoshka_rule F) no_matryoshka is (map still ds) admitted ∙ ap (λ (n : ℕ). n + length is) (length-map ds still)

  bare_strays : (j : ℕ) → j < all → nat_abs (get_or bare j (pos 0) -ℤ (get_or ns j no_matryoshka).middle) ≤ (get_or ns j no_matryoshka).stray
  bare_strays j l =
      subst (λ (z : ℤ). nat_abs (z -ℤ (get_or ns j no_matryoshka).middle) ≤ (get_or ns j no_matryoshka).stray)
      (sym (get_or-map (λ (b : Ball). b.centre) covers.made j no_ball))
      (rel_at covers.covered j no_matryoshka no_ball (subst (λ (n : ℕ). j < n) (sym long) l)).strays

  module _ {xs ys : List Fraction} (chosen : Rel (Contains F) bs xs) (exactly : ExactRun F is xs ys) where
    contained : Rel (Contains F) es ys
    contained = run_encloses F no_ball is (readings_inside F inside chosen) small ranged exactly

    abbrev Holds : ℕ → Type 0
    Holds j = j < all → Around F (get_or ns j no_matryoshka).margin (weigh (get_or ls j []) margins) (get_or bare j (pos 0)) (get_or ys j nought)

    abbrev at : (j : ℕ) → j < all → Holds j → Value F (length ds) margins
    at j l h =
        record {
          static = get_or ns j no_matryoshka;
          range = get_or es j no_ball;
          slopes = get_or ls j [];
          bare = get_or bare j (pos 0);
          exact = get_or ys j nought;
          between = rel_at between j no_matryoshka no_ball (subst (λ (n : ℕ). j < n) (sym long) l);
          strays = bare_strays j l;
          contains = rel_at contained j no_ball nought (subst (λ (n : ℕ). j < n) (sym long ∙ rel_length between) l);
          many = slopes_many F (length ds) es is small sloping j l;
          around = h l;
        }

    abbrev Admitted : ℕ → Instruction → Type 0
    Admitted = Makes (matryoshka_rule F) no_matryoshka ns

    abbrev Plain : ℕ → Instruction → Type 0
    Plain = Makes (plain_rule F) (pos 0) bare

    abbrev Exactly : ℕ → Instruction → Type 0
    Exactly = ExactlyMakes F ys

    abbrev Sloping : ℕ → Instruction → Type 0
    Sloping = Slopes F (length ds) es ls

    step : (v : ℕ) (i : Instruction) → Smaller F v i → Admitted v i → Sloping v i → Plain v i → Exactly v i → ((j : ℕ) → j < v → Holds j) → Holds v
    step v (Constant c) s n l p x h k = step_around F (margins_many inside) (Operation.constant c) n l p x
    step v (Negate i) s n l p x h k = step_around F (margins_many inside) (Operation.negate (at i (omega arith) (h i s))) n l p x
    step v (Add i j) s n l p x h k =
        step_around F (margins_many inside) (Operation.add (at i (omega arith) (h i s.0)) (at j (omega arith) (h j s.1))) n l p x
    step v (Subtract i j) s n l p x h k =
        step_around F (margins_many inside) (Operation.subtract (at i (omega arith) (h i s.0)) (at j (omega arith) (h j s.1))) n l p x
    step v (Multiply i j) s n l p x h k =
        step_around F (margins_many inside) (Operation.multiply (at i (omega arith) (h i s.0)) (at j (omega arith) (h j s.1))) n l p x
    step v (Coefficient c r) s n l p x h k = step_around F (margins_many inside) (Operation.coefficient c r) n l p x
    step v (Reciprocal i) s n l p x h k = step_around F (margins_many inside) (Operation.reciprocal (at i (omega arith) (h i s.1))) n l p x

    first : (j : ℕ) → j < length ds → Holds j
    first j l k =
        subst₃ (λ (r : List ℕ) (p : ℤ) (y : Fraction). Around F (get_or ns j no_matryoshka).margin (weigh r margins) p y)
        (sym (inputs_kept F (length ds) es is small sloping j l))
        (sym (run_stays (plain_rule F) (pos 0) is (centres_of bs) plain j (omega (arith, rel_length inside, length-map bs (λ (b : Ball). b.centre)))
        ∙ get_or-map (λ (b : Ball). b.centre) bs j no_ball))
        (sym (exact_stays exactly j (omega (arith, rel_length inside, rel_length chosen))))
        (reading_around F (get_or ns j no_matryoshka).margin _ (rel_at chosen j no_ball nought (omega (arith, rel_length inside)))
        (subst (λ (s : ℕ). Q F * s ≤ weigh (input_slopes F (length ds) j) margins) (get_or-map (λ (b : Ball). b.margin) bs j no_ball)
        (weigh_input F (margins_many inside) j l)))

    -- every value of each run, on n first values
    from_inputs : {n : ℕ} (P : ℕ → Instruction → Type 0) → (n ≡ length ds) → (Each (Smaller F) n is → Each P n is) → Each P (length ds) is
    from_inputs P e f = subst (λ (k : ℕ). Each P k is) e (f (subst (λ (k : ℕ). Each (Smaller F) k is) (sym e) small))

    admits : Each Admitted (length ds) is
    admits = from_inputs Admitted (length-map ds still) (λ s. run_settles (matryoshka_rule F) no_matryoshka F is (map still ds) s admitted)

    bares : Each Plain (length ds) is
    bares =
        from_inputs Plain (length-map bs (λ (b : Ball). b.centre) ∙ sym (rel_length inside))
        (λ s. run_settles (plain_rule F) (pos 0) F is (centres_of bs) s plain)

    exacts : Each Exactly (length ds) is
    exacts = from_inputs Exactly (sym (rel_length inside ∙ rel_length chosen)) (λ s. exact_settles s exactly)

    values_around : (j : ℕ) → j < all
        → Contains F (ball (get_or bare j (pos 0)) (card_margin F margins (get_or ns j no_matryoshka).margin (get_or ls j []))) (get_or ys j nought)
    values_around j l =
        around_contains F (get_or ls j []) margins
        (in_turn Holds
        (each_apply (each_apply (each_apply (each_apply (each_map step small) admits) (slopes_made F (length ds) es is small sloping)) bares) exacts)
        first j l l)

    outputs_around : {v : ℕ} {os : List ℕ} → Each (λ j o. o < all) v os
        → Rel (Contains F) (joined ball (map (λ o. get_or bare o (pos 0)) os) (card_margins F (picked os ns ls) margins)) (map (λ o. get_or ys o nought) os)
    outputs_around Each.none = Rel.none
    outputs_around (Each.one {a = o} l os) = Rel.one (values_around o l) (outputs_around os)

module _ {f : Formula} (w : WellFormed f) (ds : List Ball) (as_many : length ds ≡ f.header.inputs) where
  abbrev F : ℕ
  F = f.header.scale

  smaller : Each (Smaller F) (length ds) f.program
  smaller = subst (λ (n : ℕ). Each (Smaller F) n f.program) (sym as_many) w.operands_smaller

  below : Each (λ j o. o < length ds + length f.program) 0 f.results
  below = each_map (λ j o l. omega (arith, w.program_long)) w.results_below

  -- the theorem: around the bare answer, the card's margins hold every exact result on readings wholly inside the domain
  pub card_holds : {k : Card} → CardOf f ds k → {bs : List Ball} → Rel Inside ds bs → CardHolds f k bs
  card_holds {k} c {bs} i =
      subst (λ (k : Card). CardHolds f k bs) (sym c.is_card)
      (record {
        bare = bare F f.program smaller c.admitted c.ranged sloping i;
        plain_finishes = plain F f.program smaller c.admitted c.ranged sloping i;
        holds = λ xs ys x e. outputs_around F f.program smaller c.admitted c.ranged sloping i x e below;
      })
    where
      sloping : slope_run F (length ds) c.ranges f.program (all_inputs F (length ds)) ≡ finished c.slopes
      sloping = ap (λ (m : ℕ). slope_run F m c.ranges f.program (all_inputs F m)) as_many ∙ c.sloping

  -- and there are exact results, so the theorem speaks of something
  pub card_exact : {k : Card} → CardOf f ds k → {bs : List Ball} → Rel Inside ds bs → {xs : List Fraction} → Rel (Contains F) bs xs
      → (ys : List Fraction) × ExactRun F f.program xs ys
  card_exact c i x = exact_run_exists F no_ball f.program (readings_inside F i x) smaller c.ranged

-- a formula has one card over a domain
pub card_one : {f : Formula} {ds : List Ball} {k l : Card} → CardOf f ds k → CardOf f ds l → k ≡ l
card_one {f} {ds} c d =
    c.is_card
    ∙ ap₂ (picked f.results) (same_values (sym c.admitted ∙ d.admitted))
    (same_values
    (sym c.sloping
    ∙ ap (λ (bs : List Ball). slope_run f.header.scale f.header.inputs bs f.program (all_inputs f.header.scale f.header.inputs))
    (same_values (sym c.ranged ∙ d.ranged))
    ∙ d.sloping))
    ∙ sym d.is_card
