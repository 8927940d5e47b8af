-- A card that was made, and a use of it: its numbers fit, and the margins that it gives hold every exact result around the bare answer. Assumes
-- nothing.
use mathlib.Core.Path.{◌≡◌, refl, sym, ◌∙◌, ap, ap₂, subst, subst₂}
use mathlib.Core.Bool.{true}
use mathlib.Core.List.{List, [], ◌∷◌, map}
use Prim.Native.Nat.{ℕ, ◌+◌, ◌*◌, ◌≤◌, ◌<◌, zero-le}
use native.Mathlib.Omega.{arith}
use borrow.Author.Tests.{le-leb}
use lib.IntN.{ℤ, nat_abs}
use lib.ListN.{length, get_or, take, length-map}
use Rattle.whole.proofs.Cases.{down, no_suc}
use Rattle.lists.specs.All.{All}
use Rattle.lists.specs.Each.{Each}
use Rattle.lists.specs.Joined.{Rel}
use Rattle.lists.proofs.Each.{all_at}
use Rattle.lists.proofs.InTurn.{each_map}
use Rattle.refusals.specs.Answer.{Answer, value}
use Rattle.refusals.specs.Places.{Placed}
use Rattle.refusals.proofs.Answers.{no_value, same_value}
use Rattle.rules.specs.declared.Ball.{Ball}
use Rattle.rules.specs.declared.Matryoshka.{Matryoshka}
use Rattle.rules.specs.Numbers.{M}
use Rattle.rules.specs.Balls.{ball}
use Rattle.rules.specs.Matryoshki.{matryoshka_rule}
use Rattle.rules.specs.Lists.{balls, matryoshki, margins_of, no_matryoshka}
use Rattle.formulas.specs.Formula.{Formula, Smaller, WellFormed}
use Rattle.formulas.specs.Run.{finished, run}
use Rattle.formulas.specs.Readings.{BallReadings, Domain}
use Rattle.formulas.specs.Kinds.{ball_kind, matryoshka_kind, tested}
use Rattle.formulas.specs.GivenInRuns.{Passed, ball_terms}
use Rattle.formulas.proofs.Walks.{run_long}
use Rattle.formulas.proofs.Fitting.{let_in, domain_fit, strays_even, margins_even}
use Rattle.formulas.proofs.Lawful.{matryoshka_lawful}
use Rattle.formulas.proofs.GivenInRuns.{ball_refusing}
use Rattle.cards.specs.Slopes.{largest, all_inputs, slope_run}
use Rattle.cards.specs.Card.{still, Inside, Card, card, picked, CardOf, card_margins, card_in, flat, HoldsAround}
use Rattle.cards.specs.Making.{walked, ranges_of, card_job}
use Rattle.cards.specs.Using.{Use, use_scale, use_inputs, use_outputs, use_slopes, numbers_fit, use_card}
use Rattle.cards.specs.GivenInMaking.{Admits, Ranges, ranges_formula, MetInRun}
use Rattle.cards.specs.GivenInMaking.{CardAnswer, unread, misread, twenty_two, ten, of_admission, of_that_ball_run, eleven, made}
use Rattle.cards.specs.GivenInUsing as given
use Rattle.cards.specs.GivenInUsing.{Fits, sums_of, UseAnswer, UsesCard}
use Rattle.cards.proofs.Between.{ranges_finish}
use Rattle.cards.proofs.Weights.{Many}
use Rattle.cards.proofs.Slopes.{slopes_many, slopes_low}
use Rattle.cards.proofs.Sizes.{static_low}
use Rattle.cards.proofs.Card.{card_holds}
use Rattle.cards.proofs.Tests.{still_domain, both_pass}
use Rattle.cards.proofs.Stops.{met_stop}
use Rattle.cards.proofs.Making.{passed_many, ranges_many, job_answers}
use Rattle.cards.proofs.Using.{fits_inside, use_answers}
use Rattle.cards.proofs.Flat.{flat_long, rows_flat, flat_low}

-- what holds of each output's value, of the list of them
all_outputs : {A : Type 0} (P : A → Type 0) (g : ℕ → A) (n : ℕ) → ((o : ℕ) → o < n → P (g o)) → {v : ℕ} {os : List ℕ} → Each (λ j o. o < n) v os
    → All P (map g os)
all_outputs P g n h Each.none = All.none
all_outputs P g n h (Each.one {a = o} l os) = All.one (h o l) (all_outputs P g n h os)

largest_all : (n : ℕ) {l : List ℕ} → All (λ k. k ≤ n) l → largest l ≤ n
largest_all n All.none = zero-le
largest_all n (All.one p ps) = omega (arith, largest_all n ps)

-- ---- a card that was made

module _ (a : Answer Formula) (g : Domain) (er lr : ℕ) where
  pub record CardMade (k : Card) : Type 0 where
    pub ranges : Ranges a g er lr
    pub slopes : List (List ℕ)
    pub sloping : slope_run (ranges_formula a g er lr ranges).header.scale (ranges_formula a g er lr ranges).header.inputs ranges.ranges
        (ranges_formula a g er lr ranges).program
        (all_inputs (ranges_formula a g er lr ranges).header.scale (ranges_formula a g er lr ranges).header.inputs) ≡ finished slopes
    pub is_card : k ≡ picked (ranges_formula a g er lr ranges).results ranges.accepts.admits slopes

  pub card_made_by : {k : Card} → card_job a g er lr ≡ value k → CardMade k
  card_made_by {k} e = by_answer (job_answers a g er lr) e
    where
      by_answer : {x : Placed Card} → CardAnswer a g er lr x → x ≡ value k → CardMade k
      by_answer (unread u) e = absurd (no_value e)
      by_answer (misread r m) e = absurd (no_value e)
      by_answer (twenty_two p o) e = absurd (no_value e)
      by_answer (ten p d s) e = absurd (no_value e)
      by_answer (of_admission r m) e = absurd (no_value e)
      by_answer (of_that_ball_run r m) e = absurd (no_value e)
      by_answer (eleven r c t) e = absurd (no_value e)
      by_answer (made r ls s) e = record { ranges = r; slopes = ls; sloping = s; is_card = sym (same_value e) }

  module _ {k : Card} (c : CardMade k) where
    abbrev pub passed_of : Passed matryoshka_kind a g
    passed_of = c.ranges.accepts.ready.passed

    abbrev pub formula_of : Formula
    formula_of = passed_of.formula

    abbrev pub domain_of : List Ball
    domain_of = ranges_of passed_of.values

    rests : map still domain_of ≡ passed_of.values
    rests = still_domain passed_of.values c.ranges.accepts.ready.at_rest

    pub card_of : CardOf formula_of domain_of k
    card_of =
        record {
          admits = c.ranges.accepts.admits;
          admitted =
              ap (λ (ms : List Matryoshka). run (matryoshka_rule formula_of.header.scale) no_matryoshka formula_of.program ms) rests
              ∙ c.ranges.accepts.admitted;
          ranges = c.ranges.ranges;
          ranged = c.ranges.ranged;
          slopes = c.slopes;
          sloping = c.sloping;
          is_card = c.is_card;
        }

    module _ (well : WellFormed formula_of) where
      abbrev F : ℕ
      F = formula_of.header.scale

      abbrev m : ℕ
      m = formula_of.header.inputs

      abbrev n : ℕ
      n = formula_of.header.outputs

      below : Each (λ j o. o < m + length formula_of.program) 0 formula_of.results
      below = each_map (λ j o l. omega (arith, well.program_long)) well.results_below

      static_many : length k.static ≡ n
      static_many =
          ap (λ (c : Card). length c.static) c.is_card
          ∙ length-map formula_of.results (λ o. (get_or c.ranges.accepts.admits o no_matryoshka).margin) ∙ well.results_long

      rows_many : length k.slopes ≡ n
      rows_many =
          ap (λ (c : Card). length c.slopes) c.is_card ∙ length-map formula_of.results (λ o. get_or c.slopes o []) ∙ well.results_long

      -- m slopes an output
      pub rows_long : All (Many m) k.slopes
      rows_long =
          subst (λ (c : Card). All (Many m) c.slopes) (sym c.is_card)
          (all_outputs (Many m) (λ o. get_or c.slopes o []) (m + length formula_of.program)
          (slopes_many F m c.ranges.ranges formula_of.program well.operands_smaller c.sloping) below)

      rows_low : All (λ l. largest l ≤ M) k.slopes
      rows_low =
          subst (λ (c : Card). All (λ l. largest l ≤ M) c.slopes) (sym c.is_card)
          (all_outputs (λ l. largest l ≤ M) (λ o. get_or c.slopes o []) (m + length formula_of.program)
          (slopes_low F m c.ranges.ranges formula_of.program well.operands_smaller c.sloping well.limits.scale_small) below)

      admits_long : length c.ranges.accepts.admits ≡ m + length formula_of.program
      admits_long =
          run_long (matryoshka_rule F) no_matryoshka formula_of.program passed_of.values c.ranges.accepts.admitted
          ∙ ap (λ (i : ℕ). i + length formula_of.program) (passed_many a g er lr passed_of)

      static_all : All (λ i. i ≤ M) k.static
      static_all =
          subst (λ (c : Card). All (λ i. i ≤ M) c.static) (sym c.is_card)
          (all_outputs (λ i. i ≤ M) (λ o. (get_or c.ranges.accepts.admits o no_matryoshka).margin) (m + length formula_of.program)
          (λ o l. all_at low o no_matryoshka (omega (arith, admits_long))) below)
        where
          low : All (λ (x : Matryoshka). x.margin ≤ M) c.ranges.accepts.admits
          low =
              static_low F formula_of.program (matryoshka_lawful.tested_values m g passed_of.fits).legal c.ranges.accepts.admitted

      -- "E has n places, L n·m, output by output", and none of their numbers is over M
      pub record CardFits : Type 0 where
        pub static_long : length k.static ≡ n
        pub slopes_long : length (flat k.slopes) ≡ n * m
        pub static_low : largest k.static ≤ M
        pub slopes_low : largest (flat k.slopes) ≤ M

      pub card_fits : CardFits
      card_fits =
          record {
            static_long = static_many;
            slopes_long = flat_long m rows_long ∙ ap (λ (i : ℕ). i * m) rows_many;
            static_low = largest_all M static_all;
            slopes_low = flat_low M rows_low;
          }

      -- the card in front of two lists
      card_in_front : (E L : List ℕ) → take n E ≡ k.static → take (n * m) L ≡ flat k.slopes → card_in m n E L ≡ k
      card_in_front E L p q = ap₂ card p (rows_flat m n rows_long rows_many L q)

-- after an admission that is accepted the ball run over (middle, stray) is never refused
pub ball_run_never : {a : Answer Formula} {g : Domain} {er lr : ℕ} (r : Admits a g er lr) → WellFormed r.ready.passed.formula → {n k : ℕ}
    → MetInRun ball_kind ball_terms r.ready.passed.formula (ranges_of r.ready.passed.values) n k → ⊥
ball_run_never {a} {g} {er} {lr} r well e =
    no_value
    (sym (met_stop ball_refusing f ds many e) ∙ ap (walked f.header.inputs) (ranges_finish f.header.scale f.program ds small admitted).finishes)
  where
    f : Formula
    f = r.ready.passed.formula

    ds : List Ball
    ds = ranges_of r.ready.passed.values

    many : length ds ≡ f.header.inputs
    many = ranges_many a g er lr r.ready.passed

    small : Each (Smaller f.header.scale) (length ds) f.program
    small = subst (λ (i : ℕ). Each (Smaller f.header.scale) i f.program) (sym many) well.operands_smaller

    admitted : run (matryoshka_rule f.header.scale) no_matryoshka f.program (map still ds) ≡ finished r.admits
    admitted =
        ap (λ (ms : List Matryoshka). run (matryoshka_rule f.header.scale) no_matryoshka f.program ms)
        (still_domain r.ready.passed.values r.ready.at_rest) ∙ r.admitted

-- ---- a use of it

-- (middle, stray) of the domain that a caller brings
pub ranges_brought : (cs : List ℤ) (ss rs : List ℕ) → length cs ≡ length ss → length cs ≡ length rs → ranges_of (matryoshki cs ss rs) ≡ balls cs ss
ranges_brought [] ss rs p q = refl
ranges_brought (c ∷ cs) [] rs p q = absurd (no_suc (sym p))
ranges_brought (c ∷ cs) (s ∷ ss) [] p q = absurd (no_suc (sym q))
ranges_brought (c ∷ cs) (s ∷ ss) (r ∷ rs) p q = ap (λ (l : List Ball). ball c s ∷ l) (ranges_brought cs ss rs (down p) (down q))

-- a use that gives margins
pub record Used (u : Use) (room : ℕ) (margins : List ℕ) : Type 0 where
  pub fits : Fits u room
  pub gives : margins ≡ sums_of fits

pub used_by : {u : Use} {room : ℕ} {margins : List ℕ} → use_card u room ≡ value margins → Used u room margins
used_by {u} {room} {margins} e = by_answer (use_answers u room) e
  where
    by_answer : {x : Placed (List ℕ)} → UseAnswer u room x → x ≡ value margins → Used u room margins
    by_answer (given.three d) e = absurd (no_value e)
    by_answer (given.four s d) e = absurd (no_value e)
    by_answer (given.of_domain k m) e = absurd (no_value e)
    by_answer (given.of_balls b m) e = absurd (no_value e)
    by_answer (given.ten r s) e = absurd (no_value e)
    by_answer (given.twenty r d m) e = absurd (no_value e)
    by_answer (given.eleven f o) e = absurd (no_value e)
    by_answer (given.margins f d) e = record { fits = f; gives = sym (same_value e) }

module _ (a : Answer Formula) (g : Domain) (er lr : ℕ) {k : Card} (c : CardMade a g er lr k) where
  abbrev f : Formula
  f = formula_of a g er lr c

  abbrev ds : List Ball
  ds = domain_of a g er lr c

  module _ (well : WellFormed f) {u : Use} (uses : UsesCard f g k u) where
    same_F : use_scale u ≡ f.header.scale
    same_F = ap nat_abs uses.same_scale

    same_m : use_inputs u ≡ f.header.inputs
    same_m = ap nat_abs uses.same_inputs

    same_n : use_outputs u ≡ f.header.outputs
    same_n = ap nat_abs uses.same_outputs

    -- a card that was made passes the test of 20
    pub made_numbers_fit : numbers_fit u ≡ true
    made_numbers_fit =
        both_pass
        (le-leb (largest (take (use_outputs u) u.static)) M (subst (λ (l : List ℕ). largest l ≤ M) (sym uses.holds_static) fits.static_low))
        (le-leb (largest (take (use_slopes u) u.slopes)) M (subst (λ (l : List ℕ). largest l ≤ M) (sym uses.holds_slopes) fits.slopes_low))
      where
        fits : CardFits a g er lr c well
        fits = card_fits a g er lr c well

    same_card : card_in (use_inputs u) (use_outputs u) u.static u.slopes ≡ k
    same_card =
        ap₂ (λ (m n : ℕ). card_in m n u.static u.slopes) same_m same_n
        ∙ card_in_front a g er lr c well u.static u.slopes (ap (λ (n : ℕ). take n u.static) (sym same_n) ∙ uses.holds_static)
        (ap₂ (λ (n m : ℕ). take (n * m) u.slopes) (sym same_n) (sym same_m) ∙ uses.holds_slopes)

    -- its domain is the one that the card was made of
    same_domain : {es : List Ball} → tested ball_kind (use_inputs u) u.domain ≡ value es → es ≡ ds
    same_domain e =
        let p = passed_of a g er lr c in
        let t = let_in matryoshka_kind f.header.inputs g p.fits in
        let d = domain_fit g t.0 in
        sym (let_in ball_kind (use_inputs u) u.domain e).1
        ∙ ap (λ (b : BallReadings). balls b.centres (map nat_abs b.margins)) uses.same_domain
        ∙ sym (ranges_brought g.middles (map nat_abs g.strays) (map nat_abs g.margins) (strays_even d) (margins_even d))
        ∙ ap ranges_of t.1

    -- the margins that a use gives hold every exact result around the bare answer on the readings' centres
    pub used_honest : (room : ℕ) {margins : List ℕ} → use_card u room ≡ value margins → HoldsAround f margins (ball_kind.values u.readings)
    used_honest room {margins} e =
        subst₂ (HoldsAround f) (sym same_margins) (sym (let_in ball_kind (use_inputs u) u.readings x.fits.read.readings_fit).1)
        (card_holds well ds (ranges_many a g er lr (passed_of a g er lr c)) (card_of a g er lr c) inside)
      where
        x : Used u room margins
        x = used_by e

        bs : List Ball
        bs = x.fits.read.readings

        inside : Rel Inside ds bs
        inside = subst (λ (l : List Ball). Rel Inside l bs) (same_domain x.fits.read.based.domain_fits) (fits_inside u x.fits)

        same_margins : margins ≡ card_margins f.header.scale k (margins_of bs)
        same_margins = x.gives ∙ ap₂ (λ (F : ℕ) (k : Card). card_margins F k (margins_of bs)) same_F same_card

-- both jobs: where one makes a card and the other uses it
pub card_honest : (a : Answer Formula) (g : Domain) (er lr : ℕ) {k : Card} {f : Formula} → a ≡ value f → WellFormed f → card_job a g er lr ≡ value k
    → {u : Use} → UsesCard f g k u → (room : ℕ) {margins : List ℕ} → use_card u room ≡ value margins
    → HoldsAround f margins (ball_kind.values u.readings)
card_honest a g er lr {k} {f} means well e {u} uses room {margins} h =
    subst (λ (f : Formula). HoldsAround f margins (ball_kind.values u.readings)) same
    (used_honest a g er lr c (subst WellFormed (sym same) well) (subst (λ (f : Formula). UsesCard f g k u) (sym same) uses) room h)
  where
    c : CardMade a g er lr k
    c = card_made_by a g er lr e

    same : formula_of a g er lr c ≡ f
    same = same_value (sym (passed_of a g er lr c).means ∙ means)
