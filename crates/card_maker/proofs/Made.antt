-- A card in the code's shape: refused by its tests, its admission, its ball run or a slope, or made. Assumes nothing.
use mathlib.Core.Path.{◌≡◌, refl, sym, ◌∙◌, ap, ap₂, subst}
use mathlib.Core.List.{List, [], ◌∷◌, map}
use mathlib.Core.Logic.{inl, inr}
use Prim.Native.Nat.{ℕ, suc, ◌*◌, ◌<◌}
use native.Mathlib.Omega.{arith}
use lib.IntN.{nat_abs}
use lib.ListN.{length, get_or, take, length-map}
use Rattle.lists.specs.All.{All, none, one}
use Rattle.lists.specs.Each.{Each}
use Rattle.lists.specs.Over.{over}
use Rattle.lists.proofs.Over.{over_front}
use Rattle.lists.proofs.PartOf.{part_picked}
use Rattle.std.specs.declared.result.Result.TheVariants.{Ok, Err}
use Rattle.refusals.specs.Places.{because}
use Rattle.refusals.specs.declared.Refused.{Refused}
use Rattle.refusals.specs.declared.Refusal.{Refusal}
use Rattle.refusals.specs.Answer.{value, then}
use Rattle.refusals.specs.Places.{Placed, refused_at, refuse_at}
use Rattle.refusals.specs.Said.{answered, refuses}
use Rattle.refusals.proofs.Answers.{then_value, then_refused}
use Rattle.refusals.proofs.OneReply.{never_both, first_said, place_said}
use Rattle.rules.specs.declared.Ball.{Ball}
use Rattle.rules.specs.declared.Matryoshka.{Matryoshka}
use Rattle.rules.specs.Balls.{ball_rule}
use Rattle.rules.specs.Matryoshki.{matryoshka_rule}
use Rattle.rules.specs.Lists.{balls, no_ball, no_matryoshka}
use Rattle.rules.proofs.Lists.{static_part}
use Rattle.bits.specs.declared.Cursor.{Cursor}
use Rattle.formulas.specs.declared.Header.{Header}
use Rattle.formulas.specs.Formula.{Smaller, places}
use Rattle.formulas.specs.Run.{Walk, finished, stopped, run, made_by, walk_end}
use Rattle.formulas.specs.Readings.{Domain, ball_readings, balls_brought}
use Rattle.formulas.specs.Kinds.{ball_kind, matryoshka_kind}
use Rattle.formulas.proofs.Walks.{run_long}
use Rattle.formulas.proofs.Judging.{Fit}
use Rattle.formulas.proofs.Fitting.{let_in, let_through, DomainFit, domain_many, strays_even, margins_even}
use Rattle.packed.specs.Meaning.{meant}
use Rattle.packed.proofs.Formed.{Formed, formed}
use Rattle.walks.specs.Walks.{Walked}
use Rattle.walks.specs.Walks.{walked_said}
use Rattle.cards.specs.Slopes.{all_inputs, slope_run}
use Rattle.cards.specs.Card.{Card, picked, flat, rows}
use Rattle.cards.specs.Making.{walked, ranges_of, card_made}
use Rattle.cards.specs.Lent.{CardLists, static_in, slopes_in, card_said}
use Rattle.cards.proofs.Weights.{Many}
use Rattle.cards.proofs.Slopes.{inputs_long, slopes_long, slopes_many}
use Rattle.cards.proofs.Flat.{flat_long, rows_flat, row_is}
use Rattle.cards.proofs.Honest.{ranges_brought}
use Rattle.slope_walk.specs.Grading.{row}
use Rattle.card_maker.specs.Parts.{Begun, admission, Admits, Rangeable, range_walk, Slopable, slope_walk, slopes_end, SlopesThere, Slopes}
use Rattle.card_maker.specs.Parts.{Writes, Startable, Makes}
use Rattle.card_maker.proofs.Admitted.{fit_of}

-- ---- how a walk ends

walked_stopped : {A : Type 0} (m : ℕ) (w : Walk A) {n k : ℕ} → refuses n k ≡ walk_end m w → walked m w ≡ refused_at n k
walked_stopped m (finished vs) e = absurd (never_both (sym e))
walked_stopped m (stopped n vs) e = ap₂ refused_at (sym (ap first_said e)) (sym (ap place_said e))

walked_finished : {A : Type 0} (m : ℕ) (w : Walk A) {n : ℕ} → answered n ≡ walk_end m w → w ≡ finished (made_by w)
walked_finished m (finished vs) e = refl
walked_finished m (stopped j vs) e = absurd (never_both e)

module _ (s : List ℕ) (h : Header) where
  -- the ball run, then the slopes, then f of them
  abbrev slopes_then : (List (List ℕ) → Placed Card) → Walk Ball → Placed Card
  slopes_then f w = then (walked h.inputs w) (λ bs. then (walked h.inputs (slope_walk s h bs)) f)

  slopes_stopped : (f : List (List ℕ) → Placed Card) (w : Walk Ball) {n k : ℕ} → refuses n k ≡ slopes_end s h w → slopes_then f w ≡ refused_at n k
  slopes_stopped f (finished bs) e = then_refused f (walked_stopped h.inputs (slope_walk s h bs) e)
  slopes_stopped f (stopped n vs) e =
      ap₂ refused_at (sym (ap first_said e)) (sym (ap place_said e))

  -- both finished
  record BothFinish (w : Walk Ball) : Type 0 where
    ranged : w ≡ finished (made_by w)
    sloped : slope_walk s h (made_by w) ≡ finished (made_by (slope_walk s h (made_by w)))

  slopes_finished : (w : Walk Ball) {n : ℕ} → answered n ≡ slopes_end s h w → BothFinish w
  slopes_finished (finished bs) e = record { ranged = refl; sloped = walked_finished h.inputs (slope_walk s h bs) e }
  slopes_finished (stopped n vs) e = absurd (never_both e)

all_from : {A : Type 0} {P : A → Type 0} (d : A) (l : List A) → ((j : ℕ) → j < length l → P (get_or l j d)) → All P l
all_from d [] h = none
all_from d (x ∷ l) h = one (h 0 (omega arith)) (all_from d l (λ j k. h (suc j) (omega arith)))

map_each : {A : Type 0} (n : ℕ) (f g : ℕ → A) → ((o : ℕ) → o < n → f o ≡ g o) → {v : ℕ} {os : List ℕ} → Each (λ j o. o < n) v os → map f os ≡ map g os
map_each n f g e Each.none = refl
map_each n f g e (Each.one {a = o} p ps) = ap₂ ◌∷◌ (e o p) (map_each n f g e ps)

-- ---- what each part asks

module _ {s : List ℕ} {h : Header} {g : Domain} (b : Begun s h g) where
  fits : DomainFit h.inputs g
  fits = fit_of b

  same_ranges : ranges_of (matryoshka_kind.values g) ≡ balls g.middles (map nat_abs g.strays)
  same_ranges = ranges_brought g.middles (map nat_abs g.strays) (map nat_abs g.margins) (strays_even fits) (margins_even fits)

  -- middles and strays pass the tests of a ball's readings where the domain passed its own
  range_fit : Fit h.inputs (balls_brought (ball_readings g.middles g.strays))
  range_fit =
      let f = (let_in matryoshka_kind h.inputs g b.fits).0 in
      record {
        counted = one fits.middles_many (one fits.strays_many none);
        each_good = λ j l.
            let good = f.each_good j l in
            record {
              signs = λ n. elim n [ inl b ↦ b | inr b ↦ good.signs (inl b) ];
              reach = omega (arith, good.reach);
            };
      }

  pub begun_rangeable : Rangeable s h g.middles g.strays
  begun_rangeable =
      record {
        is_formula = b.is_formula;
        fits = let_through ball_kind h.inputs (ball_readings g.middles g.strays) range_fit;
      }

  there : Formed s h
  there = formed s b.is_formula

  abbrev ms : List Matryoshka
  ms = matryoshka_kind.values g

  -- the job's last part, with the header in its place
  made_by_header : Header → Placed Card
  made_by_header a =
      then (walked a.inputs (run (matryoshka_rule a.scale) no_matryoshka (meant s).program (matryoshka_kind.values g))) (λ ns.
      then (walked a.inputs (run (ball_rule a.scale) no_ball (meant s).program (ranges_of (matryoshka_kind.values g)))) (λ bs.
      then (walked a.inputs (slope_run a.scale a.inputs bs (meant s).program (all_inputs a.scale a.inputs))) (λ ls.
      value (picked (meant s).results ns ls))))

  is_made : card_made (meant s) (matryoshka_kind.values g)
      ≡ then (walked h.inputs (admission s h g)) (λ ns.
      slopes_then s h (λ ls. value (picked (meant s).results ns ls)) (range_walk s h g.middles g.strays))
  unfolding card_made made_by_header
  is_made =
      ap made_by_header there.is_header
      ∙ ap (λ bs. then (walked h.inputs (admission s h g)) (λ ns.
      slopes_then s h (λ ls. value (picked (meant s).results ns ls)) (run (ball_rule h.scale) no_ball (meant s).program bs))) same_ranges

  makes_nothing : {q : Refusal} {k : ℕ} (old : CardLists) → card_made (meant s) (matryoshka_kind.values g) ≡ refuse_at q k → Makes s g old old (Err (because q k))
  makes_nothing old e =
      record {
        says = sym (ap card_said e);
        static_holds = sym (ap (λ (x : Placed Card). over (static_in x) old.static) e);
        slopes_hold = sym (ap (λ (x : Placed Card). over (slopes_in x) old.slopes) e);
      }

  not_admitted : {old new : List ℕ} {r : Walked} {e : Refused} → Admits s h g old new r → r ≡ Err e
      → card_made (meant s) (matryoshka_kind.values g) ≡ refuse_at e.why e.place
  not_admitted a t = is_made ∙ then_refused _ (walked_stopped h.inputs (admission s h g) (sym (ap walked_said t) ∙ a.says))

  module _ {old new : List ℕ} {r : Walked} {d : Cursor} (a : Admits s h g old new r) (t : r ≡ Ok d) where
    admitted : admission s h g ≡ finished (made_by (admission s h g))
    admitted = walked_finished h.inputs (admission s h g) (sym (ap walked_said t) ∙ a.says)

    after_admission : card_made (meant s) (matryoshka_kind.values g)
        ≡ slopes_then s h (λ ls. value (picked (meant s).results (made_by (admission s h g)) ls)) (range_walk s h g.middles g.strays)
    after_admission = is_made ∙ then_value _ (ap (walked h.inputs) admitted)

    module _ {first last : List ℕ} {q : Walked} (l : Slopes s h g.middles g.strays first last q) where
      not_graded : {e : Refused} → q ≡ Err e → card_made (meant s) (matryoshka_kind.values g) ≡ refuse_at e.why e.place
      not_graded u = after_admission ∙ slopes_stopped s h _ (range_walk s h g.middles g.strays) (sym (ap walked_said u) ∙ l.says)

      module _ {d' : Cursor} (u : q ≡ Ok d') where
        both : BothFinish s h (range_walk s h g.middles g.strays)
        both = slopes_finished s h (range_walk s h g.middles g.strays) (sym (ap walked_said u) ∙ l.says)

        abbrev bs : List Ball
        bs = made_by (range_walk s h g.middles g.strays)

        abbrev ls : List (List ℕ)
        ls = made_by (slope_walk s h (made_by (range_walk s h g.middles g.strays)))

        card_is : card_made (meant s) (matryoshka_kind.values g)
            ≡ value (picked (meant s).results (made_by (admission s h g)) (made_by (slope_walk s h (made_by (range_walk s h g.middles g.strays)))))
        card_is =
            after_admission ∙ then_value _ (ap (walked h.inputs) both.ranged) ∙ then_value _ (ap (walked h.inputs) both.sloped)

        graded_there : last ≡ over (flat (made_by (slope_walk s h (made_by (range_walk s h g.middles g.strays))))) first
        graded_there = subst (SlopesThere s h (range_walk s h g.middles g.strays) first last) u l.there

        smaller : Each (Smaller h.scale) h.inputs (meant s).program
        smaller = subst (λ (a : Header). Each (Smaller a.scale) a.inputs (meant s).program) there.is_header there.well.operands_smaller

        program_long : length (meant s).program ≡ h.instructions
        program_long = there.well.program_long ∙ ap (λ (a : Header). a.instructions) there.is_header

        rows_long : length (made_by (slope_walk s h (made_by (range_walk s h g.middles g.strays)))) ≡ places h
        rows_long =
            slopes_long h.scale h.inputs bs (meant s).program (all_inputs h.scale h.inputs) both.sloped
            ∙ omega (arith, inputs_long h.scale h.inputs 0 h.inputs, program_long)

        rows_many : All (Many h.inputs) (made_by (slope_walk s h (made_by (range_walk s h g.middles g.strays))))
        rows_many =
            all_from [] ls
            (λ j k. slopes_many h.scale h.inputs bs (meant s).program smaller both.sloped j (omega (arith, rows_long, program_long)))

        rows_are : rows h.inputs (places h) last ≡ made_by (slope_walk s h (made_by (range_walk s h g.middles g.strays)))
        rows_are =
            rows_flat h.inputs (places h) rows_many rows_long last
            (ap (take (places h * h.inputs)) graded_there
            ∙ over_front (flat ls) first (flat_long h.inputs rows_many ∙ ap (λ (n : ℕ). n * h.inputs) rows_long))

        named : Each (λ j o. o < places h) 0 (meant s).results
        named = subst (λ (a : Header). Each (λ j o. o < places a) 0 (meant s).results) there.is_header there.well.results_below

        admits_long : length (made_by (admission s h g)) ≡ places h
        admits_long =
            run_long (matryoshka_rule h.scale) no_matryoshka (meant s).program (matryoshka_kind.values g) admitted
            ∙ omega (arith, domain_many fits, program_long)

        made_card : {lists now : CardLists} → Writes s h new last lists now → Makes s g lists now (Ok h.outputs)
        made_card {lists} {now} x =
            record {
              says = ap answered (sym outputs_many) ∙ sym (ap card_said card_is);
              static_holds =
                  x.static_written
                  ∙ ap (λ (k : List ℕ). over k lists.static)
                  (part_picked static_part (made_by (admission s h g)) old a.holds named (omega (arith, admits_long))
                  ∙ static_part.of_outputs (λ o. get_or (made_by (admission s h g)) o no_matryoshka) (meant s).results)
                  ∙ sym (ap (λ (k : Placed Card). over (static_in k) lists.static) card_is);
              slopes_hold =
                  x.slopes_written
                  ∙ ap (λ k. over (flat k) lists.slopes)
                  (map_each (places h) (λ o. row h.inputs (o * h.inputs) last) (λ o. get_or ls o []) row_there named)
                  ∙ sym (ap (λ (k : Placed Card). over (slopes_in k) lists.slopes) card_is);
            }
          where
            outputs_many : length (map (λ o. (get_or (made_by (admission s h g)) o no_matryoshka).margin) (meant s).results) ≡ h.outputs
            outputs_many =
                length-map (meant s).results (λ o. (get_or (made_by (admission s h g)) o no_matryoshka).margin) ∙ there.well.results_long
                ∙ ap (λ (a : Header). a.outputs) there.is_header

            row_there : (o : ℕ) → o < places h → row h.inputs (o * h.inputs) last ≡ get_or ls o []
            row_there o k = sym (row_is h.inputs (places h) last o k) ∙ ap (λ (r : List (List ℕ)). get_or r o []) rows_are

-- ---- as the code has it

module _ {s : List ℕ} {h : Header} {g : Domain} {old : CardLists} (p : Startable s h g old) where
  pub carry_slopable : {ls : List ℕ} → length ls ≡ 8448 → Slopable s h g.middles g.strays ls
  carry_slopable e = record { rangeable = begun_rangeable p.begun; slopes_room = omega (arith, e) }

  module _ {wm mid : List ℕ} {r : Walked} (a : Admits s h g wm mid r) where
    pub carry_not_admitted : {e : Refused} → r ≡ Err e → Makes s g old old (Err e)
    carry_not_admitted t = makes_nothing p.begun old (not_admitted p.begun a t)

    module _ {d : Cursor} (t : r ≡ Ok d) {wl last : List ℕ} {q : Walked} (l : Slopes s h g.middles g.strays wl last q) where
      pub carry_not_graded : {e : Refused} → q ≡ Err e → Makes s g old old (Err e)
      carry_not_graded u = makes_nothing p.begun old (not_graded p.begun a t l u)

      module _ {e : Cursor} (u : q ≡ Ok e) where
        pub carry_done : {new : CardLists} → Writes s h mid last old new → Makes s g old new (Ok h.outputs)
        carry_done x = made_card p.begun a t l u x
