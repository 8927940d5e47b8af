-- The slopes' walk in the code's shape: how far it has come, with the rows made so far in front of the list; one row more, given up, all. Assumes nothing.
use mathlib.Core.Path.{◌≡◌, refl, sym, ◌∙◌, ap, ap₂, subst}
use mathlib.Core.Bool.{Bool, true, false}
use mathlib.Core.List.{List, [], ◌∷◌, ◌++◌, append-nil, append_assoc}
use Prim.Native.Nat.{ℕ, zero, suc, ◌+◌, ◌-◌, ◌*◌, ◌^◌, ◌≤◌, ◌<◌}
use native.Mathlib.Nat.{mul-le-mul_right, add-mul}
use native.Mathlib.Omega.{arith}
use borrow.Author.Tests.{leb-true, leb-false}
use lib.Dec.{leb}
use lib.IntN.{ℤ, pos, nat_abs}
use lib.ListN.{length, get_or, take, drop, length-append}
use lib.Seq.{get_or-take}
use Rattle.std.specs.declared.result.Result.{Result}
use Rattle.std.specs.declared.result.Result.TheVariants.{Ok, Err}
use Rattle.lists.specs.All.{All}
use Rattle.lists.specs.Each.{Each}
use Rattle.lists.specs.Over.{over}
use Rattle.lists.proofs.Each.{all_at, all_behind}
use Rattle.lists.proofs.Over.{over_start, over_front, over_long, over_over}
use Rattle.refusals.specs.declared.Refusal.{Refusal}
use Rattle.refusals.specs.declared.Refusal.TheVariants.{OutOfReach}
use Rattle.refusals.specs.Refusals.{refusal_number}
use Rattle.refusals.specs.Said.{refuses}
use Rattle.rules.specs.declared.Ball.{Ball}
use Rattle.rules.specs.Numbers.{M}
use Rattle.rules.specs.Operation.{Operation}
use Rattle.rules.specs.Reciprocals.{ball_may_be_zero}
use Rattle.rules.specs.Values.{IsBall, ball_reach}
use Rattle.rules.specs.Balls.{ball, ball_result, ball_rule}
use Rattle.rules.specs.Lists.{ball_lists, no_ball}
use Rattle.rules.proofs.Lists.{balls_at, balls_many}
use Rattle.rules.proofs.Reach.{reach_accepts, reach_refuses, step_accepted}
use Rattle.rules.proofs.Zeros.{ball_away}
use Rattle.bits.specs.declared.Cursor.{Cursor}
use Rattle.formulas.specs.declared.Header.{Header}
use Rattle.formulas.specs.declared.Instruction.{Instruction}
use Rattle.formulas.specs.declared.Instruction.TheVariants.{Reciprocal}
use Rattle.formulas.specs.Formula.{Smaller, places}
use Rattle.formulas.specs.Run.{made_by, walk_end}
use Rattle.formulas.proofs.Lawful.{ball_room}
use Rattle.formulas.proofs.Settled.{Makes, run_settles}
use Rattle.packed.specs.Meaning.{meant}
use Rattle.packed.specs.Walk.{Readable, Decodes, DecodesFrom}
use Rattle.packed.specs.declared.loaded.Loaded.{Loaded}
use Rattle.packed.specs.Loading.{place_of, Loads}
use Rattle.packed.proofs.Shapes.{decodes_place, readable_place}
use Rattle.packed.proofs.Formed.{Formed, formed, limits_of}
use Rattle.walks.proofs.Onward.{Goes, Onward, onward_start, onward_readable, onward_smaller, onward_more, onward_stops, onward_ends}
use Rattle.walks.proofs.Walking.{first, formula_near, formula_small, formula_whole, formula_each, formula_stands}
use Rattle.cards.specs.Slopes.{inputs_from, all_inputs, largest, slopes_result, slopes_rule, with_slopes, slope_run}
use Rattle.cards.specs.Card.{flat, rows}
use Rattle.cards.proofs.Weights.{Many}
use Rattle.cards.proofs.Slopes.{largest_at, inputs_long, input_low, step_many}
use Rattle.cards.proofs.Flat.{flat_long, flat_low, rows_flat}
use Rattle.slope_walk.specs.Grading.{if_low, Layable, Laid, Ranged, Sloping, Agrees, Sloped, ranges, Gradable, Grades}
use Rattle.slope_walk.proofs.Inputs.{inputs_many, inputs_flat_long}

-- the slopes are worked out one instruction after another
slopes_go : (F m : ℕ) (bs : List Ball) → Goes (slope_run F m bs) (λ ls i. slopes_rule F m (with_slopes bs ls i))
slopes_go F m bs = record { at_end = λ ls. refl; by_one = λ i is ls. refl }

pub flat_behind : (ls : List (List ℕ)) (r : List ℕ) → flat (ls ++ r ∷ []) ≡ flat ls ++ r
flat_behind [] r = append-nil r
flat_behind (l ∷ ls) r = ap (λ (k : List ℕ). l ++ k) (flat_behind ls r) ∙ sym (append_assoc l (flat ls) r)

inputs_low : (F m i k : ℕ) → F ≤ 30 → All (λ (r : List ℕ). largest r ≤ M) (inputs_from F m i k)
inputs_low F m i zero f = All.none
inputs_low F m i (suc k) f = All.one (input_low F m i f) (inputs_low F m (suc i) k f)

-- k instructions' rows are made, none with a slope over M, and they stand in front
pub record Grading (s : List ℕ) (h : Header) (cs : List ℤ) (rs : List ℕ) (c : Cursor) (k : ℕ) (old now : List ℕ) : Type 0 where
  pub formula_there : Formed s h
  pub asked : Gradable s h (ball_lists cs rs) old
  pub made : List (List ℕ)
  pub onward : Onward (slope_run h.scale h.inputs (ranges h (ball_lists cs rs))) s h.scale first c h.inputs h.instructions k
      (all_inputs h.scale h.inputs) made
  pub many : length made ≡ h.inputs + k
  pub each_many : All (Many h.inputs) made
  pub each_low : All (λ r. largest r ≤ M) made
  pub holds : now ≡ over (flat made) old

pub grading_start : {s : List ℕ} {h : Header} {cs : List ℤ} {rs slopes : List ℕ} → Gradable s h (ball_lists cs rs) slopes
    → Grading s h cs rs first 0 slopes slopes
grading_start {s} {h} {cs} {rs} {slopes} p =
    let f = formed s p.is_formula in
    let F = h.scale in
    let m = h.inputs in
    record {
      formula_there = f;
      asked = p;
      made = all_inputs F m;
      onward =
          onward_start (slopes_go F m (ranges h (ball_lists cs rs))) (all_inputs F m) (record { all = f.instructions; reads = f.reads_instructions });
      many = omega (arith, inputs_long F m 0 m);
      each_many = inputs_many F m 0 m;
      each_low = inputs_low F m 0 m (limits_of f).scale_small;
      holds = over_start slopes (inputs_flat_long F m) p.inputs_there;
    }

module _ {s : List ℕ} {h : Header} {cs : List ℤ} {rs : List ℕ} {c : Cursor} {k : ℕ} {old now : List ℕ} (w : Grading s h cs rs c k old now) where
  abbrev F : ℕ
  F = h.scale

  abbrev m : ℕ
  m = h.inputs

  abbrev bs : List Ball
  bs = ranges h (ball_lists cs rs)

  goes : Goes (slope_run h.scale h.inputs (ranges h (ball_lists cs rs)))
      (λ ls i. slopes_rule h.scale h.inputs (with_slopes (ranges h (ball_lists cs rs)) ls i))
  goes = slopes_go F m bs

  few : k ≤ h.instructions
  few = w.onward.few

  small : h.inputs + k ≤ 528
  small = formula_small goes w.formula_there w.onward

  front_long : length (flat w.made) ≡ (h.inputs + k) * h.inputs
  front_long = flat_long m w.each_many ∙ ap (λ (n : ℕ). n * m) w.many

  front_inside : length (flat w.made) ≤ length old
  front_inside =
      let so_far : h.inputs + k ≤ places h = omega (arith, few) in
      omega (arith, front_long, mul-le-mul_right m so_far, w.asked.room)

  pub grading_long : length now ≡ length old
  grading_long = ap length w.holds ∙ over_long (flat w.made) old front_inside

  in_front : take ((h.inputs + k) * h.inputs) now ≡ flat w.made
  in_front = ap (take ((m + k) * m)) w.holds ∙ over_front (flat w.made) old front_long

  rows_are : rows h.inputs (h.inputs + k) now ≡ w.made
  rows_are = rows_flat m (m + k) w.each_many w.many now in_front

  low : (j : ℕ) → j < (h.inputs + k) * h.inputs → get_or now j 0 ≤ M
  low j l =
      omega (
        arith,
        sym (get_or-take ((m + k) * m) now j 0 l) ∙ ap (λ (r : List ℕ). get_or r j 0) in_front,
        largest_at (flat w.made) j,
        flat_low M w.each_low,
      )

  agrees : Agrees (places h) (ranges h (ball_lists cs rs)) cs rs
  agrees j l =
      let r = ball_room (ball_lists cs rs) w.asked.balls_room in
      balls_at (places h) j cs rs l r.0 r.1 ∙ ap₂ ball (get_or-take (places h) cs j (pos 0) l) (get_or-take (places h) rs j 0 l)

  ranged : (j : ℕ) → j < places h → Ranged cs rs j
  ranged j l =
      let r = ball_room (ball_lists cs rs) w.asked.balls_room in
      record {
        centre_there = omega (arith, r.0);
        margin_there = omega (arith, r.1);
        is_ball = subst IsBall (agrees j l) (all_at w.asked.legal j no_ball (omega (arith, balls_many (places h) cs rs r.0 r.1)));
      }

  -- every ball is the rule's, so that no reciprocal's operand may be 0
  makes : Each (Makes (ball_rule h.scale) no_ball (ranges h (ball_lists cs rs))) h.inputs (meant s).program
  makes =
      let smaller = subst (λ (g : Header). Each (Smaller g.scale) g.inputs (meant s).program) w.formula_there.is_header w.formula_there.well.operands_smaller in
      subst (λ (n : ℕ). Each (Makes (ball_rule F) no_ball bs) n (meant s).program) w.asked.as_many
      (run_settles (ball_rule F) no_ball F (meant s).program w.asked.started
      (subst (λ (n : ℕ). Each (Smaller F) n (meant s).program) (sym w.asked.as_many) smaller) w.asked.ranged)

  pub grading_ends : h.instructions ≤ k → Grades s h (ball_lists cs rs) old now (Ok c)
  grading_ends l =
      let e : k ≡ h.instructions = omega (arith, few) in
      let r = formula_whole goes w.formula_there w.onward (onward_ends goes w.onward e) in
      record {
        says = sym (ap (walk_end m) r);
        grown = w.holds ∙ ap (λ ls. over (flat ls) old) (sym (ap made_by r));
        stands = formula_stands goes w.formula_there w.onward e;
      }

  module _ (next : k < h.instructions) where
    pub grading_within : c.at ≤ 2 ^ 30
    grading_within = omega (arith, formula_near goes w.formula_there w.onward)

    pub grading_readable : {l : Loaded} → Loads s c l → Readable s (place_of l)
    grading_readable o = readable_place o (onward_readable goes w.onward next)

    layable : Layable h.inputs ((h.inputs + k) * h.inputs) now
    layable =
        let so_far : h.inputs + k + 1 ≤ places h = omega (arith, next) in
        record { room = omega (arith, mul-le-mul_right m so_far, add-mul (m + k) 1 m, w.asked.room, grading_long); low = low }

    module _ {l : Loaded} (loads : Loads s c l) {i : Instruction} {e : Cursor} (from : DecodesFrom s l i e) where
      decodes : Decodes s c i e
      decodes = decodes_place loads from

      smaller_here : Smaller h.scale (h.inputs + k) i
      smaller_here = onward_smaller goes w.onward next decodes

      away : (j : ℕ) → i ≡ Reciprocal j → get_or rs j 0 < nat_abs (get_or cs j (pos 0))
      away j t =
          let made = subst (Makes (ball_rule F) no_ball bs (m + k)) t (formula_each goes w.formula_there w.onward next decodes makes) in
          let b = get_or bs j no_ball in
          let below : j < places h = omega (arith, (subst (Smaller F (m + k)) t smaller_here).1, next) in
          let here = ball_away b (step_accepted ball_may_be_zero ball_reach (Operation.reciprocal b) (ball_result F (Operation.reciprocal b)) made).divisible in
          subst (λ (a : Ball). a.margin < nat_abs a.centre) (agrees j below) here

      pub grading_steps : Sloping h.scale h.inputs i (h.inputs + k) cs rs now
      grading_steps =
          record {
            scale_small = (limits_of w.formula_there).scale_small;
            smaller = smaller_here;
            with_inputs = omega arith;
            few = omega (arith, small);
            inputs_few = (limits_of w.formula_there).inputs_few;
            layable = layable;
            ranged = λ j b. ranged j (omega (arith, next));
            away = away;
          }

      module _ {new : List ℕ} {t : Result (Unit {0}) Refusal} (steps : Sloped h.scale h.inputs i (h.inputs + k) cs rs now new t) where
        abbrev new_row : List ℕ
        new_row = slopes_result F m (with_slopes bs w.made i)

        laid : Laid (slopes_result h.scale h.inputs (with_slopes (ranges h (ball_lists cs rs)) w.made i)) ((h.inputs + k) * h.inputs) now new t
        laid =
            subst (λ (ls : List (List ℕ)). Laid (slopes_result F m (with_slopes bs ls i)) ((m + k) * m) now new t) rows_are
            (steps.lays bs (λ j b. agrees j (omega (arith, next))))

        low_if : (b : Bool) → t ≡ if_low b → t ≡ Ok tt → b ≡ true
        low_if true e u = refl
        low_if false e u = absurd (cc)

        high_if : (b : Bool) {q : Refusal} → t ≡ if_low b → t ≡ Err q → (b ≡ false) × (q ≡ OutOfReach)
        high_if true e u = absurd (cc)
        high_if false e u = (refl, cc)

        pub grading_stops : {q : Refusal} → t ≡ Err q → Grades s h (ball_lists cs rs) old new (Err (record { why = q; place = k }))
        grading_stops u =
            let high = high_if (leb (largest new_row) M) laid.fits u in
            let o = reach_refuses largest (slopes_result F m (with_slopes bs w.made i)) (leb-false _ M high.0) in
            let r = formula_whole goes w.formula_there w.onward (onward_stops goes w.onward next decodes o) in
            rw high.1 (record { says = ap (refuses (refusal_number OutOfReach)) place ∙ sym (ap (walk_end m) r); grown = tt; stands = tt })
          where
            place : k ≡ length w.made - h.inputs
            place = omega (arith, w.many)

        pub grading_more : t ≡ Ok tt → Grading s h cs rs e (k + 1) old new
        grading_more u =
            let low_row = leb-true (largest new_row) M (low_if (leb (largest new_row) M) laid.fits u) in
            record {
              formula_there = w.formula_there;
              asked = w.asked;
              made = w.made ++ new_row ∷ [];
              onward = onward_more goes w.onward next decodes (reach_accepts largest new_row low_row);
              many = omega (arith, length-append w.made (new_row ∷ []), w.many);
              each_many = all_behind w.each_many (step_many F m bs w.made i smaller_here (λ j b. all_at w.each_many j [] (omega (arith, w.many))));
              each_low = all_behind w.each_low low_row;
              holds =
                  laid.holds u
                  ∙ ap₂ (λ (a : List ℕ) (n : ℕ). a ++ new_row ++ drop n now) in_front as_long
                  ∙ ap (λ (a : List ℕ). over a now) (sym (flat_behind w.made new_row))
                  ∙ ap (over (flat (w.made ++ new_row ∷ []))) w.holds
                  ∙ over_over (flat w.made) (flat (w.made ++ new_row ∷ [])) old longer;
            }
          where
            as_long : (h.inputs + k) * h.inputs + length new_row ≡ length (flat w.made ++ new_row)
            as_long = omega (arith, front_long, length-append (flat w.made) new_row)

            longer : length (flat w.made) ≤ length (flat (w.made ++ new_row ∷ []))
            longer = omega (arith, ap length (flat_behind w.made new_row), length-append (flat w.made) new_row)
