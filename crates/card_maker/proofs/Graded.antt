-- The ball run over (middle, stray) and the slopes in the code's shape. Assumes nothing.
use mathlib.Core.Path.{◌≡◌, refl, sym, ◌∙◌, ap, subst}
use mathlib.Core.List.{List, [], ◌∷◌, ◌++◌, map}
use Prim.Native.Nat.{ℕ, ◌*◌, ◌≤◌}
use native.Mathlib.Nat.{mul-le-mul}
use native.Mathlib.Omega.{arith}
use lib.IntN.{ℤ, nat_abs}
use lib.ListN.{length, take, length-append}
use Rattle.lists.specs.All.{All}
use Rattle.lists.specs.Over.{over, least}
use Rattle.lists.proofs.Over.{over_front, over_long, over_over}
use Rattle.std.specs.declared.result.Result.TheVariants.{Ok, Err}
use Rattle.refusals.specs.Answer.{Answer, value, refused}
use Rattle.refusals.specs.Said.{answered}
use Rattle.refusals.proofs.OneReply.{never_both}
use Rattle.rules.specs.declared.Ball.{Ball}
use Rattle.rules.specs.Values.{IsBall}
use Rattle.rules.specs.Balls.{ball_rule}
use Rattle.rules.specs.Lists.{balls, BallLists, ball_lists, no_ball}
use Rattle.bits.specs.declared.Cursor.{Cursor}
use Rattle.formulas.specs.declared.Header.{Header}
use Rattle.formulas.specs.declared.Instruction.{Instruction}
use Rattle.formulas.specs.Formula.{places}
use Rattle.formulas.specs.Run.{Walk, finished, stopped, onward, made_by, walk_end}
use Rattle.formulas.specs.Kinds.{ball_kind}
use Rattle.formulas.proofs.Walks.{run_long}
use Rattle.formulas.proofs.Lawful.{ball_lawful}
use Rattle.packed.specs.Meaning.{meant}
use Rattle.packed.proofs.Formed.{Formed, formed, limits_of}
use Rattle.walks.specs.Walks.{Walked}
use Rattle.walks.specs.Walks.{walked_said}
use Rattle.cards.specs.Slopes.{all_inputs, slopes_rule, with_slopes, slope_run}
use Rattle.cards.specs.Card.{flat}
use Rattle.cards.proofs.Sizes.{ranges_legal}
use Rattle.slope_walk.specs.Grading as grading
use Rattle.slope_walk.specs.Grading.{ranges, Gradable, Grades, grading_of}
use Rattle.slope_walk.proofs.Inputs.{inputs_flat_long}
use Rattle.slope_walk.proofs.Turns.{flat_behind}
use Rattle.formulas.specs.Readings.{ball_readings}
use Rattle.formulas.specs.Lawful.{Values}
use Rattle.lists.proofs.Over.{both_least}
use Rattle.card_maker.specs.Parts.{all_places, Runnable, Runs, Rangeable, range_walk, Slopable, slope_walk, slopes_end, SlopesThere, Slopes}
use Rattle.card_maker.proofs.Carried.{places_few}

pub local_room : all_places ≤ least 528 528
local_room = both_least all_places 528 528 (omega arith) (omega arith)

module _ {s : List ℕ} {h : Header} {cs ss : List ℤ} (p : Rangeable s h cs ss) where
  there : Formed s h
  there = formed s p.is_formula

  -- the balls
  started : Values ball_kind h.inputs (balls cs (map nat_abs ss))
  started = ball_lawful.tested_values h.inputs (ball_readings cs ss) p.fits

  -- lists of 528 places are long enough for every formula
  pub range_runnable : {xs : List ℤ} {ys : List ℕ} → length xs ≡ 528 → length ys ≡ 528
      → Runnable ball_kind s h (ball_readings cs ss) (ball_lists xs ys)
  range_runnable {xs} {ys} x y =
      record {
        is_formula = p.is_formula;
        fits = p.fits;
        room = both_least all_places (length xs) (length ys) (omega (arith, x)) (omega (arith, y));
      }

-- ---- the slopes

-- the rows of a walk stand behind those that it began with
flat_longer : (F m : ℕ) (bs : List Ball) (is : List Instruction) (ls : List (List ℕ)) → length (flat ls) ≤ length (flat (made_by (slope_run F m bs is ls)))
flat_longer F m bs [] ls = omega arith
flat_longer F m bs (i ∷ is) ls = by_rule (slopes_rule F m (with_slopes bs ls i)) (λ r. flat_longer F m bs is (ls ++ r ∷ []))
  where
    by_rule : (a : Answer (List ℕ)) → ((r : List ℕ) → length (flat (ls ++ r ∷ [])) ≤ length (flat (made_by (slope_run F m bs is (ls ++ r ∷ [])))))
        → length (flat ls) ≤ length (flat (made_by (onward ls (λ ks. slope_run F m bs is ks) a)))
    by_rule (value r) rec = omega (arith, rec r, ap length (flat_behind ls r), length-append (flat ls) r)
    by_rule (refused n) rec = omega arith

-- how a walk that said so ended
ended_finished : {A : Type 0} (m : ℕ) (w : Walk A) {n : ℕ} → answered n ≡ walk_end m w → w ≡ finished (made_by w)
ended_finished m (finished vs) e = refl
ended_finished m (stopped j vs) e = absurd (never_both e)

module _ {s : List ℕ} {h : Header} {cs ss : List ℤ} {slopes : List ℕ} (p : Slopable s h cs ss slopes) where
  base : Rangeable s h cs ss
  base = p.rangeable

  pub inputs_startable : grading.Startable h.scale h.inputs slopes
  inputs_startable =
      let l = limits_of (there base) in
      record {
        scale_small = l.scale_small;
        inputs_few = l.inputs_few;
        room = omega (arith, mul-le-mul l.inputs_few l.inputs_few, p.slopes_room);
      }

  module _ {work new : BallLists} {r : Walked} (w : Runs ball_kind s h (ball_readings cs ss) work new r) where
    module _ (roomy : all_places ≤ ball_kind.room work) {d : Cursor} (t : r ≡ Ok d) where
      finishes : range_walk s h cs ss ≡ finished (made_by (range_walk s h cs ss))
      finishes = ended_finished h.inputs (range_walk s h cs ss) (sym (ap walked_said t) ∙ w.says)

      made_many : length (made_by (range_walk s h cs ss)) ≡ places h
      made_many =
          run_long (ball_rule h.scale) no_ball (meant s).program (balls cs (map nat_abs ss)) finishes
          ∙ omega (arith, (started base).many, (there base).well.program_long, ap (λ (a : Header). a.instructions) (there base).is_header)

      are_ranges : ranges h new ≡ made_by (range_walk s h cs ss)
      are_ranges = ball_lawful.front_holds (made_by (range_walk s h cs ss)) (places h) work new made_many w.holds

      new_room : ball_kind.room new ≡ ball_kind.room work
      new_room = ball_lawful.room_holds (made_by (range_walk s h cs ss)) work new (omega (arith, made_many, places_few s base.is_formula, roomy)) w.holds

      module _ {now : List ℕ} (laid : now ≡ over (flat (all_inputs h.scale h.inputs)) slopes) where
        inputs_long : length (flat (all_inputs h.scale h.inputs)) ≡ h.inputs * h.inputs
        inputs_long = inputs_flat_long h.scale h.inputs

        now_long : length now ≡ length slopes
        now_long =
            ap length laid
            ∙ over_long (flat (all_inputs h.scale h.inputs)) slopes (omega (arith, inputs_long, inputs_startable.room))

        pub slopes_gradable : Gradable s h new now
        slopes_gradable =
            let l = limits_of (there base) in
            record {
              is_formula = base.is_formula;
              balls_room = omega (arith, new_room, roomy, places_few s base.is_formula);
              room = omega (arith, now_long, p.slopes_room, mul-le-mul (places_few s base.is_formula) l.inputs_few);
              legal =
                  subst (All IsBall) (sym are_ranges) (ranges_legal h.scale (meant s).program (started base).legal finishes);
              started = balls cs (map nat_abs ss);
              as_many = (started base).many;
              ranged = finishes ∙ ap finished (sym are_ranges);
              inputs_there = ap (take (h.inputs * h.inputs)) laid ∙ over_front (flat (all_inputs h.scale h.inputs)) slopes inputs_long;
            }

        pub slopes_graded : {last : List ℕ} {q : Walked} → Grades s h new now last q → Slopes s h cs ss slopes last q
        slopes_graded {last} {q} g =
            record {
              says = g.says ∙ ap (walk_end h.inputs) same_slopes ∙ sym (ap (slopes_end s h) finishes);
              there = by_end q g.grown;
              stands = g.stands;
            }
          where
            same_slopes : grading_of s h new ≡ slope_walk s h (made_by (range_walk s h cs ss))
            same_slopes = ap (slope_walk s h) are_ranges

            by_end : (q : Walked) → grading.Grown s h new now last q → SlopesThere s h (range_walk s h cs ss) slopes last q
            by_end (Ok e) k =
                k ∙ ap (λ (v : Walk (List ℕ)). over (flat (made_by v)) now) same_slopes
                ∙ ap (over (flat (made_by (slope_walk s h (made_by (range_walk s h cs ss)))))) laid
                ∙ over_over (flat (all_inputs h.scale h.inputs)) (flat (made_by (slope_walk s h (made_by (range_walk s h cs ss))))) slopes
                (flat_longer h.scale h.inputs (made_by (range_walk s h cs ss)) (meant s).program (all_inputs h.scale h.inputs))
            by_end (Err why) x = tt
