-- A turn of drawing, in the code's shape: the next ball's doubles go behind those before them. Assumes nothing.
use mathlib.Core.Path.{◌≡◌, sym, ◌∙◌, ap, ap₂}
use mathlib.Core.List.{List, map}
use Prim.Native.Nat.{ℕ, ◌+◌, ◌*◌, ◌≤◌, ◌<◌}
use native.Mathlib.Omega.{arith}
use lib.Ieee.{Float}
use lib.IntN.{ℤ, pos, nat_abs}
use lib.ListN.{length, get_or, set, take, length-map, get_or-map}
use lib.Seq.{get_or-take}
use mir.Syntax.{w64}
use mir.Val.{Fits}
use Rattle.whole.proofs.Machine.{back, back_is}
use Rattle.lists.proofs.Over.{least_both}
use Rattle.lists.proofs.Each.{all_at}
use Rattle.lists.proofs.Front.{Filled, filled_none, filled_one, filled_all}
use Rattle.rules.specs.declared.Ball.{Ball}
use Rattle.rules.specs.Numbers.{M}
use Rattle.rules.specs.Balls.{ball}
use Rattle.rules.specs.Lists.{balls, ball_lists, BallLists, no_ball}
use Rattle.rules.proofs.Lists.{balls_at, balls_many}
use Rattle.formulas.specs.Kinds.{ball_kind}
use Rattle.formulas.proofs.Lawful.{ball_room}
use Rattle.doubles.specs.Doubles.{double}
use Rattle.charts.specs.Charts.{ChartLists, chart_lists, Drawable, Draws}

abbrev centre_double : ℕ → Ball → Float
centre_double F b = double F b.centre

abbrev margin_double : ℕ → Ball → Float
margin_double F b = double F (pos b.margin)

abbrev drawn : ℕ → List ℤ → List ℕ → List Ball
drawn n cs rs = balls (take n cs) (take n rs)

-- the doubles of the first k balls are written
pub record Drawn (F count : ℕ) (from : BallLists) (old now : ChartLists) (k : ℕ) : Type 0 where
  pub drawable : Drawable F count from old
  pub centres_filled : Filled (map (centre_double F) (ball_kind.front count from)) old.centres now.centres k
  pub margins_filled : Filled (map (margin_double F) (ball_kind.front count from)) old.margins now.margins k

module _ {F count : ℕ} {cs : List ℤ} {rs : List ℕ} {oc om : List Float} where
  pub drawn_none : Drawable F count (ball_lists cs rs) (chart_lists oc om) → Drawn F count (ball_lists cs rs) (chart_lists oc om) (chart_lists oc om) 0
  drawn_none d =
      record {
        drawable = d;
        centres_filled = filled_none (map (centre_double F) (drawn count cs rs)) oc;
        margins_filled = filled_none (map (margin_double F) (drawn count cs rs)) om;
      }

  module _ (d : Drawable F count (ball_lists cs rs) (chart_lists oc om)) where
    many : length (drawn count cs rs) ≡ count
    many = let r = ball_room (ball_lists cs rs) d.there in balls_many count cs rs r.0 r.1

    doubles_many : (g : Ball → Float) → length (map g (drawn count cs rs)) ≡ count
    doubles_many g = length-map (drawn count cs rs) g ∙ many

    stands : {k : ℕ} → k < count → get_or (drawn count cs rs) k no_ball ≡ ball (get_or cs k (pos 0)) (get_or rs k 0)
    stands {k} more =
        let r = ball_room (ball_lists cs rs) d.there in
        balls_at count k cs rs more r.0 r.1
        ∙ ap₂ ball (get_or-take count cs k (pos 0) more) (get_or-take count rs k 0 more)

    legal : {k : ℕ} → k < count → nat_abs (get_or cs k (pos 0)) + get_or rs k 0 ≤ M
    legal {k} more =
        rw (stands more) at (all_at d.legal k no_ball (omega (arith, many, more)))

  module _ {nc nm : List Float} {k : ℕ} (w : Drawn F count (ball_lists cs rs) (chart_lists oc om) (chart_lists nc nm) k) where
    pub offset_fits : k < count → Fits w64 (k * 8)
    offset_fits more = record { fits = omega (arith, more, w.drawable.few) }

    pub centres_there : k < count → k < length cs
    centres_there more = omega (arith, more, (ball_room (ball_lists cs rs) w.drawable.there).0)

    pub margins_there : k < count → k < length rs
    margins_there more = omega (arith, more, (ball_room (ball_lists cs rs) w.drawable.there).1)

    -- a number as the code reads it out of a list
    centre_read : k < count → back (get_or cs k (pos 0)) ≡ get_or cs k (pos 0)
    centre_read more = back_is (get_or cs k (pos 0)) (omega (arith, legal w.drawable more))

    pub centre_small : k < count → nat_abs (back (get_or cs k (pos 0))) ≤ M
    centre_small more = omega (arith, legal w.drawable more, ap nat_abs (centre_read more))

    pub margin_small : k < count → get_or rs k 0 ≤ M
    margin_small more = omega (arith, legal w.drawable more)

    pub centres_long : length nc ≡ length oc
    centres_long = w.centres_filled.as_long

    pub margins_long : length nm ≡ length om
    margins_long = w.margins_filled.as_long

    room : (count ≤ length oc) × (count ≤ length om)
    room = least_both count (length oc) (length om) w.drawable.room

    pub centres_inside : k < count → k < length nc
    centres_inside more = omega (arith, more, room.0, centres_long)

    pub margins_inside : k < count → k < length nm
    margins_inside more = omega (arith, more, room.1, margins_long)

    pub drawn_one : {c m : Float} → k < count → c ≡ double F (back (get_or cs k (pos 0))) → m ≡ double F (pos (get_or rs k 0))
        → Drawn F count (ball_lists cs rs) (chart_lists oc om) (chart_lists (set nc k c) (set nm k m)) (k + 1)
    drawn_one {c} {m} more e f =
        let is = stands w.drawable more in
        record {
          drawable = w.drawable;
          centres_filled = one_more (centre_double F) room.0 w.centres_filled (e ∙ ap (double F) (centre_read more) ∙ sym (ap (centre_double F) is));
          margins_filled = one_more (margin_double F) room.1 w.margins_filled (f ∙ sym (ap (margin_double F) is));
        }
      where
        one_more : (g : Ball → Float) {v : Float} {was is : List Float} → count ≤ length was
            → Filled (map g (drawn count cs rs)) was is k → v ≡ g (get_or (drawn count cs rs) k no_ball)
            → Filled (map g (drawn count cs rs)) was (set is k v) (k + 1)
        one_more g {v} {was} fits so_far u =
            let long = doubles_many w.drawable g in
            filled_one (map g (drawn count cs rs)) was (g no_ball) (omega (arith, long, fits)) (omega (arith, long, more))
            (u ∙ sym (get_or-map g (drawn count cs rs) k no_ball)) so_far

    pub drawn_all : count ≤ k → Draws F count (ball_lists cs rs) (chart_lists oc om) (chart_lists nc nm)
    drawn_all l =
        record {
          centres_hold =
              filled_all (map (centre_double F) (drawn count cs rs)) oc
              (omega (arith, doubles_many w.drawable (centre_double F))) w.centres_filled;
          margins_hold =
              filled_all (map (margin_double F) (drawn count cs rs)) om
              (omega (arith, doubles_many w.drawable (margin_double F))) w.margins_filled;
        }
