-- Balls inside a domain, in the code's shape. Assumes nothing.
use mathlib.Core.Path.{◌≡◌, refl, sym, ◌∙◌, ap, ap₂}
use mathlib.Core.Bool.{Bool, true, false}
use mathlib.Core.List.{map}
use Prim.Native.Nat.{ℕ, ◌+◌, ◌≤◌, ◌<◌}
use native.Mathlib.Omega.{arith}
use borrow.Author.Count.{below_more}
use borrow.Author.Tests.{leb-true, le-leb}
use lib.Dec.{leb}
use lib.IntN.{ℤ, pos, nat_abs, ◌-ℤ◌}
use lib.ListN.{length, get_or, length-map, get_or-map}
use Rattle.whole.proofs.Cases.{never}
use Rattle.whole.proofs.Size.{size_sub}
use Rattle.whole.proofs.Machine.{back, back_is}
use Rattle.lists.proofs.Joined.{joined_at}
use Rattle.refusals.specs.Answer.{value}
use Rattle.rules.specs.Numbers.{M}
use Rattle.rules.specs.Balls.{ball}
use Rattle.rules.specs.Lists.{no_ball, margins_of}
use Rattle.rules.proofs.Lists.{balls_margins}
use Rattle.formulas.specs.Readings.{BallReadings, number_at, balls_brought, reading}
use Rattle.formulas.specs.Readings.{Reading as Whole}
use Rattle.formulas.specs.Kinds.{ball_kind, tested}
use Rattle.formulas.proofs.Judging.{Fit}
use Rattle.formulas.proofs.Fitting.{let_in, BallFit, ball_fit, ball_many, balls_even}
use Rattle.cards.specs.Card.{Inside}
use Rattle.cards.specs.Using.{is_inside, all_inside}
use Rattle.cards.proofs.Tests.{one_outside, outside_one}
use Rattle.card_user.specs.Tests.{Small, ball_of, IsInside, Passed, AllInside}
use Rattle.lists.specs.All.{none, one}
use Rattle.readings.specs.declared.Reading.{Reading}
use Rattle.readings.specs.Judges.{InEach, Reads}

-- ---- one ball

-- a small number is as the machine keeps it
kept : (z : ℤ) → nat_abs z ≤ M → back z ≡ z
kept z l = back_is z (omega arith)

module _ {x y : Reading} (s : Small x y) where
  apart : back (back y.centre -ℤ back x.centre) ≡ y.centre -ℤ x.centre
  apart =
      ap₂ (λ a b. back (a -ℤ b)) (kept y.centre s.centre_small) (kept x.centre s.middle_small)
      ∙ back_is (y.centre -ℤ x.centre) (omega (arith, size_sub y.centre x.centre, s.centre_small, s.middle_small))

  pub inside_told : {a b d : ℕ} → a ≡ nat_abs (back (back y.centre -ℤ back x.centre)) → b ≡ nat_abs (back y.margin)
      → d ≡ nat_abs (back x.margin) → IsInside x y (leb (a + b) d)
  inside_told e f g =
      record {
        is =
            ap₂ leb (ap₂ ◌+◌ (e ∙ ap nat_abs apart) (f ∙ ap nat_abs (kept y.margin s.margin_small)))
            (g ∙ ap nat_abs (kept x.margin s.stray_small));
      }

-- ---- readings that passed

module _ (m : ℕ) (g : BallReadings) (e : tested ball_kind m g ≡ value (ball_kind.values g)) where
  fit : Fit m (balls_brought g)
  fit = (let_in ball_kind m g e).0

  parts : BallFit m g
  parts = ball_fit g fit

  centres_long : length g.centres ≡ m
  centres_long = parts.centres_many

  pub margins_long : length g.margins ≡ m
  margins_long = parts.margins_many

  values_long : length (ball_kind.values g) ≡ m
  values_long = ball_many parts

  pub margins_are : margins_of (ball_kind.values g) ≡ map nat_abs g.margins
  margins_are = balls_margins g.centres (map nat_abs g.margins) (balls_even parts)

  module _ (i : ℕ) (l : i < m) where
    centre_low : nat_abs (number_at g.centres i) ≤ M
    centre_low = omega (arith, (fit.each_good i l).reach)

    pub margin_low : nat_abs (number_at g.margins i) ≤ M
    margin_low = omega (arith, (fit.each_good i l).reach)

    value_at : get_or (ball_kind.values g) i no_ball ≡ ball (number_at g.centres i) (nat_abs (number_at g.margins i))
    value_at =
        joined_at ball g.centres (map nat_abs g.margins) i (pos 0) 0 (omega (arith, centres_long))
        (omega (arith, margins_long, length-map g.margins nat_abs))
        ∙ ap (ball (number_at g.centres i)) (get_or-map nat_abs g.margins i (pos 0))

-- ---- one after another

-- the balls before i are inside
pub record InsideBefore (m : ℕ) (d b : BallReadings) (i : ℕ) : Type 0 where
  pub some : i ≤ m
  pub inside : (k : ℕ) → k < i → is_inside (get_or (ball_kind.values d) k no_ball) (get_or (ball_kind.values b) k no_ball) ≡ true

module _ {m : ℕ} {d b : BallReadings} where
  module _ (p : Passed m d b) where
    as_many : length (ball_kind.values d) ≡ length (ball_kind.values b)
    as_many = values_long m d p.domain_fits ∙ sym (values_long m b p.readings_fit)

    module _ {i : ℕ} (l : i < m) where
      pub domain_there : InEach i (balls_brought d)
      domain_there =
          one (omega (arith, centres_long m d p.domain_fits)) (one (omega (arith, margins_long m d p.domain_fits)) none)

      pub ball_there : InEach i (balls_brought b)
      ball_there =
          one (omega (arith, centres_long m b p.readings_fit)) (one (omega (arith, margins_long m b p.readings_fit)) none)

      module _ {x y : Reading} (dx : Reads (balls_brought d) i (reading x.centre x.stray x.margin))
          (by : Reads (balls_brought b) i (reading y.centre y.stray y.margin)) where
        domain_at : ball_of x ≡ get_or (ball_kind.values d) i no_ball
        domain_at = ap (λ (g : Whole). ball g.centre (nat_abs g.margin)) dx.is ∙ sym (value_at m d p.domain_fits i l)

        reading_at : ball_of y ≡ get_or (ball_kind.values b) i no_ball
        reading_at = ap (λ (g : Whole). ball g.centre (nat_abs g.margin)) by.is ∙ sym (value_at m b p.readings_fit i l)

        pub numbers_small : Small x y
        numbers_small =
            record {
              middle_small = omega (arith, ap (λ (g : Whole). nat_abs g.centre) dx.is, centre_low m d p.domain_fits i l);
              stray_small = omega (arith, ap (λ (g : Whole). nat_abs g.margin) dx.is, margin_low m d p.domain_fits i l);
              centre_small = omega (arith, ap (λ (g : Whole). nat_abs g.centre) by.is, centre_low m b p.readings_fit i l);
              margin_small = omega (arith, ap (λ (g : Whole). nat_abs g.margin) by.is, margin_low m b p.readings_fit i l);
            }

        module _ {t : Bool} (told : IsInside x y t) where
          told_at : t ≡ is_inside (get_or (ball_kind.values d) i no_ball) (get_or (ball_kind.values b) i no_ball)
          told_at = told.is ∙ ap₂ is_inside domain_at reading_at

          pub sticks_out : t ≡ false → AllInside d b false
          sticks_out e =
              record {
                is =
                    sym
                    (outside_one (ball_kind.values d) (ball_kind.values b) (sym (values_long m d p.domain_fits)) as_many
                    (record { index = i; among = l; outside = out }));
              }
            where
              out : Inside (get_or (ball_kind.values d) i no_ball) (get_or (ball_kind.values b) i no_ball) → ⊥
              out h = never (sym (le-leb _ _ h.inside) ∙ sym told_at ∙ e)

          pub one_inside : t ≡ true → InsideBefore m d b i → InsideBefore m d b (i + 1)
          one_inside e w = record { some = omega arith; inside = below_more _ _ w.inside (sym told_at ∙ e) }

    pub all_looked_at : {i : ℕ} → InsideBefore m d b i → m ≤ i → AllInside d b true
    all_looked_at {i} w l = record { is = sym (by_test (all_inside (ball_kind.values d) (ball_kind.values b)) refl) }
      where
        by_test : (t : Bool) → all_inside (ball_kind.values d) (ball_kind.values b) ≡ t → all_inside (ball_kind.values d) (ball_kind.values b) ≡ true
        by_test true e = e
        by_test false e =
            let o = one_outside (ball_kind.values d) (ball_kind.values b) as_many e in
            absurd (o.outside (record { inside = leb-true _ _ (w.inside o.index (omega (arith, o.among, values_long m d p.domain_fits))) }))
