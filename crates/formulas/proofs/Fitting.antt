-- Readings that passed their tests: as many as the inputs, each a value of its kind. Assumes nothing.
use mathlib.Core.Path.{◌≡◌, sym, ◌∙◌, ap}
use mathlib.Core.List.{List, [], ◌∷◌, map}
use Prim.Native.Nat.{ℕ, suc, ◌<◌}
use native.Mathlib.Omega.{arith}
use lib.IntN.{ℤ, nat_abs}
use lib.ListN.{length, length-map}
use Rattle.lists.specs.All.{All, none, one}
use Rattle.refusals.specs.Answer.{Answer, value, refused, then}
use Rattle.refusals.specs.Places.{Where, Placed}
use Rattle.refusals.proofs.Answers.{no_value, same_value, refused_same, first_of, then_value}
use Rattle.rules.specs.Values.{Allowed, IsBall, IsMatryoshka}
use Rattle.rules.specs.Balls.{ball}
use Rattle.rules.specs.Lists.{balls, matryoshki}
use Rattle.rules.proofs.Lists.{balls_long, matryoshki_long}
use Rattle.formulas.specs.Readings.{BallReadings, Domain, ball_readings, domain, plain_brought, balls_brought, domain_brought, readings_tested}
use Rattle.formulas.specs.Kinds.{Kind, tested}
use Rattle.formulas.proofs.Judging.{Good, Judgement, good, negative, too_large, judgement, Fit, tested_fit, fit_tested, Unfit, other_count, bad_reading, unfit}

-- readings that were let in passed their test, and the other way round
module _ (K : Kind) (m : ℕ) (given : K.Readings) where
  pub let_in : {vs : List K.Value} → tested K m given ≡ value vs → Fit m (K.brought given) × (K.values given ≡ vs)
  let_in e =
      let b = first_of (readings_tested m (K.brought given)) (λ x. value (K.values given)) e in
      (tested_fit m (K.brought given) b.was, same_value b.then_was)

  pub let_through : Fit m (K.brought given) → tested K m given ≡ value (K.values given)
  let_through f = then_value (λ x. value (K.values given)) (fit_tested m (K.brought given) f)

  pub not_let_in : {w : Where} → tested K m given ≡ refused w → Unfit m (K.brought given) w
  not_let_in {w} e = unfit m (K.brought given) (by_test (readings_tested m (K.brought given)) e)
    where
      by_test : (a : Placed (Unit {0})) → then a (λ x. value (K.values given)) ≡ refused w → a ≡ refused w
      by_test (value x) e = absurd (no_value (sym e))
      by_test (refused v) e = ap refused (refused_same e)

  -- by 13, 14 or 15
  pub record ByReadings (n : ℕ) : Type 0 where
    pub from_13 : 12 < n
    pub to_15 : n < 16

  pub not_let_in_number : {w : Where} → tested K m given ≡ refused w → ByReadings w.number
  not_let_in_number {w} e = by_why (not_let_in e)
    where
      by_judgement : {a : Answer (Unit {0})} → Judgement ((K.brought given).reading_at w.place) a → a ≡ refused w.number → ByReadings w.number
      by_judgement (good f u) r = absurd (no_value (sym (sym u ∙ r)))
      by_judgement (negative n u) r = let is = refused_same (sym u ∙ r) in record { from_13 = omega arith; to_15 = omega arith }
      by_judgement (too_large s l u) r = let is = refused_same (sym u ∙ r) in record { from_13 = omega arith; to_15 = omega arith }

      by_why : Unfit m (K.brought given) w → ByReadings w.number
      by_why (other_count o n p) = record { from_13 = omega arith; to_15 = omega arith }
      by_why (bad_reading c r) = by_judgement (judgement ((K.brought given).reading_at w.place)) r.refuses

-- what the tests of each kind say
pub record PlainFit (m : ℕ) (xs : List ℤ) : Type 0 where
  pub many : length xs ≡ m
  pub legal : All Allowed xs

plain_all : (xs : List ℤ) → ((j : ℕ) → j < length xs → Good ((plain_brought xs).reading_at j)) → All Allowed xs
plain_all [] f = none
plain_all (x ∷ xs) f = one {a = x} (omega (arith, (f 0 (omega arith)).reach)) (plain_all xs (λ j l. f (suc j) (omega arith)))

pub plain_fit : {m : ℕ} (xs : List ℤ) → Fit m (plain_brought xs) → PlainFit m xs
plain_fit {m} xs f = by_count f.counted
  where
    by_count : All (λ n. n ≡ m) (length xs ∷ []) → PlainFit m xs
    by_count (one e none) = record { many = e; legal = plain_all xs (λ j l. f.each_good j (omega arith)) }

balls_all : (cs rs : List ℤ) → ((j : ℕ) → j < length cs → Good ((balls_brought (ball_readings cs rs)).reading_at j))
    → All IsBall (balls cs (map nat_abs rs))
balls_all [] rs f = none
balls_all (c ∷ cs) [] f = none
balls_all (c ∷ cs) (r ∷ rs) f =
    one {a = ball c (nat_abs r)} (omega (arith, (f 0 (omega arith)).reach)) (balls_all cs rs (λ j l. f (suc j) (omega arith)))

pub record BallFit (m : ℕ) (g : BallReadings) : Type 0 where
  pub centres_many : length g.centres ≡ m
  pub margins_many : length g.margins ≡ m
  pub legal : All IsBall (balls g.centres (map nat_abs g.margins))

pub ball_fit : {m : ℕ} (g : BallReadings) → Fit m (balls_brought g) → BallFit m g
ball_fit {m} g f = by_count f.counted
  where
    by_count : All (λ n. n ≡ m) (length g.centres ∷ length g.margins ∷ []) → BallFit m g
    by_count (one p (one q none)) =
        record {
          centres_many = p;
          margins_many = q;
          legal = balls_all g.centres g.margins (λ j l. f.each_good j (omega arith));
        }

module _ {m : ℕ} {g : BallReadings} (f : BallFit m g) where
  sizes_many : length (map nat_abs g.margins) ≡ m
  sizes_many = length-map g.margins nat_abs ∙ f.margins_many

  pub balls_even : length g.centres ≡ length (map nat_abs g.margins)
  balls_even = f.centres_many ∙ sym sizes_many

  pub ball_many : length (balls g.centres (map nat_abs g.margins)) ≡ m
  ball_many = balls_long g.centres (map nat_abs g.margins) balls_even ∙ f.centres_many

matryoshki_all : (cs ss rs : List ℤ) → ((j : ℕ) → j < length cs → Good ((domain_brought (domain cs ss rs)).reading_at j))
    → All IsMatryoshka (matryoshki cs (map nat_abs ss) (map nat_abs rs))
matryoshki_all [] ss rs f = none
matryoshki_all (c ∷ cs) [] rs f = none
matryoshki_all (c ∷ cs) (s ∷ ss) [] f = none
matryoshki_all (c ∷ cs) (s ∷ ss) (r ∷ rs) f =
    one (f 0 (omega arith)).reach (matryoshki_all cs ss rs (λ j l. f (suc j) (omega arith)))

pub record DomainFit (m : ℕ) (g : Domain) : Type 0 where
  pub middles_many : length g.middles ≡ m
  pub strays_many : length g.strays ≡ m
  pub margins_many : length g.margins ≡ m
  pub legal : All IsMatryoshka (matryoshki g.middles (map nat_abs g.strays) (map nat_abs g.margins))

pub domain_fit : {m : ℕ} (g : Domain) → Fit m (domain_brought g) → DomainFit m g
domain_fit {m} g f = by_count f.counted
  where
    by_count : All (λ n. n ≡ m) (length g.middles ∷ length g.strays ∷ length g.margins ∷ []) → DomainFit m g
    by_count (one p (one q (one r none))) =
        record {
          middles_many = p;
          strays_many = q;
          margins_many = r;
          legal = matryoshki_all g.middles g.strays g.margins (λ j l. f.each_good j (omega arith));
        }

module _ {m : ℕ} {g : Domain} (f : DomainFit m g) where
  pub strays_even : length g.middles ≡ length (map nat_abs g.strays)
  strays_even = f.middles_many ∙ sym (length-map g.strays nat_abs ∙ f.strays_many)

  pub margins_even : length g.middles ≡ length (map nat_abs g.margins)
  margins_even = f.middles_many ∙ sym (length-map g.margins nat_abs ∙ f.margins_many)

  pub domain_many : length (matryoshki g.middles (map nat_abs g.strays) (map nat_abs g.margins)) ≡ m
  domain_many = matryoshki_long g.middles (map nat_abs g.strays) (map nat_abs g.margins) strays_even margins_even ∙ f.middles_many
