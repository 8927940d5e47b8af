-- The search by halves: what is below is admitted, what is above is refused, and nine admissions bring the two together. Assumes nothing.
use mathlib.Core.Path.{◌≡◌, refl, sym, ◌∙◌, ap, subst}
use Prim.Native.Nat.{ℕ, zero, suc, ◌+◌, ◌-◌, ◌*◌, ◌^◌, ◌≤◌, ◌<◌}
use native.Mathlib.Nat.{pow-suc}
use native.Mathlib.Omega.{arith}
use Rattle.std.specs.declared.option.Option.{Option}
use Rattle.std.specs.declared.option.Option.TheVariants.{None, Some}
use Rattle.refusals.specs.declared.Refused.{Refused}
use Rattle.refusals.specs.Answer.{value, refused}
use Rattle.refusals.specs.Places.{Placed}
use Rattle.explaining.specs.Explaining.{where_met, HalfWay, Refuses, none_refused, refused_there}

-- the next part that is tried, with few parts left on either side of it
pub record Next (low high t admissions : ℕ) : Type 0 where
  pub from : low ≤ t
  pub below : t < high
  pub left : admissions ≤ 8
  pub few_under : t - low < 2 ^ (8 - admissions)
  pub few_over : high - suc t < 2 ^ (8 - admissions)

-- each part below `low` is admitted, `high` is refused or past them all
pub record Halving (admitted : ℕ → Placed (Unit {0})) (low high t : ℕ) (met : Option Refused) (admissions : ℕ) : Type 0 where
  pub refuses : Refuses admitted high met
  pub before : (k : ℕ) → low ≡ suc k → admitted k ≡ value tt
  pub ordered : low ≤ high
  pub most : high ≤ 257
  pub few : admissions ≤ 9
  pub next : low < high → Next low high t admissions

-- half as many are left as before
halved : {low high t : ℕ} (a : ℕ) → a ≤ 8 → high - low < 2 ^ (8 - a) → low < high → HalfWay low high t → Next low high t (a + 1)
halved {low} {high} {t} a l few more way =
    record {
      from = way.from;
      below = way.below more;
      left = seven;
      few_under = omega (arith, few, width, way.few_under);
      few_over = omega (arith, few, width, way.few_over);
    }
  where
    by_left : (n : ℕ) → 8 - a ≡ n → high - low < 2 ^ n → a + 1 ≤ 8
    by_left zero e k = absurd (omega arith)
    by_left (suc n) e k = omega arith

    seven : a + 1 ≤ 8
    seven = by_left (8 - a) refl few

    width : 2 ^ (8 - a) ≡ 2 ^ (8 - (a + 1)) * 2
    width = ap (λ (n : ℕ). 2 ^ n) (omega (arith, seven)) ∙ pow-suc 2 (8 - (a + 1))

module _ {admitted : ℕ → Placed (Unit {0})} where
  pub halving_start : Halving admitted 0 257 255 None 0
  halving_start =
      record {
        refuses = none_refused;
        before = λ k e. absurd (omega arith);
        ordered = omega arith;
        most = omega arith;
        few = omega arith;
        next = λ l. record { from = omega arith; below = omega arith; left = omega arith; few_under = omega arith; few_over = omega arith };
      }

  module _ {low high t a : ℕ} {met : Option Refused} (h : Halving admitted low high t met a) (more : low < high) where
    pub halving_passed : {u : ℕ} → value tt ≡ admitted t → HalfWay (t + 1) high u → Halving admitted (t + 1) high u met (a + 1)
    halving_passed p e =
        let n = h.next more in
        record {
          refuses = h.refuses;
          before = λ k e. subst (λ (j : ℕ). admitted j ≡ value tt) (omega arith) (sym p);
          ordered = omega (arith, n.below);
          most = h.most;
          few = omega (arith, n.left);
          next = λ l. halved a n.left (omega (arith, n.few_over)) l e;
        }

    pub halving_refused : {u : ℕ} {e : Refused} → refused (where_met e) ≡ admitted t → HalfWay low t u
        → Halving admitted low t u (Some e) (a + 1)
    halving_refused {e = e} r way =
        let n = h.next more in
        record {
          refuses = refused_there {t = t} {e = e} (omega (arith, n.below, h.most)) (sym r);
          before = h.before;
          ordered = n.from;
          most = omega (arith, n.below, h.most);
          few = omega (arith, n.left);
          next = λ l. halved a n.left n.few_under l way;
        }
