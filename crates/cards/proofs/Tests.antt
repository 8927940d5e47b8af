-- The tests of the two jobs, and the words for each: readings, counts, margins that are 0, numbers over M, balls inside a domain, sums. Assumes
-- nothing.
use mathlib.Core.Path.{◌≡◌, refl, sym, ◌∙◌, ap, ap₂, subst}
use mathlib.Core.Bool.{Bool, true, false, cond, ◌&&◌}
use mathlib.Core.List.{List, [], ◌∷◌, map}
use mathlib.Core.Logic.{◌⊎◌, inl, inr}
use Prim.Native.Nat.{ℕ, zero, suc, ◌+◌, ◌≤◌, ◌<◌, max}
use native.Mathlib.Omega.{arith}
use borrow.Author.Tests.{ltb-true, lt-ltb, eqb-true, eqb-false, ne_eqb, leb-true, leb-false, le-leb}
use lib.Dec.{eqb, leb, ltb}
use lib.IntN.{ℤ, pos, negsuc, nat_abs, ◌-ℤ◌}
use lib.ListN.{length, get_or, take}
use Rattle.whole.specs.Limits.{is_below}
use Rattle.whole.proofs.Cases.{never, both, down, no_suc}
use Rattle.lists.specs.Joined.{Rel}
use Rattle.refusals.specs.declared.Refusal.{Refusal}
use Rattle.refusals.specs.declared.Refusal.TheVariants as refusal
use Rattle.refusals.specs.Answer.{value, refused, then}
use Rattle.refusals.specs.Places.{Where, Placed, refused_at, refuse_at}
use Rattle.refusals.proofs.Answers.{no_value, refused_same}
use Rattle.rules.specs.declared.Ball.{Ball}
use Rattle.rules.specs.declared.Matryoshka.{Matryoshka}
use Rattle.rules.specs.Numbers.{M}
use Rattle.rules.specs.Matryoshki.{matryoshka}
use Rattle.rules.specs.Lists.{no_ball, no_matryoshka, static_margins_of}
use Rattle.formulas.specs.Readings.{Brought, judged, readings_tested}
use Rattle.formulas.specs.Kinds.{Kind, tested}
use Rattle.formulas.specs.GivenInRuns.{OneOther, Lowest}
use Rattle.formulas.proofs.Judging.{Judgement, good, negative, too_large, judgement, not_bad, judged_good, good_judged, negative_judged, large_judged}
use Rattle.formulas.proofs.Judging.{RefusedAt, refused_lowest, each_counted, none_other, miscounted, counted_tested, Unfit, other_count, bad_reading}
use Rattle.formulas.proofs.Fitting.{not_let_in}
use Rattle.cards.specs.Slopes.{largest}
use Rattle.cards.specs.Card.{still, Inside}
use Rattle.cards.specs.Making.{unless, all_still, ranges_of}
use Rattle.cards.specs.Using.{is_inside, all_inside, sums_within}
use Rattle.cards.specs.GivenInMaking.{Misread, thirteen, fourteen, fifteen, OneMoves}
use Rattle.cards.specs.GivenInUsing.{InRange, in_range, OverM, OneOutside, FirstOver}

-- ---- a test that passes or is refused

pub unless_passes : (r : Refusal) {t : Bool} → t ≡ true → unless r t ≡ value tt
unless_passes r e = ap (unless r) e

pub unless_refuses : (r : Refusal) {t : Bool} → t ≡ false → unless r t ≡ refuse_at r 0
unless_refuses r e = ap (unless r) e

-- a test that fails is one of two that does
pub one_fails : (t u : Bool) → t && u ≡ false → (t ≡ false) ⊎ (u ≡ false)
one_fails true u e = inr e
one_fails false u e = inl refl

pub first_fails : {t : Bool} (u : Bool) → t ≡ false → t && u ≡ false
first_fails u e = ap (λ (b : Bool). b && u) e

pub second_fails : (t : Bool) {u : Bool} → u ≡ false → t && u ≡ false
second_fails true e = e
second_fails false e = refl

pub both_pass : {t u : Bool} → t ≡ true → u ≡ true → t && u ≡ true
both_pass p q = ap₂ ◌&&◌ p q

-- ---- 13 to 15

module _ (m : ℕ) (b : Brought) where
  bad_at : {n k : ℕ} → (OneOther m b.counts → ⊥) → Lowest m b.reading_at k → judged (b.reading_at k) ≡ refused n
      → readings_tested m b ≡ refused_at n k
  bad_at {n} {k} c low e =
      let there : RefusedAt b.reading_at 0 m (record { number = n; place = k }) =
      record {
        from = omega arith;
        among = omega (arith, low.among);
        good_before = λ j p l. good_judged (b.reading_at j) (low.none_before j l);
        refuses = e;
      } in
      counted_tested m b (each_counted m b.counts c) ∙ refused_lowest b.reading_at 0 m there

  pub misread_tested : {n k : ℕ} → Misread m b n k → readings_tested m b ≡ refused_at n k
  misread_tested (thirteen o) = miscounted m b o
  misread_tested (fourteen c {k} low n) = bad_at c low (negative_judged (b.reading_at k) n)
  misread_tested (fifteen c {k} low n l) = bad_at c low (large_judged (b.reading_at k) n l)

  unfit_misread : {w : Where} → Unfit m b w → Misread m b w.number w.place
  unfit_misread {w} (other_count o p q) = subst (λ (n : ℕ). Misread m b n w.place) (sym p) (subst (Misread m b 13) (sym q) (thirteen o))
  unfit_misread {w} (bad_reading c x) = by_judgement (judgement (b.reading_at w.place))
    where
      low : Lowest m b.reading_at w.place
      low =
          record {
            among = omega (arith, x.among);
            none_before = λ j l. not_bad (judged_good (b.reading_at j) (x.good_before j (omega arith) l));
          }

      by_judgement : Judgement (b.reading_at w.place) (judged (b.reading_at w.place)) → Misread m b w.number w.place
      by_judgement (good f u) = absurd (no_value (sym x.refuses ∙ u))
      by_judgement (negative n u) =
          subst (λ (i : ℕ). Misread m b i w.place) (refused_same (sym u ∙ x.refuses)) (fourteen (none_other m c) low n)
      by_judgement (too_large n l u) =
          subst (λ (i : ℕ). Misread m b i w.place) (refused_same (sym u ∙ x.refuses)) (fifteen (none_other m c) low n l)

-- the same of the readings of a kind
module _ (K : Kind) (m : ℕ) (given : K.Readings) where
  pub readings_misread : {w : Where} → tested K m given ≡ refused w → Misread m (K.brought given) w.number w.place
  readings_misread e = unfit_misread m (K.brought given) (not_let_in K m given e)

  pub misread_readings : {n k : ℕ} → Misread m (K.brought given) n k → tested K m given ≡ refused_at n k
  misread_readings r = ap (λ a. then a (λ x. value (K.values given))) (misread_tested m (K.brought given) r)

-- ---- 3 and 4

pub is_in_range : (most : ℕ) (z : ℤ) → is_below (suc most) z ≡ true → InRange 0 most z
is_in_range most (pos n) e = in_range {n = n} (omega arith) (omega (arith, ltb-true n (suc most) (both (leb 0 n) (ltb n (suc most)) e).1))
is_in_range most (negsuc n) e = never (sym e)

pub range_below : (most : ℕ) {z : ℤ} → InRange 0 most z → is_below (suc most) z ≡ true
range_below most (in_range {n} l h) = both_pass {t = leb 0 n} (le-leb 0 n (omega arith)) (lt-ltb n (suc most) (omega arith))

-- ---- 22

rests_or_moves : (ms : List Matryoshka) → 0 < largest (static_margins_of ms) → OneMoves ms
rests_or_moves [] l = absurd (omega arith)
rests_or_moves (m ∷ ms) l = by_test (eqb m.margin 0) refl (λ k. rests_or_moves ms k)
  where
    by_test : (t : Bool) → eqb m.margin 0 ≡ t → (0 < largest (static_margins_of ms) → OneMoves ms) → OneMoves (m ∷ ms)
    by_test true e rec = inr (rec (omega (arith, eqb-true m.margin 0 e)))
    by_test false e rec = inl (eqb-false m.margin 0 e)

positive : (a b : ℕ) → (a ≡ 0 → ⊥) → 0 < max a b
positive a b d = omega arith

moves_over : (ms : List Matryoshka) → OneMoves ms → 0 < largest (static_margins_of ms)
moves_over [] o = absurd o
moves_over (m ∷ ms) (inl d) = by_test (eqb m.margin 0) refl
  where
    by_test : (t : Bool) → eqb m.margin 0 ≡ t → 0 < largest (static_margins_of (m ∷ ms))
    by_test true e = absurd (d (eqb-true m.margin 0 e))
    by_test false e = positive m.margin (largest (static_margins_of ms)) (eqb-false m.margin 0 e)
moves_over (m ∷ ms) (inr o) = omega (arith, moves_over ms o)

pub moves : (ms : List Matryoshka) → all_still ms ≡ false → OneMoves ms
moves ms e = let d = eqb-false (largest (static_margins_of ms)) 0 e in rests_or_moves ms (omega arith)

pub moves_not_still : (ms : List Matryoshka) → OneMoves ms → all_still ms ≡ false
moves_not_still ms o = ne_eqb (largest (static_margins_of ms)) 0 (λ z. omega (arith, moves_over ms o))

pub rests : (ms : List Matryoshka) → (OneMoves ms → ⊥) → all_still ms ≡ true
rests ms d = by_test (all_still ms) refl
  where
    by_test : (t : Bool) → all_still ms ≡ t → all_still ms ≡ true
    by_test true e = e
    by_test false e = absurd (d (moves ms e))

pub still_rests : (ms : List Matryoshka) → all_still ms ≡ true → OneMoves ms → ⊥
still_rests ms e o = never (sym e ∙ moves_not_still ms o)

-- by index, as code tests them
pub moves_at : (ms : List Matryoshka) (i : ℕ) → i < length ms → ((get_or ms i no_matryoshka).margin ≡ 0 → ⊥) → OneMoves ms
moves_at [] i l d = absurd (omega arith)
moves_at (m ∷ ms) zero l d = inl d
moves_at (m ∷ ms) (suc i) l d = inr (moves_at ms i (omega arith) d)

pub rests_at : (ms : List Matryoshka) → ((i : ℕ) → i < length ms → (get_or ms i no_matryoshka).margin ≡ 0) → OneMoves ms → ⊥
rests_at [] h o = o
rests_at (m ∷ ms) h (inl d) = d (h 0 (omega arith))
rests_at (m ∷ ms) h (inr o) = rests_at ms (λ i l. h (suc i) (omega arith)) o

-- a domain with all margins 0 is the one of its middles and strays
pub still_domain : (ms : List Matryoshka) → (OneMoves ms → ⊥) → map still (ranges_of ms) ≡ ms
still_domain [] d = refl
still_domain (m ∷ ms) d = ap₂ ◌∷◌ (same (eqb m.margin 0) refl) (still_domain ms (λ o. d (inr o)))
  where
    same : (t : Bool) → eqb m.margin 0 ≡ t → matryoshka m.middle m.stray 0 ≡ m
    same true e = ap (matryoshka m.middle m.stray) (sym (eqb-true m.margin 0 e))
    same false e = absurd (d (inl (eqb-false m.margin 0 e)))

-- ---- 20

-- one of the first n numbers is over M exactly where the largest of them is
pub over_m : (n : ℕ) (l : List ℕ) → M < largest (take n l) → OverM n l
over_m zero l h = absurd (omega arith)
over_m (suc n) [] h = absurd (omega arith)
over_m (suc n) (a ∷ l) h = by_test (leb a M) refl (λ k. over_m n l k)
  where
    by_test : (t : Bool) → leb a M ≡ t → (M < largest (take n l) → OverM n l) → OverM (suc n) (a ∷ l)
    by_test true e rec =
        let r = rec (omega (arith, leb-true a M e)) in
        record { index = suc r.index; among = omega (arith, r.among); over = r.over }
    by_test false e rec = record { index = 0; among = omega arith; over = leb-false a M e }

pub m_over : (n : ℕ) (l : List ℕ) → OverM n l → M < largest (take n l)
m_over n l o = at n l o.index o.among o.over
  where
    at : (n : ℕ) (l : List ℕ) (i : ℕ) → i < n → M < get_or l i 0 → M < largest (take n l)
    at zero l i p q = absurd (omega arith)
    at (suc n) [] i p q = absurd (omega arith)
    at (suc n) (a ∷ l) zero p q = omega arith
    at (suc n) (a ∷ l) (suc i) p q = omega (arith, at n l i (omega arith) q)

-- balls inside a domain
pub inside_all : (ds bs : List Ball) → length ds ≡ length bs → all_inside ds bs ≡ true → Rel Inside ds bs
inside_all [] [] l e = Rel.none
inside_all [] (b ∷ bs) l e = absurd (no_suc l)
inside_all (d ∷ ds) [] l e = absurd (no_suc (sym l))
inside_all (d ∷ ds) (b ∷ bs) l e =
    let t = both (is_inside d b) (all_inside ds bs) e in
    Rel.one (record { inside = leb-true (nat_abs (b.centre -ℤ d.centre) + b.margin) d.margin t.0 }) (inside_all ds bs (down l) t.1)

pub one_outside : (ds bs : List Ball) → length ds ≡ length bs → all_inside ds bs ≡ false → OneOutside (length ds) ds bs
one_outside [] bs l e = never e
one_outside (d ∷ ds) [] l e = absurd (no_suc (sym l))
one_outside (d ∷ ds) (b ∷ bs) l e = by_test (is_inside d b) refl e (λ k. one_outside ds bs (down l) k)
  where
    by_test : (t : Bool) → is_inside d b ≡ t → t && all_inside ds bs ≡ false → (all_inside ds bs ≡ false → OneOutside (length ds) ds bs)
        → OneOutside (suc (length ds)) (d ∷ ds) (b ∷ bs)
    by_test true u e rec =
        let r = rec e in
        record { index = suc r.index; among = omega (arith, r.among); outside = r.outside }
    by_test false u e rec =
        record {
          index = 0;
          among = omega arith;
          outside = λ i. omega (arith, leb-false (nat_abs (b.centre -ℤ d.centre) + b.margin) d.margin u, i.inside);
        }

pub outside_one : (ds bs : List Ball) {m : ℕ} → m ≡ length ds → length ds ≡ length bs → OneOutside m ds bs → all_inside ds bs ≡ false
outside_one ds bs {m} e l o = at ds bs l o.index (omega (arith, o.among)) o.outside
  where
    at : (ds bs : List Ball) → length ds ≡ length bs → (i : ℕ) → i < length ds → (Inside (get_or ds i no_ball) (get_or bs i no_ball) → ⊥)
        → all_inside ds bs ≡ false
    at [] bs l i p q = absurd (omega arith)
    at (d ∷ ds) [] l i p q = absurd (no_suc (sym l))
    at (d ∷ ds) (b ∷ bs) l zero p q = first_fails (all_inside ds bs) (by_test (is_inside d b) refl)
      where
        by_test : (t : Bool) → is_inside d b ≡ t → is_inside d b ≡ false
        by_test true u = absurd (q (record { inside = leb-true (nat_abs (b.centre -ℤ d.centre) + b.margin) d.margin u }))
        by_test false u = u
    at (d ∷ ds) (b ∷ bs) l (suc i) p q = second_fails (is_inside d b) (at ds bs (down l) i (omega arith) q)

-- ---- 11 of a use

pub data SumsCase (sums : List ℕ) (a : Placed (Unit {0})) (j : ℕ) : Type 0 where
  sums_low : ((k : ℕ) → FirstOver sums k → ⊥) → a ≡ value tt → SumsCase sums a j
  sum_over : {k : ℕ} → FirstOver sums k → a ≡ refused_at 11 (j + k) → SumsCase sums a j

pub sums_case : (j : ℕ) (sums : List ℕ) → SumsCase sums (sums_within j sums) j
sums_case j [] = sums_low (λ k f. omega (arith, f.among)) refl
sums_case j (x ∷ xs) = by_test (leb x M) refl (sums_case (j + 1) xs)
  where
    by_test : (t : Bool) → leb x M ≡ t → SumsCase xs (sums_within (j + 1) xs) (j + 1)
        → SumsCase (x ∷ xs) (cond t (sums_within (j + 1) xs) (refuse_at refusal.OutOfReach j)) j
    by_test true e (sums_low d u) = sums_low later u
      where
        later : (k : ℕ) → FirstOver (x ∷ xs) k → ⊥
        later zero f = omega (arith, leb-true x M e, f.over)
        later (suc k) f = d k (record { among = omega (arith, f.among); over = f.over; none_before = λ i l. f.none_before (suc i) (omega arith) })
    by_test true e (sum_over {k} f u) = sum_over {k = suc k} there (u ∙ ap (refused_at 11) (omega arith))
      where
        before : (i : ℕ) → i < suc k → get_or (x ∷ xs) i 0 ≤ M
        before zero l = leb-true x M e
        before (suc i) l = f.none_before i (omega arith)

        there : FirstOver (x ∷ xs) (suc k)
        there = record { among = omega (arith, f.among); over = f.over; none_before = before }
    by_test false e c =
        sum_over {k = 0} (record { among = omega arith; over = leb-false x M e; none_before = λ i l. absurd (omega arith) })
        (ap (refused_at 11) (omega arith))

-- only one output is the first
pub one_first : {sums : List ℕ} {j k : ℕ} → FirstOver sums j → FirstOver sums k → j ≡ k
one_first {sums} {j} {k} a b = by_test (leb j k) refl (leb k j) refl
  where
    by_test : (t : Bool) → leb j k ≡ t → (u : Bool) → leb k j ≡ u → j ≡ k
    by_test true e true f = omega (arith, leb-true j k e, leb-true k j f)
    by_test true e false f = absurd (omega (arith, a.over, b.none_before j (leb-false k j f)))
    by_test false e u f = absurd (omega (arith, b.over, a.none_before k (leb-false j k e)))
