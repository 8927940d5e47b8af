-- A reading is judged by its signs, then its reach; of several the lowest bad one is told. Assumes nothing.
use mathlib.Core.Path.{◌≡◌, refl, sym, ◌∙◌, ap, ap₂}
use mathlib.Core.Bool.{Bool, true, false, ◌&&◌, cond}
use mathlib.Core.List.{List, [], ◌∷◌}
use mathlib.Core.Logic.{inl, inr}
use Prim.Native.Nat.{ℕ, zero, suc, ◌+◌, ◌≤◌, ◌<◌}
use native.Mathlib.Omega.{arith}
use borrow.Author.Tests.{leb-true, leb-false, eqb-true, eqb-false, eq-eqb, ne_eqb}
use lib.Dec.{eqb, leb}
use lib.IntN.{ℤ, pos, negsuc}
use lib.Signed.{non_neg}
use Rattle.whole.proofs.Cases.{both}
use Rattle.lists.specs.All.{All, none, one}
use Rattle.refusals.specs.declared.Refusal.TheVariants as refusal
use Rattle.refusals.specs.Answer.{Answer, value, refused, refuse, then}
use Rattle.refusals.specs.Places.{Where, Placed, refused_at, at_place, refuse_at}
use Rattle.refusals.proofs.Answers.{no_value, refused_same, first_of, then_value, placed_value}
use Rattle.rules.specs.Numbers.{M}
use Rattle.formulas.specs.Readings.{Reading, reading_reach, judged, lowest, Brought, each_counts, readings_tested}
use Rattle.formulas.specs.GivenInRuns.{OneOther, BelowZero, Negative, TooLarge, Bad}

-- ---- one reading

-- no stray or margin is negative, and the reach is at most M
pub record Good (g : Reading) : Type 0 where
  pub signs : Negative g → ⊥
  pub reach : reading_reach g ≤ M

pub data Judgement (g : Reading) (a : Answer (Unit {0})) : Type 0 where
  good : Good g → a ≡ value tt → Judgement g a
  negative : Negative g → a ≡ refuse refusal.NegativeMargin → Judgement g a
  too_large : (Negative g → ⊥) → TooLarge g → a ≡ refuse refusal.ReadingTooLarge → Judgement g a

below : (z : ℤ) → non_neg z ≡ false → BelowZero z
below (pos n) e = absurd (let z : ◌≡◌ {A = ℕ} 0 1 = cc in omega arith)
below (negsuc n) e = tt

pub not_below : (z : ℤ) → non_neg z ≡ true → BelowZero z → ⊥
not_below (pos n) e b = b
not_below (negsuc n) e b = let z : ◌≡◌ {A = ℕ} 0 1 = cc in omega arith

pub judgement : (g : Reading) → Judgement g (judged g)
unfolding judged
judgement g = by_signs (non_neg g.stray) refl (non_neg g.margin) refl
  where
    of_reach : (Negative g → ⊥) → (t : Bool) → leb (reading_reach g) M ≡ t → Judgement g (cond t (value tt) (refuse refusal.ReadingTooLarge))
    of_reach s true e = good (record { signs = s; reach = leb-true (reading_reach g) M e }) refl
    of_reach s false e = too_large s (leb-false (reading_reach g) M e) refl

    neither : (BelowZero g.stray → ⊥) → (BelowZero g.margin → ⊥) → Negative g → ⊥
    neither p q (inl b) = p b
    neither p q (inr b) = q b

    by_signs : (t : Bool) → non_neg g.stray ≡ t → (u : Bool) → non_neg g.margin ≡ u
        → Judgement g (cond (t && u) (cond (leb (reading_reach g) M) (value tt) (refuse refusal.ReadingTooLarge)) (refuse refusal.NegativeMargin))
    by_signs true e true f = of_reach (neither (not_below g.stray e) (not_below g.margin f)) (leb (reading_reach g) M) refl
    by_signs true e false f = negative (inr (below g.margin f)) refl
    by_signs false e u f = negative (inl (below g.stray e)) refl

pub not_bad : {g : Reading} → Good g → Bad g → ⊥
not_bad f (inl n) = f.signs n
not_bad f (inr l) = omega (arith, f.reach)

pub judged_good : (g : Reading) → judged g ≡ value tt → Good g
judged_good g e = by_case (judgement g)
  where
    by_case : Judgement g (judged g) → Good g
    by_case (good f u) = f
    by_case (negative n u) = absurd (no_value (sym u ∙ e))
    by_case (too_large s l u) = absurd (no_value (sym u ∙ e))

pub good_judged : (g : Reading) → (Bad g → ⊥) → judged g ≡ value tt
good_judged g d = by_case (judgement g)
  where
    by_case : Judgement g (judged g) → judged g ≡ value tt
    by_case (good f u) = u
    by_case (negative n u) = absurd (d (inl n))
    by_case (too_large s l u) = absurd (d (inr l))

pub negative_judged : (g : Reading) → Negative g → judged g ≡ refuse refusal.NegativeMargin
negative_judged g n = by_case (judgement g)
  where
    by_case : Judgement g (judged g) → judged g ≡ refuse refusal.NegativeMargin
    by_case (good f u) = absurd (f.signs n)
    by_case (negative m u) = u
    by_case (too_large s l u) = absurd (s n)

pub large_judged : (g : Reading) → (Negative g → ⊥) → TooLarge g → judged g ≡ refuse refusal.ReadingTooLarge
large_judged g d l = by_case (judgement g)
  where
    by_case : Judgement g (judged g) → judged g ≡ refuse refusal.ReadingTooLarge
    by_case (good f u) = absurd (not_bad f (inr l))
    by_case (negative m u) = absurd (d m)
    by_case (too_large s k u) = u

-- ---- the lowest bad one, from reading i on

module _ (g : ℕ → Reading) where
  -- the readings from i up to k are good
  abbrev GoodFrom : ℕ → ℕ → Type 0
  GoodFrom i k = (j : ℕ) → i ≤ j → j < k → judged (g j) ≡ value tt

  one_more : {i k : ℕ} → judged (g i) ≡ value tt → GoodFrom (i + 1) k → GoodFrom i k
  one_more {i} e f j p q = by_test (eqb j i) refl
    where
      by_test : (t : Bool) → eqb j i ≡ t → judged (g j) ≡ value tt
      by_test true u = ap (λ (n : ℕ). judged (g n)) (eqb-true j i u) ∙ e
      by_test false u = let d = eqb-false j i u in f j (omega arith) q

  pub lowest_good : (i n : ℕ) → lowest g i n ≡ value tt → GoodFrom i (i + n)
  lowest_good i zero e = λ j p q. absurd (omega arith)
  lowest_good i (suc n) e =
      let b = first_of (at_place i (judged (g i))) (λ x. lowest g (i + 1) n) e in
      one_more {k = i + suc n} (placed_value i (judged (g i)) b.was) (λ j p q. lowest_good (i + 1) n b.then_was j p (omega arith))

  pub good_lowest : (i n : ℕ) → GoodFrom i (i + n) → lowest g i n ≡ value tt
  good_lowest i zero f = refl
  good_lowest i (suc n) f =
      then_value (λ x. lowest g (i + 1) n) (ap (at_place i) (f i (omega arith) (omega arith)))
      ∙ good_lowest (i + 1) n (λ j p q. f j (omega arith) (omega arith))

  -- reading k is the first that is refused
  pub record RefusedAt (i n : ℕ) (w : Where) : Type 0 where
    pub from : i ≤ w.place
    pub among : w.place < i + n
    pub good_before : GoodFrom i w.place
    pub refuses : judged (g w.place) ≡ refused w.number

  pub lowest_refused : (i n : ℕ) {w : Where} → lowest g i n ≡ refused w → RefusedAt i n w
  lowest_refused i zero e = absurd (no_value (sym e))
  lowest_refused i (suc n) {w} e = by_case (judged (g i)) refl e (λ u. lowest_refused (i + 1) n u)
    where
      by_case : (a : Answer (Unit {0})) → judged (g i) ≡ a → then (at_place i a) (λ x. lowest g (i + 1) n) ≡ refused w
          → (lowest g (i + 1) n ≡ refused w → RefusedAt (i + 1) n w) → RefusedAt i (suc n) w
      by_case (value x) u e rec =
          let r = rec e in
          let k = w.place in
          record {
            from = omega (arith, r.from);
            among = omega (arith, r.among);
            good_before = one_more {k = k} (u ∙ ap value refl) r.good_before;
            refuses = r.refuses;
          }
      by_case (refused m) u e rec =
          let same = refused_same e in
          let here : i ≡ w.place = ap (λ (v : Where). v.place) same in
          record {
            from = omega arith;
            among = omega arith;
            good_before = λ j p q. absurd (omega arith);
            refuses = ap (λ (j : ℕ). judged (g j)) (sym here) ∙ u ∙ ap (λ (v : Where). refused v.number) same;
          }

  pub refused_lowest : (i n : ℕ) {w : Where} → RefusedAt i n w → lowest g i n ≡ refused w
  refused_lowest i zero r = absurd (omega (arith, r.from, r.among))
  refused_lowest i (suc n) {w} r = by_test (eqb w.place i) refl (λ q. refused_lowest (i + 1) n q)
    where
      by_test : (t : Bool) → eqb w.place i ≡ t → (RefusedAt (i + 1) n w → lowest g (i + 1) n ≡ refused w)
          → lowest g i (suc n) ≡ refused w
      by_test true u rec =
          let here = eqb-true w.place i u in
          ap (λ a. then (at_place i a) (λ x. lowest g (i + 1) n)) (ap (λ (j : ℕ). judged (g j)) (sym here) ∙ r.refuses)
          ∙ ap (λ (k : ℕ). refused_at w.number k) (sym here)
      by_test false u rec =
          let d = eqb-false w.place i u in
          then_value (λ x. lowest g (i + 1) n) (ap (at_place i) (r.good_before i (omega arith) (omega (arith, r.from))))
          ∙ rec
          (record {
            from = omega (arith, r.from);
            among = omega (arith, r.among);
            good_before = λ j p q. r.good_before j (omega arith) q;
            refuses = r.refuses;
          })

-- ---- all that a caller brings

pub counts_agree : (m : ℕ) (ns : List ℕ) → each_counts m ns ≡ true → All (λ n. n ≡ m) ns
counts_agree m [] e = none
counts_agree m (n ∷ ns) e = let b = both (eqb n m) (each_counts m ns) e in one (eqb-true n m b.0) (counts_agree m ns b.1)

pub counts_differ : (m : ℕ) (ns : List ℕ) → each_counts m ns ≡ false → OneOther m ns
counts_differ m [] e = absurd (let z : ◌≡◌ {A = ℕ} 0 1 = cc in omega arith)
counts_differ m (n ∷ ns) e = by_test (eqb n m) refl e (λ u. counts_differ m ns u)
  where
    by_test : (t : Bool) → eqb n m ≡ t → t && each_counts m ns ≡ false → (each_counts m ns ≡ false → OneOther m ns) → OneOther m (n ∷ ns)
    by_test true u e rec = inr (rec e)
    by_test false u e rec = inl (eqb-false n m u)

agree_counts : (m : ℕ) {ns : List ℕ} → All (λ n. n ≡ m) ns → each_counts m ns ≡ true
agree_counts m none = refl
agree_counts m (one {a = n} e a) = ap₂ ◌&&◌ (eq-eqb n m e) (agree_counts m a)

differ_counts : (m : ℕ) (ns : List ℕ) → OneOther m ns → each_counts m ns ≡ false
differ_counts m [] o = absurd o
differ_counts m (n ∷ ns) (inl d) = ap (λ (t : Bool). t && each_counts m ns) (ne_eqb n m d)
differ_counts m (n ∷ ns) (inr o) = ap (λ (t : Bool). eqb n m && t) (differ_counts m ns o) ∙ by_test (eqb n m)
  where
    by_test : (t : Bool) → t && false ≡ false
    by_test true = refl
    by_test false = refl

pub each_counted : (m : ℕ) (ns : List ℕ) → (OneOther m ns → ⊥) → All (λ n. n ≡ m) ns
each_counted m [] d = none
each_counted m (n ∷ ns) d = by_test (eqb n m) refl (each_counted m ns (λ o. d (inr o)))
  where
    by_test : (t : Bool) → eqb n m ≡ t → All (λ n. n ≡ m) ns → All (λ n. n ≡ m) (n ∷ ns)
    by_test true u a = one (eqb-true n m u) a
    by_test false u a = absurd (d (inl (eqb-false n m u)))

pub none_other : (m : ℕ) {ns : List ℕ} → All (λ n. n ≡ m) ns → OneOther m ns → ⊥
none_other m none o = o
none_other m (one e a) (inl d) = d e
none_other m (one e a) (inr o) = none_other m a o

-- as many readings in each list as were asked for, and each good
pub record Fit (m : ℕ) (b : Brought) : Type 0 where
  pub counted : All (λ n. n ≡ m) b.counts
  pub each_good : (j : ℕ) → j < m → Good (b.reading_at j)

module _ (m : ℕ) (b : Brought) where
  abbrev by_count : Bool → Placed (Unit {0})
  by_count t = cond t (lowest b.reading_at 0 m) (refuse_at refusal.ReadingCount 0)

  pub miscounted : OneOther m b.counts → readings_tested m b ≡ refuse_at refusal.ReadingCount 0
  unfolding readings_tested
  miscounted o = ap by_count (differ_counts m b.counts o)

  pub counted_tested : All (λ n. n ≡ m) b.counts → readings_tested m b ≡ lowest b.reading_at 0 m
  unfolding readings_tested
  counted_tested a = ap by_count (agree_counts m a)

  pub tested_fit : readings_tested m b ≡ value tt → Fit m b
  unfolding readings_tested
  tested_fit e = by_test (each_counts m b.counts) refl e
    where
      by_test : (t : Bool) → each_counts m b.counts ≡ t → by_count t ≡ value tt → Fit m b
      by_test true u e =
          record {
            counted = counts_agree m b.counts u;
            each_good = λ j l. judged_good (b.reading_at j) (lowest_good b.reading_at 0 m e j (omega arith) (omega arith));
          }
      by_test false u e = absurd (no_value e)

  pub fit_tested : Fit m b → readings_tested m b ≡ value tt
  fit_tested f =
      counted_tested f.counted
      ∙ good_lowest b.reading_at 0 m (λ j p q. good_judged (b.reading_at j) (not_bad (f.each_good j (omega arith))))

  -- why readings are refused: their number, or the first that is refused
  pub data Unfit (w : Where) : Type 0 where
    other_count : OneOther m b.counts → w.number ≡ 13 → w.place ≡ 0 → Unfit w
    bad_reading : All (λ n. n ≡ m) b.counts → RefusedAt b.reading_at 0 m w → Unfit w

  pub unfit : {w : Where} → readings_tested m b ≡ refused w → Unfit w
  unfolding readings_tested
  unfit {w} e = by_test (each_counts m b.counts) refl e
    where
      by_test : (t : Bool) → each_counts m b.counts ≡ t → by_count t ≡ refused w → Unfit w
      by_test true u e = bad_reading (counts_agree m b.counts u) (lowest_refused b.reading_at 0 m e)
      by_test false u e =
          let same = sym (refused_same e) in
          other_count (counts_differ m b.counts u) (ap (λ (v : Where). v.number) same) (ap (λ (v : Where). v.place) same)
