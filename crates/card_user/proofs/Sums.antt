-- The sum of one output, input by input, and the sums of all outputs, in the code's shape. Assumes nothing.
use mathlib.Core.Path.{◌≡◌, refl, sym, ◌∙◌, ap, ap₂, subst}
use mathlib.Core.Bool.{Bool, true, false, cond}
use mathlib.Core.List.{List, map}
use Prim.Native.Nat.{ℕ, suc, ◌+◌, ◌*◌, ◌≤◌, ◌<◌}
use native.Mathlib.Nat.{suc-mul, mul-le-mul, le_refl}
use native.Mathlib.Numerals.{add-one}
use native.Mathlib.Omega.{arith}
use borrow.Author.Count.{below_more}
use borrow.Author.Tests.{leb-true, leb-false, lt-leb}
use lib.Dec.{leb}
use lib.IntN.{ℤ, pos, nat_abs}
use lib.ListN.{length, get_or, take, drop, set, length-map, length-drop, get_or-map}
use lib.Seq.{get_or-take, get_or-drop, length-take-le}
use Rattle.std.specs.declared.option.Option.{Option}
use Rattle.std.specs.declared.option.Option.TheVariants.{None, Some}
use Rattle.std.specs.declared.result.Result.TheVariants.{Ok, Err}
use Rattle.whole.proofs.Machine.{back, back_is}
use Rattle.lists.proofs.Front.{Filled, filled_one, filled_all}
use Rattle.refusals.specs.declared.Refusal.TheVariants as refusal
use Rattle.refusals.specs.Answer.{value}
use Rattle.refusals.specs.Places.{Placed, refused_at, verdict_says}
use Rattle.refusals.proofs.Answers.{no_value}
use Rattle.rules.specs.Numbers.{M, Up}
use Rattle.formulas.specs.Readings.{number_at}
use Rattle.cards.specs.Slopes.{largest}
use Rattle.cards.specs.Card.{rise, card_margin}
use Rattle.cards.specs.Using.{sums_within}
use Rattle.cards.specs.GivenInUsing.{FirstOver}
use Rattle.cards.proofs.Tests.{m_over, SumsCase, sums_low, sum_over, sums_case, one_first}
use Rattle.cards.proofs.Sizes.{rise_next, margin_past}
use Rattle.cards.proofs.Flat.{card_margins_long, card_margin_at}
use Rattle.card_user.specs.Sums.{Rising, Rises, output_sum, AddsUp, Summable, output_sums, SumsUp}
use Rattle.card_user.specs.declared.Card.{Card}

-- ---- one output

-- a number of a list whose largest is at most M
among_low : (n : ℕ) (l : List ℕ) → largest (take n l) ≤ M → (i : ℕ) → i < n → get_or l i 0 ≤ M
among_low n l h i p = by_test (leb (get_or l i 0) M) refl
  where
    by_test : (t : Bool) → leb (get_or l i 0) M ≡ t → get_or l i 0 ≤ M
    by_test true e = leb-true (get_or l i 0) M e
    by_test false e = absurd (omega (arith, m_over n l (record { index = i; among = p; over = leb-false (get_or l i 0) M e })))

-- the sum over the first i inputs
pub record Added (c : Card) (rs : List ℤ) (j sum i : ℕ) : Type 0 where
  pub some : i ≤ c.inputs
  pub sums : sum ≡ card_margin c.scale (map nat_abs rs) (get_or c.static_margins.now j 0) (take i (take c.inputs (drop (j * c.inputs) c.slopes.now)))
  pub low : sum ≤ M

module _ {c : Card} {rs : List ℤ} {j : ℕ} (p : Summable c rs) (output : j < c.outputs) where
  abbrev m : ℕ
  m = c.inputs

  abbrev row : List ℕ
  row = take m (drop (j * m) c.slopes.now)

  row_inside : j * c.inputs + c.inputs ≤ c.outputs * c.inputs
  row_inside = omega (arith, suc-mul j m, mul-le-mul output (le_refl m))

  row_long : length (take c.inputs (drop (j * c.inputs) c.slopes.now)) ≡ c.inputs
  row_long = length-take-le m (drop (j * m) c.slopes.now) (omega (arith, length-drop (j * m) c.slopes.now, row_inside, p.holds.slopes_there))

  pub added_none : Added c rs j (get_or c.static_margins.now j 0) 0
  added_none = record { some = omega arith; sums = omega arith; low = among_low c.outputs c.static_margins.now p.static_small j output }

  module _ {i : ℕ} (l : i < c.inputs) where
    module _ {s : ℕ} (e : s ≡ nat_abs (back (number_at rs i))) where
      size : s ≡ nat_abs (number_at rs i)
      size = e ∙ ap nat_abs (back_is (number_at rs i) (omega (arith, p.margins_small i l)))

      product_low : get_or c.slopes.now (j * c.inputs + i) 0 * s ≤ M * M
      product_low =
          let low : s ≤ M = omega (arith, size, p.margins_small i l) in
          mul-le-mul (among_low (c.outputs * m) c.slopes.now p.slopes_small (j * m + i) (omega (arith, row_inside))) low

      pub rising : Rising c.scale (get_or c.slopes.now (j * c.inputs + i) 0) s
      rising = record { scale_small = p.scale_small; product_small = product_low }

      module _ {sum v : ℕ} (u : Rises c.scale (get_or c.slopes.now (j * c.inputs + i) 0) s v) (w : Added c rs j sum i) where
        next : sum + v ≡ card_margin c.scale (map nat_abs rs) (get_or c.static_margins.now j 0) (take (i + 1) (take c.inputs (drop (j * c.inputs) c.slopes.now)))
        next =
            omega (arith, w.sums, u.is, same)
            ∙ ap (λ n. card_margin c.scale (map nat_abs rs) (get_or c.static_margins.now j 0) (take n row)) (sym (add-one i))
          where
            slope_at : get_or (take c.inputs (drop (j * c.inputs) c.slopes.now)) i 0 ≡ get_or c.slopes.now (j * c.inputs + i) 0
            slope_at = get_or-take m (drop (j * m) c.slopes.now) i 0 l ∙ get_or-drop (j * m) c.slopes.now i 0

            size_at : get_or (map nat_abs rs) i 0 ≡ s
            size_at = get_or-map nat_abs rs i (pos 0) ∙ sym size

            same : rise c.scale (take (suc i) (take c.inputs (drop (j * c.inputs) c.slopes.now))) (map nat_abs rs)
                ≡ rise c.scale (take i (take c.inputs (drop (j * c.inputs) c.slopes.now))) (map nat_abs rs)
                + Up c.scale (get_or c.slopes.now (j * c.inputs + i) 0 * s)
            same =
                rise_next c.scale i row (map nat_abs rs) (omega (arith, row_long)) (omega (arith, p.margins_there, length-map rs nat_abs))
                ∙ ap (λ n. rise c.scale (take i row) (map nat_abs rs) + Up c.scale n) (ap₂ ◌*◌ slope_at size_at)

        pub added_one : sum + v ≤ M → Added c rs j (sum + v) (i + 1)
        added_one h = record { some = omega arith; sums = next; low = h }

        pub added_past : M < sum + v → AddsUp c rs j None
        added_past h =
            let past = margin_past c.scale (get_or c.static_margins.now j 0) (i + 1) row (map nat_abs rs) (subst (λ n. M < n) next h) in
            record { is = sym (ap (λ t. cond t (Some (output_sum c rs j)) None) (lt-leb _ M past)) }

-- ---- all outputs

-- what the sums come to, by the first that is over
sums_first : {sums : List ℕ} {k : ℕ} → FirstOver sums k → sums_within 0 sums ≡ refused_at 11 k
sums_first {sums} {k} f = by_case (sums_case 0 sums)
  where
    by_case : {a : Placed (Unit {0})} → SumsCase sums a 0 → a ≡ refused_at 11 k
    by_case (sums_low d e) = absurd (d k f)
    by_case (sum_over {k = j} g e) = e ∙ ap (refused_at 11) (omega (arith, one_first g f))

sums_none : {sums : List ℕ} → ((k : ℕ) → FirstOver sums k → ⊥) → sums_within 0 sums ≡ value tt
sums_none {sums} d = by_case (sums_case 0 sums)
  where
    by_case : {a : Placed (Unit {0})} → SumsCase sums a 0 → a ≡ value tt
    by_case (sums_low c e) = e
    by_case (sum_over {k = j} g e) = absurd (d j g)

-- the margin of output j, or that it is past M
within_some : (c : Card) (rs : List ℤ) (j : ℕ) {r : Option ℕ} {n : ℕ} → AddsUp c rs j r → r ≡ Some n → (n ≡ output_sum c rs j) × (n ≤ M)
within_some c rs j {r} {n} u e = by_test (leb (output_sum c rs j) M) refl
  where
    by_test : (t : Bool) → leb (output_sum c rs j) M ≡ t → (n ≡ output_sum c rs j) × (n ≤ M)
    by_test true k =
        let same : ◌≡◌ {A = Option ℕ} (Some n) (Some (output_sum c rs j)) =
        sym e ∙ u.is ∙ ap (λ t. cond t (Some (output_sum c rs j)) None) k in
        let is : n ≡ output_sum c rs j = cc in
        (is, omega (arith, is, leb-true _ M k))
    by_test false k =
        let other : ◌≡◌ {A = Option ℕ} (Some n) None = sym e ∙ u.is ∙ ap (λ t. cond t (Some (output_sum c rs j)) None) k in
        absurd (cc)

within_none : (c : Card) (rs : List ℤ) (j : ℕ) {r : Option ℕ} → AddsUp c rs j r → r ≡ None → M < output_sum c rs j
within_none c rs j {r} u e = by_test (leb (output_sum c rs j) M) refl
  where
    by_test : (t : Bool) → leb (output_sum c rs j) M ≡ t → M < output_sum c rs j
    by_test false k = leb-false _ M k
    by_test true k =
        let other : ◌≡◌ {A = Option ℕ} None (Some (output_sum c rs j)) =
        sym e ∙ u.is ∙ ap (λ t. cond t (Some (output_sum c rs j)) None) k in
        absurd (cc)

-- the sums before output j are written, and none is over M
pub record Summed (c : Card) (rs : List ℤ) (old now : List ℕ) (j : ℕ) : Type 0 where
  pub some : j ≤ c.outputs
  pub filled : Filled (output_sums c rs) old now j
  pub low : (i : ℕ) → i < j → get_or (output_sums c rs) i 0 ≤ M

module _ {c : Card} {rs : List ℤ} (p : Summable c rs) where
  many : length (output_sums c rs) ≡ c.outputs
  many = card_margins_long c.scale c.inputs c.outputs c.static_margins.now c.slopes.now (map nat_abs rs) p.holds.static_there

  sum_at : {j : ℕ} → j < c.outputs → get_or (output_sums c rs) j 0 ≡ output_sum c rs j
  sum_at {j} l = card_margin_at c.scale c.inputs c.outputs c.static_margins.now c.slopes.now (map nat_abs rs) p.holds.static_there j l

module _ {c : Card} {rs : List ℤ} {old : List ℕ} where
  module _ (p : Summable c rs) (room : c.outputs ≤ length old) where
    pub summed_all : {now : List ℕ} {j : ℕ} → Summed c rs old now j → c.outputs ≤ j → SumsUp c rs old now (Ok tt)
    summed_all {j = j} w l =
        record {
          says = sym (sums_none none_over);
          holds = λ e. filled_all (output_sums c rs) old (omega (arith, many p)) w.filled;
        }
      where
        none_over : (k : ℕ) → FirstOver (output_sums c rs) k → ⊥
        none_over k f = omega (arith, f.over, w.low k (omega (arith, f.among, many p)))

    module _ {j : ℕ} (l : j < c.outputs) where
      module _ {r : Option ℕ} (u : AddsUp c rs j r) {now : List ℕ} (w : Summed c rs old now j) where
        pub sum_past : r ≡ None → SumsUp c rs old now (Err (record { why = refusal.OutOfReach; place = j }))
        sum_past h =
            let first : FirstOver (output_sums c rs) j =
            record { among = omega (arith, many p); over = omega (arith, sum_at p l, within_none c rs j u h); none_before = w.low } in
            record { says = sym (sums_first first); holds = λ e. absurd (no_value (ap verdict_says e)) }

        pub sum_kept : {sum : ℕ} → r ≡ Some sum → Summed c rs old (set now j sum) (j + 1)
        sum_kept h =
            let got = within_some c rs j u h in
            record {
              some = omega arith;
              filled =
                  filled_one (output_sums c rs) old 0 (omega (arith, many p, room)) (omega (arith, many p)) (got.0 ∙ sym (sum_at p l)) w.filled;
              low = below_more _ _ w.low (omega (arith, sum_at p l, got.0, got.1));
            }
