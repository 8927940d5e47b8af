-- Two texts as a reading, test by test, in the code's shape. Assumes nothing.
use mathlib.Core.Path.{◌≡◌, ◌∙◌, ap, ap₂, subst}
use mathlib.Core.Bool.{true}
use mathlib.Core.List.{List, [], ◌∷◌}
use Prim.Native.Nat.{ℕ, ◌≤◌, ◌<◌}
use native.Mathlib.Omega.{arith}
use lib.IntN.{ℤ, pos, nat_abs}
use lib.ListN.{length, set}
use mir.Syntax.{w64}
use mir.Val.{SFits}
use Rattle.std.specs.declared.result.Result.{Result}
use Rattle.std.specs.declared.result.Result.TheVariants.{Ok, Err}
use Rattle.refusals.specs.Places.{because}
use Rattle.refusals.specs.Said.{Reply}
use Rattle.refusals.specs.declared.Refused.{Refused}
use Rattle.refusals.specs.declared.Refusal.{Refusal}
use Rattle.refusals.specs.declared.Refusal.TheVariants as refusal
use Rattle.whole.specs.Limits.{is_below}
use Rattle.whole.proofs.Machine.{back, back_is}
use Rattle.lists.specs.Over.{over}
use Rattle.rules.specs.declared.Ball.{Ball}
use Rattle.rules.specs.Numbers.{M}
use Rattle.rules.specs.Values.{ball_reach}
use Rattle.numerals.specs.declared.Decimal.{Decimal}
use Rattle.numerals.specs.declared.Wrong.{Wrong}
use Rattle.numerals.specs.Places.{placed}
use Rattle.numerals.proofs.Places.{placed_ok, placed_err}
use Rattle.decimals.specs.In.{into}
use Rattle.decimal_reader.specs.Answers.{TellsMargin, TellsNumber}
use Rattle.decimal_jobs.specs.Tests.{Natural, InReach, HavePlaces}
use Rattle.decimal_jobs.specs.In.{InLists, in_lists, reading_in, Puts, FromNumber, Reads, FromDecimal}
use Rattle.decimal_jobs.proofs.Asking.{kept}
use Rattle.decimal_jobs.proofs.Lent.{first_set, refuses_in, first_place, second_place}

module _ {F : ℤ} (f : SFits w64 F) (s t : List ℕ) where
  pub no_scale : {lent : InLists} {r : Refusal} → Natural 31 refusal.Scale (back F) (Err r) → FromDecimal F s t lent lent (Err (because r 0))
  no_scale e = let k = (kept f e).is in rw k.1 (refuses_in (Reads.three k.0))

  module _ {n : ℕ} (scale : Natural 31 refusal.Scale (back F) (Ok n)) {i : Result (Decimal ℤ) Wrong} (number : TellsNumber s i) where
    scale_is : (is_below 31 F ≡ true) × (n ≡ nat_abs F)
    scale_is = (kept f scale).is

    pub wrong_number : {lent : InLists} {e : Refused} → Err e ≡ placed refusal.NumberText i → FromDecimal F s t lent lent (Err e)
    wrong_number k = let w = placed_err (TellsNumber s) i refusal.NumberText number k in rw w.2 (refuses_in (Reads.twenty_four scale_is.0 w.1.is))

    module _ {y : Decimal ℤ} (told : Ok y ≡ placed refusal.NumberText i) {j : Result (Decimal ℕ) Wrong} (margin : TellsMargin t j) where
      says_number : TellsNumber s (Ok y)
      says_number = placed_ok (TellsNumber s) i refusal.NumberText number told

      pub wrong_margin : {lent : InLists} {e : Refused} → Err e ≡ placed refusal.MarginText j → FromDecimal F s t lent lent (Err e)
      wrong_margin k =
          let w = placed_err (TellsMargin t) j refusal.MarginText margin k in
          rw w.2 (refuses_in (Reads.says scale_is.0 says_number.is (FromNumber.twenty_five w.1.is)))

      module _ {m : Decimal ℕ} (margin_told : Ok m ≡ placed refusal.MarginText j) where
        says_margin : TellsMargin t (Ok m)
        says_margin = placed_ok (TellsMargin t) j refusal.MarginText margin margin_told

        module _ {b : Ball} (made : b ≡ into n y m) where
          made_so : b ≡ into (nat_abs F) y m
          made_so = made ∙ ap (λ k. into k y m) scale_is.1

          -- what follows from the reach of the ball
          reads_by : {lent front : InLists} {r : Reply} → FromNumber lent (nat_abs F) y t r front → Reads lent F s t r front
          reads_by = Reads.says scale_is.0 says_number.is

          pub no_reach : {lent : InLists} {r : Refusal} → InReach b (Err r) → FromDecimal F s t lent lent (Err (because r 0))
          no_reach e =
              rw e.is.1 (refuses_in (reads_by (FromNumber.twenty_six says_margin.is (subst (λ (c : Ball). M < ball_reach c) made_so e.is.0))))

          module _ {u : Unit {0}} (legal : InReach b (Ok u)) where
            legal_by : {lent front : InLists} {r : Reply} → Puts lent (into (nat_abs F) y m) r front → Reads lent F s t r front
            legal_by p = reads_by (FromNumber.legal says_margin.is (subst (λ (c : Ball). ball_reach c ≤ M) made_so legal.is) p)

            module _ {centres margins : List ℤ} where
              pub no_places : {r : Refusal} → HavePlaces (length centres) (length margins) (Err r)
                  → FromDecimal F s t (in_lists centres margins) (in_lists centres margins) (Err (because r 0))
              no_places e = rw e.are.1 (refuses_in (legal_by (Puts.ten e.are.0)))

              pub read_so : {v : Unit {0}} → HavePlaces (length centres) (length margins) (Ok v)
                  → FromDecimal F s t (in_lists centres margins) (in_lists (set centres 0 (back b.centre)) (set margins 0 (back (pos b.margin)))) (Ok 1)
              read_so k =
                  record {
                    front = reading_in (into (nat_abs F) y m);
                    answers = legal_by (Puts.done k.are);
                    writes =
                        ap₂ in_lists
                        (first_set (back b.centre) centres (first_place k)
                        ∙ ap (λ (z : ℤ). over (z ∷ []) centres) (back_is b.centre (omega (arith, legal.is)) ∙ ap (λ (c : Ball). c.centre) made_so))
                        (first_set (back (pos b.margin)) margins (second_place k)
                        ∙ ap (λ (z : ℤ). over (z ∷ []) margins) (back_is (pos b.margin) (omega (arith, legal.is)) ∙ ap (λ (c : Ball). pos c.margin) made_so));
                  }
