-- A ball out, test by test, in the code's shape. Assumes nothing.
use mathlib.Core.Path.{◌≡◌, sym, ◌∙◌, ap, ap₂, subst}
use mathlib.Core.Bool.{true}
use mathlib.Core.List.{List, [], ◌∷◌, ◌++◌}
use Prim.Native.Nat.{ℕ, ◌+◌}
use native.Mathlib.Omega.{arith}
use lib.IntN.{ℤ, nat_abs}
use lib.ListN.{length, take, drop, set}
use mir.Syntax.{w64}
use mir.Val.{SFits}
use Rattle.std.specs.declared.result.Result.TheVariants.{Ok, Err}
use Rattle.refusals.specs.Places.{because}
use Rattle.refusals.specs.declared.Refusal.{Refusal}
use Rattle.refusals.specs.declared.Refusal.TheVariants as refusal
use Rattle.whole.specs.Limits.{is_below}
use Rattle.whole.proofs.Cases.{ap₃}
use Rattle.whole.proofs.Machine.{back, back_is}
use Rattle.lists.specs.Over.{over}
use Rattle.lists.specs.Written.{Wrote}
use Rattle.lists.proofs.Over.{over_front}
use Rattle.rules.specs.declared.Ball.{Ball}
use Rattle.decimals.specs.Out.{Countable, out}
use Rattle.decimals.proofs.Out.{out_fits}
use Rattle.decimal_texts.specs.Texts.{ball_text}
use Rattle.decimal_jobs.specs.Tests.{Natural, InReach, HaveRoom}
use Rattle.decimal_jobs.specs.Out.{OutLists, out_lists, text_of, decimals_out, Prints, Asked, Shows, ToDecimal}
use Rattle.decimal_jobs.proofs.Asking.{kept, small}
use Rattle.decimal_jobs.proofs.Lent.{first_set, refuses_out, centre_place, margin_place}

-- what was written from the first place on is in front
wrote_front : {text old now : List ℕ} {q : ℕ} → Wrote text 0 old now q → now ≡ over text old
wrote_front {text} {old} w = w.holds ∙ ap (λ (k : ℕ). text ++ drop k old) (zero_plus (length text))
  where
    zero_plus : (n : ℕ) → 0 + n ≡ n
    zero_plus n = omega arith

module _ {F : ℤ} (f : SFits w64 F) where
  pub no_scale : {d : ℤ} {b : Ball} {lent : OutLists} {r : Refusal} → Natural 31 refusal.Scale (back F) (Err r)
      → ToDecimal F d b lent lent (Err (because r 0))
  no_scale e = let k = (kept f e).is in rw k.1 (refuses_out (Shows.three k.0))

  module _ {m : ℕ} (scale : Natural 31 refusal.Scale (back F) (Ok m)) {d : ℤ} (g : SFits w64 d) where
    scale_is : (is_below 31 F ≡ true) × (m ≡ nat_abs F)
    scale_is = (kept f scale).is

    pub no_decimals : {b : Ball} {lent : OutLists} {r : Refusal} → Natural 10 refusal.DecimalPlaces (back d) (Err r)
        → ToDecimal F d b lent lent (Err (because r 0))
    no_decimals e = let k = (kept g e).is in rw k.1 (refuses_out (Shows.twenty_seven scale_is.0 k.0))

    module _ {n : ℕ} (decimals : Natural 10 refusal.DecimalPlaces (back d) (Ok n)) where
      decimals_are : (is_below 10 d ≡ true) × (n ≡ nat_abs d)
      decimals_are = (kept g decimals).is

      pub no_reach : {b : Ball} {lent : OutLists} {r : Refusal} → InReach b (Err r) → ToDecimal F d b lent lent (Err (because r 0))
      no_reach e = rw e.is.1 (refuses_out (Shows.twenty_six scale_is.0 decimals_are.0 e.is.0))

      module _ {b : Ball} {u : Unit {0}} (legal : InReach b (Ok u)) where
        asked : Asked F d b
        asked = record { scale = scale_is.0; decimals = decimals_are.0; legal = legal.is }

        countable : Countable (nat_abs F) (nat_abs d) b
        countable =
            record {
              scale = let l = small scale in omega (arith, l, scale_is.1);
              places = let l = small decimals in omega (arith, l, decimals_are.1);
              legal = legal.is;
            }

        -- in counts of 10^-n, and their text made aside
        module _ {counts : Ball} (counted : counts ≡ out m n b) {zeros aside : List ℕ} {bytes : ℕ}
            (w : Wrote (ball_text n (back counts.centre) counts.margin) 0 zeros aside bytes) where
          counts_are : counts ≡ out (nat_abs F) (nat_abs d) b
          counts_are = counted ∙ ap₂ (λ i j. out i j b) scale_is.1 decimals_are.1

          centre_is : back counts.centre ≡ (out (nat_abs F) (nat_abs d) b).centre
          centre_is = ap (λ (c : Ball). back c.centre) counts_are ∙ back_is _ (let l = (out_fits countable).centre in omega (arith, l))

          made : Wrote (text_of (nat_abs F) (nat_abs d) b) 0 zeros aside bytes
          made =
              subst (λ s. Wrote s 0 zeros aside bytes)
              (ap₃ ball_text decimals_are.1 centre_is (ap (λ (c : Ball). c.margin) counts_are)) w

          bytes_are : bytes ≡ length (text_of (nat_abs F) (nat_abs d) b)
          bytes_are = omega (arith, made.after)

          taken : take bytes aside ≡ text_of (nat_abs F) (nat_abs d) b
          taken = ap (take bytes) (wrote_front made) ∙ over_front (text_of (nat_abs F) (nat_abs d) b) zeros (sym bytes_are)

          module _ {centres : List ℤ} {margins text : List ℕ} where
            pub no_room : {r : Refusal} → HaveRoom bytes (length text) (length centres) (length margins) (Err r)
                → ToDecimal F d b (out_lists centres margins text) (out_lists centres margins text) (Err (because r 0))
            no_room e = rw e.is.1 (refuses_out (Shows.asked asked (Prints.ten (rw bytes_are at e.is.0))))

            pub shown_so : {u : Unit {0}} {now : List ℕ} {q : ℕ} → HaveRoom bytes (length text) (length centres) (length margins) (Ok u)
                → Wrote (take bytes aside) 0 text now q
                → ToDecimal F d b (out_lists centres margins text)
                (out_lists (set centres 0 (back counts.centre)) (set margins 0 counts.margin) now) (Ok bytes)
            shown_so {now = now} {q} k v =
                record {
                  front = decimals_out (nat_abs F) (nat_abs d) b;
                  answers = rw bytes_are (Shows.asked asked (Prints.done (rw bytes_are at k.is)));
                  writes =
                      ap₃ out_lists
                      (first_set (back counts.centre) centres (centre_place k) ∙ ap (λ (z : ℤ). over (z ∷ []) centres) centre_is)
                      (first_set counts.margin margins (margin_place k) ∙ ap (λ (c : Ball). over (c.margin ∷ []) margins) counts_are)
                      (wrote_front (subst (λ s. Wrote s 0 text now q) taken v));
                }
