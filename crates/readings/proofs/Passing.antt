-- Readings looked at one by one: what all of them come to, while those before i passed. Assumes nothing.
use mathlib.Core.Path.{◌≡◌, sym, ◌∙◌, ap}
use mathlib.Core.Bool.{Bool, true, false, not}
use mathlib.Core.List.{List}
use Prim.Native.Nat.{ℕ, suc, ◌+◌, ◌-◌, ◌≤◌, ◌<◌}
use native.Mathlib.Omega.{arith}
use borrow.Author.Tests.{not-true, not-false}
use Rattle.std.specs.declared.result.Result.TheVariants.{Ok, Err}
use Rattle.lists.specs.All.{All, none, one}
use Rattle.refusals.specs.declared.Refusal.TheVariants.{ReadingCount}
use Rattle.refusals.specs.declared.Refused.{Refused}
use Rattle.refusals.specs.Answer.{then}
use Rattle.refusals.specs.Places.{because, at_place, Verdict, verdict_says}
use Rattle.refusals.proofs.Answers.{then_value, then_refused}
use Rattle.formulas.specs.Readings.{Reading, judged, lowest, Brought, each_counts, readings_tested}
use Rattle.formulas.proofs.Judging.{counts_agree, counts_differ, miscounted, counted_tested}
use Rattle.readings.specs.Judges.{InEach, Reads, Judges, JudgesAll}

-- what is left to be tested decides
pub record PassedBefore (m : ℕ) (b : Brought) (i : ℕ) : Type 0 where
  pub within : i ≤ m
  pub comes_to : readings_tested m b ≡ lowest b.reading_at i (m - i)

module _ {m : ℕ} (b : Brought) {t : Bool} (told : t ≡ each_counts m b.counts) where
  pub wrong_count : not t ≡ true → JudgesAll m b (Err (because ReadingCount 0))
  wrong_count e = record { says = sym (miscounted m b (counts_differ m b.counts (sym told ∙ not-true t e))) }

  agree : not t ≡ false → All (λ n. n ≡ m) b.counts
  agree e = counts_agree m b.counts (sym told ∙ not-false t e)

  pub none_tested : not t ≡ false → PassedBefore m b 0
  none_tested e =
      record {
        within = omega arith;
        comes_to = counted_tested m b (agree e) ∙ ap (lowest b.reading_at 0) (let z : m ≡ m - 0 = omega arith in z);
      }

  pub in_each : not t ≡ false → {i : ℕ} → i < m → InEach i b
  in_each e l = each (agree e) l
    where
      each : {ns : List ℕ} → All (λ n. n ≡ m) ns → {i : ℕ} → i < m → All (λ n. i < n) ns
      each none l = none
      each (one e a) l = one (omega arith) (each a l)

module _ {m : ℕ} {b : Brought} {i : ℕ} (p : PassedBefore m b i) where
  pub all_pass : m ≤ i → JudgesAll m b (Ok tt)
  all_pass l = record { says = sym (p.comes_to ∙ ap (lowest b.reading_at i) (let z : m - i ≡ 0 = omega arith in z)) }

  module _ (l : i < m) {g : Reading} (reads : Reads b i g) {v : Verdict} (j : Judges g i v) where
    turn : readings_tested m b ≡ then (verdict_says v) (λ x. lowest b.reading_at (i + 1) (m - (i + 1)))
    turn =
        p.comes_to ∙ ap (lowest b.reading_at i) (let z : m - i ≡ suc (m - (i + 1)) = omega arith in z)
        ∙ ap (λ a. then a (λ x. lowest b.reading_at (i + 1) (m - (i + 1))))
        (sym (j.says ∙ ap (λ (h : Reading). at_place i (judged h)) reads.is))

    pub one_passes : v ≡ Ok tt → PassedBefore m b (i + 1)
    one_passes e = record { within = omega arith; comes_to = turn ∙ then_value _ (ap verdict_says e) }

    pub one_fails : {e : Refused} → v ≡ Err e → JudgesAll m b (Err e)
    one_fails e = record { says = sym (turn ∙ then_refused _ (ap verdict_says e)) }
