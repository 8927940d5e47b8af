-- The whole job in the code's shape: refused by the check or by a test, or a card as it was made. Assumes nothing.
use mathlib.Core.Path.{◌≡◌, sym, ◌∙◌, ap}
use mathlib.Core.List.{List}
use Prim.Native.Nat.{ℕ, ◌≤◌}
use lib.ListN.{length}
use Rattle.std.specs.declared.result.Result.TheVariants.{Ok, Err}
use Rattle.refusals.specs.Places.{because}
use Rattle.refusals.specs.declared.Refused.{Refused}
use Rattle.whole.proofs.Cases.{by_case}
use Rattle.lists.specs.Over.{over}
use Rattle.refusals.specs.declared.Refusal.{Refusal}
use Rattle.refusals.specs.declared.Refusal.TheVariants as refusal
use Rattle.refusals.specs.Said.{Reply}
use Rattle.refusals.specs.Places.{Verdict}
use Rattle.refusals.specs.Answer.{value, refused, then}
use Rattle.refusals.specs.Places.{Where, Placed, elsewhere, refuse_at, verdict_says}
use Rattle.refusals.proofs.Answers.{then_value, then_refused, first_of, refused_same}
use Rattle.rules.specs.declared.Matryoshka.{Matryoshka}
use Rattle.formulas.specs.declared.Header.{Header}
use Rattle.formulas.specs.Readings.{Domain}
use Rattle.formulas.specs.Kinds.{matryoshka_kind, tested}
use Rattle.formulas.proofs.Fitting.{let_in}
use Rattle.packed.specs.Meaning.{formula, meant, checked}
use Rattle.packed.proofs.Accepted.{refused_unread}
use Rattle.packed.proofs.Formed.{Formed, formed, limits_of}
use Rattle.checking.specs.CheckAnswers.{Checked}
use Rattle.checking.specs.CheckAnswers.{check_answer}
use Rattle.cards.specs.Card.{Card}
use Rattle.cards.specs.Making.{unless, all_still, card_room, card_made, card_job}
use Rattle.cards.specs.Lent.{CardLists, static_in, slopes_in, card_said, lent_card, CardKept}
use Rattle.card_maker.specs.Parts.{Tests, Makes, card_lists}

-- what is told, and what stands in the lists, of a job that gave this
kept_of : (s : List ℕ) (g : Domain) {old new : CardLists} {r : Reply} → lent_card (formula s) g old ≡ card_made (meant s) (matryoshka_kind.values g)
    → Makes s g old new r → CardKept (formula s) g old new r
kept_of s g {old} e m =
    record {
      says = m.says ∙ sym (ap card_said e);
      static_holds = m.static_holds ∙ sym (ap (λ (x : Placed Card). over (static_in x) old.static) e);
      slopes_hold = m.slopes_hold ∙ sym (ap (λ (x : Placed Card). over (slopes_in x) old.slopes) e);
    }

kept_refused : (s : List ℕ) (g : Domain) (old : CardLists) {q : Refusal} {k : ℕ} → lent_card (formula s) g old ≡ refuse_at q k
    → CardKept (formula s) g old old (Err (because q k))
kept_refused s g old e =
    record {
      says = sym (ap card_said e);
      static_holds = sym (ap (λ (x : Placed Card). over (static_in x) old.static) e);
      slopes_hold = sym (ap (λ (x : Placed Card). over (slopes_in x) old.slopes) e);
    }

-- two steps refuse where the same with one more behind them does
chain_refused : {A B C D : Type 0} {w : Where} (a : Placed A) (b : A → Placed B) (c : A → Placed C) (d : A → Placed D)
    → then a (λ x. then (b x) (λ y. c x)) ≡ refused w → then a (λ x. then (b x) (λ y. then (c x) (λ z. d x))) ≡ refused w
chain_refused {B = B} {C} {D} {w} (value x) b c d e = second (b x) (c x) e
  where
    third : (z : Placed C) → z ≡ refused w → then z (λ y. d x) ≡ refused w
    third z u = then_refused (λ y. d x) u

    second : (y : Placed B) (z : Placed C) → then y (λ v. z) ≡ refused w → then y (λ v. then z (λ u. d x)) ≡ refused w
    second (value v) z u = third z u
    second (refused v) z u = ap refused (refused_same u)
chain_refused (refused x) b c d e = ap refused (refused_same e)

-- the job, with the header in its place
module _ (s : List ℕ) (g : Domain) (er lr : ℕ) where
  job_of : Header → Placed Card
  job_of h =
      then (tested matryoshka_kind h.inputs g) (λ ms. then (unless refusal.MarginNotZero (all_still ms)) (λ x.
      then (unless refusal.NoRoom (card_room h er lr)) (λ y. card_made (meant s) ms)))

  job_is : {h : Header} → Formed s h
      → card_job (formula s) g er lr
      ≡ then (tested matryoshka_kind h.inputs g) (λ ms. then (unless refusal.MarginNotZero (all_still ms)) (λ x.
      then (unless refusal.NoRoom (card_room h er lr)) (λ y. card_made (meant s) ms)))
  unfolding card_job job_of
  job_is f = then_value _ (ap elsewhere f.means) ∙ ap job_of f.is_header

-- the tests are passed
record PassedTests (h : Header) (g : Domain) (er lr : ℕ) : Type 0 where
  fits : tested matryoshka_kind h.inputs g ≡ value (matryoshka_kind.values g)
  rests : unless refusal.MarginNotZero (all_still (matryoshka_kind.values g)) ≡ value tt
  roomy : unless refusal.NoRoom (card_room h er lr) ≡ value tt

passed_tests : {h : Header} {g : Domain} {er lr : ℕ} {v : Verdict} → Tests h g er lr v → v ≡ Ok tt → PassedTests h g er lr
passed_tests {h} {g} {er} {lr} t e =
    let a = first_of (tested matryoshka_kind h.inputs g) _ (by_case verdict_says t.says e) in
    let b = first_of (unless refusal.MarginNotZero (all_still a.first)) _ a.then_was in
    let same = (let_in matryoshka_kind h.inputs g a.was).1 in
    record {
      fits = a.was ∙ ap value (sym same);
      rests = ap (λ (ms : List Matryoshka). unless refusal.MarginNotZero (all_still ms)) same ∙ b.was;
      roomy = b.then_was;
    }

module _ (s : List ℕ) {c : Checked} (checks : check_answer c ≡ checked s) where
  pub make_unread : {g : Domain} {E L : List ℕ} {q : Refusal} → c ≡ Err q → CardKept (formula s) g (card_lists E L) (card_lists E L) (Err (because q 0))
  unfolding card_job
  make_unread {g} {E} {L} t = kept_refused s g (card_lists E L) (then_refused _ (ap elsewhere (refused_unread s (by_case check_answer checks t))))

  module _ {h : Header} (is : c ≡ Ok h) where
    there : Formed s h
    there = formed s (by_case check_answer checks is)

    pub make_testable : (h.outputs ≤ 16) × (h.inputs ≤ 16)
    make_testable = ((limits_of there).outputs_few, (limits_of there).inputs_few)

    module _ {g : Domain} {E L : List ℕ} {v : Verdict} (tests : Tests h g (length E) (length L) v) where
      pub make_refused : {e : Refused} → v ≡ Err e → CardKept (formula s) g (card_lists E L) (card_lists E L) (Err e)
      make_refused t =
          kept_refused s g (card_lists E L)
          (job_is s g (length E) (length L) there
          ∙ chain_refused (tested matryoshka_kind h.inputs g) (λ ms. unless refusal.MarginNotZero (all_still ms))
          (λ ms. unless refusal.NoRoom (card_room h (length E) (length L))) (λ ms. card_made (meant s) ms) (by_case verdict_says tests.says t))

      module _ (t : v ≡ Ok tt) where
        pub make_kept : {new : CardLists} {r : Reply} → Makes s g (card_lists E L) new r → CardKept (formula s) g (card_lists E L) new r
        make_kept m =
            let p = passed_tests tests t in
            kept_of s g
            (job_is s g (length E) (length L) there ∙ then_value _ p.fits ∙ then_value _ p.rests ∙ then_value _ p.roomy) m
