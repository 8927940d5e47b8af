-- From bytes and a domain to the answer, in the code's shape: unread, readings that are refused, or the edge that was found. Assumes nothing.
use mathlib.Core.Path.{◌≡◌, refl, sym, ◌∙◌, ap, subst}
use mathlib.Core.List.{List}
use Prim.Native.Nat.{ℕ, zero, suc, ◌+◌, ◌≤◌}
use native.Mathlib.Omega.{arith}
use lib.IntN.{ℤ}
use lib.ListN.{length}
use Rattle.std.specs.declared.option.Option.{Option}
use Rattle.std.specs.declared.result.Result.TheVariants.{Ok, Err}
use Rattle.refusals.specs.Places.{because}
use Rattle.refusals.specs.declared.Refused.{Refused}
use Rattle.whole.proofs.Cases.{by_case}
use Rattle.lists.specs.Over.{least}
use Rattle.lists.proofs.Over.{both_least}
use Rattle.refusals.specs.declared.Refusal.{Refusal}
use Rattle.refusals.specs.Places.{Verdict}
use Rattle.refusals.specs.Answer.{value, then}
use Rattle.refusals.specs.Places.{Placed, elsewhere, verdict_says}
use Rattle.refusals.proofs.Answers.{then_value, then_refused}
use Rattle.rules.specs.declared.Matryoshka.{Matryoshka}
use Rattle.rules.specs.Lists.{matryoshka_lists}
use Rattle.formulas.specs.declared.Header.{Header}
use Rattle.formulas.specs.Formula.{Formula}
use Rattle.formulas.specs.Readings.{Domain, domain_brought, readings_tested}
use Rattle.formulas.specs.Kinds.{matryoshka_kind, tested}
use Rattle.formulas.proofs.Fitting.{let_in, domain_fit, domain_many}
use Rattle.packed.specs.Meaning.{formula, meant, checked}
use Rattle.packed.proofs.Accepted.{refused_unread}
use Rattle.packed.proofs.Formed.{Formed, formed, limits_of}
use Rattle.checking.specs.CheckAnswers.{Checked}
use Rattle.checking.specs.CheckAnswers.{check_answer}
use Rattle.readings.specs.Judges.{JudgesAll}
use Rattle.shrinking.specs.Explained.{admissions, explained, explanation}
use Rattle.shrinking.proofs.Falls.{Falls, found, found_none, found_all}
use Rattle.shrinking.proofs.Parts.{falls}
use Rattle.explaining.specs.declared.Edge.{Edge}
use Rattle.explaining.specs.declared.Explained.{Explained}
use Rattle.explaining.specs.Explaining.{Searchable, Lookable, tries, Refuses, none_refused, refused_there, Searches, edge_says, Tells, Looks, ExplainsDomain}

-- the edge is the explanation
edge_explained : {admitted : ℕ → Placed (Unit {0})} → Falls admitted → {first : ℕ} {met : Option Refused} → Refuses admitted first met
    → ((t : ℕ) → first ≡ suc t → admitted t ≡ value tt) → explained admitted ≡ edge_says first met
edge_explained {admitted} f none_refused before = found_all admitted (before 256 refl)
edge_explained {admitted} f (refused_there {t = zero} l e) before = found_none f e
edge_explained {admitted} f (refused_there {t = suc t} l e) before = found f l (before t refl) e

module _ {s : List ℕ} {h : Header} {g : Domain} (p : Lookable s h g) where
  there : Formed s h
  there = formed s p.is_formula

  many : length (matryoshka_kind.values g) ≡ h.inputs
  many = domain_many (domain_fit g (let_in matryoshka_kind h.inputs g p.fits).0)

  -- lists of 528 places are long enough for every formula
  pub local_searchable : {xs : List ℤ} {ys zs : List ℕ} → length xs ≡ 528 → length ys ≡ 528 → length zs ≡ 528
      → Searchable s h g (matryoshka_lists xs ys zs)
  local_searchable {xs} {ys} {zs} x y z =
      record {
        is_formula = p.is_formula;
        fits = p.fits;
        room =
            both_least _ (length xs) (least (length ys) (length zs)) (omega (arith, few, x))
            (both_least _ (length ys) (length zs) (omega (arith, few, y)) (omega (arith, few, z)));
      }
    where
      few : h.inputs + h.instructions ≤ 528
      few = omega (arith, (limits_of there).inputs_few, (limits_of there).instructions_few)

  reads : explanation (formula s) g ≡ value (explained (tries s g))
  unfolding explanation
  reads =
      then_value (λ (f : Formula). then (tested matryoshka_kind f.header.inputs g) (λ ms. value (explained (admissions f ms)))) (ap elsewhere there.means)
      ∙ then_value (λ (ms : List Matryoshka). value (explained (admissions (meant s) ms)))
      (subst (λ (a : Header). tested matryoshka_kind a.inputs g ≡ value (matryoshka_kind.values g)) (sym there.is_header) p.fits)

  pub looks : {e : Edge} {r : Explained} → Searches s g e → Tells e r → Looks s g r
  looks w t =
      let f = falls there.well (matryoshka_kind.values g) (many ∙ ap (λ (a : Header). a.inputs) (sym there.is_header)) in
      record { says = ap value (t.says ∙ sym (edge_explained f w.refuses w.admitted_before)) ∙ sym reads }

-- what comes before the search
module _ {s : List ℕ} {g : Domain} {c : Checked} (checks : check_answer c ≡ checked s) where
  pub unread : {q : Refusal} → c ≡ Err q → ExplainsDomain s g (Err (because q 0))
  unfolding explanation
  unread t = record { says = sym (then_refused _ (ap elsewhere (refused_unread s (by_case check_answer checks t)))) }

  module _ {h : Header} {v : Verdict} (t : c ≡ Ok h) (j : JudgesAll h.inputs (domain_brought g) v) where
    pub misread : {e : Refused} → v ≡ Err e → ExplainsDomain s g (Err e)
    unfolding explanation
    misread u =
        let read = formed s (by_case check_answer checks t) in
        let tests = ap (λ (a : Header). readings_tested a.inputs (domain_brought g)) read.is_header ∙ sym j.says ∙ ap verdict_says u in
        record {
          says =
              sym (then_value (λ (f : Formula). then (tested matryoshka_kind f.header.inputs g) (λ ms. value (explained (admissions f ms)))) (ap elsewhere read.means)
              ∙ then_refused _ (then_refused _ tests));
        }

pub looked : {s : List ℕ} {g : Domain} {r : Explained} → Looks s g r → ExplainsDomain s g (Ok r)
looked l = record { says = l.says }
