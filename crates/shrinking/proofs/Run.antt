-- "with the middles kept, if every stray and every margin of the domain is made no larger, an accepted domain stays accepted and no stray or
-- margin in the answer grows." Assumes nothing.
use mathlib.Core.Path.{◌≡◌, refl, sym, ◌∙◌, ap, subst}
use mathlib.Core.List.{List, [], ◌∷◌, map}
use mathlib.Core.Logic.{inl, inr}
use Prim.Native.Nat.{ℕ, ◌<◌, ◌≤◌}
use native.Mathlib.Nat.{le_trans, le_of_eq, add-le-add}
use native.Mathlib.Omega.{arith}
use lib.IntN.{ℤ, pos, nat_abs}
use lib.ListN.{length, get_or}
use Rattle.lists.specs.All.{none, one}
use Rattle.lists.specs.Each.{Each}
use Rattle.lists.specs.Joined.{Rel}
use Rattle.lists.proofs.Joined.{rel_at, rel_length, rel_picked}
use Rattle.refusals.specs.Answer.{Answer, value}
use Rattle.refusals.proofs.Answers.{same_value}
use Rattle.rules.specs.declared.Matryoshka.{Matryoshka}
use Rattle.rules.specs.Matryoshki.{matryoshka_rule}
use Rattle.rules.specs.Lists.{matryoshki, no_matryoshka}
use Rattle.formulas.specs.declared.Instruction.{Instruction}
use Rattle.formulas.specs.Formula.{Formula, Smaller, WellFormed}
use Rattle.formulas.specs.Run.{finished, run}
use Rattle.formulas.specs.Readings.{Domain, number_at, domain_brought}
use Rattle.formulas.specs.GivenInRuns.{BelowZero, Negative}
use Rattle.formulas.specs.Kinds.{matryoshka_kind}
use Rattle.formulas.specs.Job.{done, job}
use Rattle.formulas.proofs.Following.{FollowedRun, run_follows}
use Rattle.formulas.proofs.Judging.{Good, Fit}
use Rattle.formulas.proofs.Fitting.{let_in, let_through, DomainFit, domain_fit}
use Rattle.formulas.proofs.Lawful.{matryoshka_lawful}
use Rattle.formulas.proofs.Jobs.{Starts, Does, does, starts_done, made_many}
use Rattle.shrinking.specs.Narrow.{Narrows, NoLarger, no_larger, NarrowerDomain, StaysAccepted}
use Rattle.shrinking.proofs.Rule.{rule_narrows}

-- the narrower run finishes, value by value narrower
pub run_narrows : (F : ℕ) (d : Matryoshka) (is : List Instruction) {ms ns ks : List Matryoshka} → Rel Narrows ms ks → Each (Smaller F) (length ms) is
    → run (matryoshka_rule F) d is ms ≡ finished ns → FollowedRun Narrows (matryoshka_rule F) d is ks ns
run_narrows F d is r small e = run_follows F (matryoshka_rule F) (matryoshka_rule F) d d (λ o p m. rule_narrows F o p m) is r small e

-- ---- a domain as a caller brings it

sizes_no_larger : {x y : ℤ} → NoLarger x y → nat_abs y ≤ nat_abs x
sizes_no_larger (no_larger l) = l

not_below_zero : {x y : ℤ} → NoLarger x y → BelowZero y → ⊥
not_below_zero (no_larger l) b = b

values_narrow : (cs : List ℤ) {ss ts rs qs : List ℤ} → Rel NoLarger ss ts → Rel NoLarger rs qs
    → Rel Narrows (matryoshki cs (map nat_abs ss) (map nat_abs rs)) (matryoshki cs (map nat_abs ts) (map nat_abs qs))
values_narrow [] p q = Rel.none
values_narrow (c ∷ cs) Rel.none q = Rel.none
values_narrow (c ∷ cs) (Rel.one p ps) Rel.none = Rel.none
values_narrow (c ∷ cs) (Rel.one p ps) (Rel.one q qs) =
    Rel.one (record { middle_kept = refl; stray_no_larger = sizes_no_larger p; margin_no_larger = sizes_no_larger q }) (values_narrow cs ps qs)

module _ {g k : Domain} (n : NarrowerDomain g k) where
  narrower_values : Rel Narrows (matryoshka_kind.values g) (matryoshka_kind.values k)
  narrower_values =
      subst (λ (l : List ℤ). Rel Narrows (matryoshka_kind.values g) (matryoshki l (map nat_abs k.strays) (map nat_abs k.margins)))
      (sym n.middles_kept) (values_narrow g.middles n.strays_no_larger n.margins_no_larger)

  -- as many readings, each good
  pub narrower_fit : {m : ℕ} → Fit m (domain_brought g) → Fit m (domain_brought k)
  narrower_fit {m} f =
      record {
        counted = one (ap length n.middles_kept ∙ d.middles_many)
            (one (sym (rel_length n.strays_no_larger) ∙ d.strays_many) (one (sym (rel_length n.margins_no_larger) ∙ d.margins_many) none));
        each_good = good;
      }
    where
      d : DomainFit m g
      d = domain_fit g f

      good : (j : ℕ) → j < m → Good ((domain_brought k).reading_at j)
      good j l =
          let s = rel_at n.strays_no_larger j (pos 0) (pos 0) (omega (arith, d.strays_many)) in
          let r = rel_at n.margins_no_larger j (pos 0) (pos 0) (omega (arith, d.margins_many)) in
          record {
            signs = signs s r;
            reach =
                le_trans
                (add-le-add (add-le-add (le_of_eq (ap (λ l. nat_abs (number_at l j)) n.middles_kept)) (sizes_no_larger s)) (sizes_no_larger r))
                (f.each_good j l).reach;
          }
        where
          signs : {x y z w : ℤ} → NoLarger x y → NoLarger z w → Negative (record { centre = pos 0; stray = y; margin = w }) → ⊥
          signs s r (inl b) = not_below_zero s b
          signs s r (inr b) = not_below_zero r b

-- the request's theorem, of the admit job
pub narrower_accepted : {a : Answer Formula} {f : Formula} → WellFormed f → a ≡ value f → {g k : Domain} → NarrowerDomain g k → (work output : ℕ)
    {vs os : List Matryoshka} → job matryoshka_kind a g work output ≡ done vs os → StaysAccepted a k work output vs os
narrower_accepted {a} {f} well means {g} {k} n work output {vs} {os} e =
    record {
      values = c.made;
      outputs = map (λ o. get_or c.made o no_matryoshka) h.results;
      accepted = starts_done matryoshka_kind a k work output starts_narrower c.finishes;
      values_no_larger = c.related;
      outputs_no_larger =
          subst (λ (l : List Matryoshka). Rel Narrows l (map (λ o. get_or c.made o no_matryoshka) h.results)) (sym d.picks)
          (rel_picked no_matryoshka no_matryoshka c.related formed.results_below
          (le_of_eq (sym (made_many matryoshka_lawful a g work output d.started formed d.finishes))));
    }
  where
    d : Does matryoshka_kind a g work output vs os
    d = does matryoshka_kind a g work output e

    h : Formula
    h = d.on.formula

    formed : WellFormed h
    formed = subst WellFormed (same_value (sym means ∙ d.started.means)) well

    given : Fit h.header.inputs (domain_brought g) × (matryoshka_kind.values g ≡ d.on.values)
    given = let_in matryoshka_kind h.header.inputs g d.started.fits

    narrower : Rel Narrows d.on.values (matryoshka_kind.values k)
    narrower = subst (λ (l : List Matryoshka). Rel Narrows l (matryoshka_kind.values k)) given.1 (narrower_values n)

    starts_narrower : Starts matryoshka_kind a k work output (record { formula = h; values = matryoshka_kind.values k })
    starts_narrower =
        record {
          means = d.started.means;
          fits = let_through matryoshka_kind h.header.inputs k (narrower_fit n given.0);
          work_room = d.started.work_room;
          output_room = d.started.output_room;
        }

    c : FollowedRun Narrows (matryoshka_rule h.header.scale) no_matryoshka h.program (matryoshka_kind.values k) vs
    c =
        run_narrows h.header.scale no_matryoshka h.program narrower
        (subst (λ (m : ℕ). Each (Smaller h.header.scale) m h.program)
        (sym (matryoshka_lawful.tested_values h.header.inputs g d.started.fits).many) formed.operands_smaller)
        d.finishes
