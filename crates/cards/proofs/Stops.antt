-- Where a run stops and where the slopes do, in the words for each refusal, and the other way round. Assumes nothing.
use mathlib.Core.Path.{◌≡◌, refl, sym, ◌∙◌, ap, subst}
use mathlib.Core.List.{List, [], ◌∷◌, ◌++◌}
use Prim.Native.Nat.{ℕ, ◌-◌, ◌<◌}
use native.Mathlib.Omega.{arith}
use lib.ListN.{length}
use lib.Seq.{take_all}
use Rattle.refusals.specs.Answer.{Answer, value, refused}
use Rattle.refusals.specs.Places.{refused_at}
use Rattle.rules.specs.declared.Ball.{Ball}
use Rattle.rules.specs.Numbers.{M}
use Rattle.rules.specs.Operation.{Operation}
use Rattle.rules.proofs.Reach.{StepRefused, divides, too_far, step_refused, refuses_step, reach_refuses, reach_refused}
use Rattle.formulas.specs.declared.Instruction.{Instruction}
use Rattle.formulas.specs.Formula.{Formula}
use Rattle.formulas.specs.Run.{Walk, finished, stopped, with_values, onward, run}
use Rattle.formulas.specs.Kinds.{Kind}
use Rattle.formulas.specs.GivenInRuns.{Terms, Comes, coming}
use Rattle.formulas.proofs.Walks.{never_stopped, same_values, run_long}
use Rattle.formulas.proofs.GivenInRuns.{Refusing, stop_there, stop_of, there_zero, zero_there, zero_none, no_zero}
use Rattle.cards.specs.Slopes.{largest, all_inputs, slopes_result, slopes_rule, with_slopes, slope_run}
use Rattle.cards.specs.Making.{walked}
use Rattle.cards.specs.GivenInMaking.{MetInRun, seventeen, eleven, SlopesCome, slopes_coming, TooSteep}
use Rattle.cards.proofs.Slopes.{largest_at, inputs_long, slopes_long}
use Rattle.cards.proofs.Tests.{over_m}

-- ---- a run of any kind

module _ {K : Kind} {T : Terms K} (refusing : Refusing K T) (f : Formula) (values : List K.Value) (many : length values ≡ f.header.inputs) where
  abbrev F : ℕ
  F = f.header.scale

  abbrev walk : Walk K.Value
  walk = run (K.rule F) K.nothing f.program values

  abbrev Refuses : Operation K.Value → ℕ → Type 0
  Refuses o n = StepRefused refusing.may_be_zero T.reach o (T.result F o) n

  in_words : {n k : ℕ} (c : Comes K f values k) → Refuses (coming c) n → MetInRun K T f values n k
  in_words c (divides z) = seventeen c (there_zero refusing (coming c) z)
  in_words c (too_far z l) = eleven c (zero_none refusing z) l

  pub stop_met : {n : ℕ} {ws : List K.Value} → walk ≡ stopped n ws → MetInRun K T f values n (length ws - f.header.inputs)
  stop_met {n} {ws} e =
      let x = stop_of (K.rule F) K.nothing f.program values e in
      let o = with_values K.nothing ws x.instruction in
      let long = run_long (K.rule F) K.nothing x.earlier values x.carried_out in
      in_words
      (record {
        earlier = x.earlier;
        instruction = x.instruction;
        later = x.later;
        in_order = x.in_order;
        number = omega (arith, long, many);
        made = ws;
        carried_out = x.carried_out;
      })
      (step_refused refusing.may_be_zero T.reach o (T.result F o) (sym (refusing.steps F o) ∙ x.refuses_it))

  by_words : {n k : ℕ} (c : Comes K f values k) → Refuses (coming c) n → walked f.header.inputs walk ≡ refused_at n k
  by_words {n} {k} c r =
      ap (λ is. walked f.header.inputs (run (K.rule F) K.nothing is values)) c.in_order
      ∙ ap (walked f.header.inputs)
      (stop_there (K.rule F) K.nothing c.earlier c.instruction c.later values c.carried_out
      (refusing.steps F (coming c) ∙ refuses_step refusing.may_be_zero T.reach (coming c) (T.result F (coming c)) r))
      ∙ ap (refused_at n) (omega (arith, run_long (K.rule F) K.nothing c.earlier values c.carried_out, many, c.number))

  pub met_stop : {n k : ℕ} → MetInRun K T f values n k → walked f.header.inputs walk ≡ refused_at n k
  met_stop (seventeen c z) = by_words c (divides (zero_there refusing z))
  met_stop (eleven c z l) = by_words c (too_far (no_zero refusing (coming c) z) l)

-- ---- the slopes

module _ (F m : ℕ) (bs : List Ball) where
  record SlopesStop (is : List Instruction) (ls : List (List ℕ)) (n : ℕ) (ks : List (List ℕ)) : Type 0 where
    earlier : List Instruction
    instruction : Instruction
    later : List Instruction
    in_order : is ≡ earlier ++ instruction ∷ later
    carried_out : slope_run F m bs earlier ls ≡ finished ks
    refuses_it : slopes_rule F m (with_slopes bs ks instruction) ≡ refused n

  slopes_stop_of : (is : List Instruction) (ls : List (List ℕ)) {n : ℕ} {ks : List (List ℕ)} → slope_run F m bs is ls ≡ stopped n ks
      → SlopesStop is ls n ks
  slopes_stop_of [] ls e = absurd (never_stopped (sym e))
  slopes_stop_of (i ∷ is) ls {n} {ks} e = by_rule (slopes_rule F m (with_slopes bs ls i)) refl e (λ v k. slopes_stop_of is (ls ++ v ∷ []) k)
    where
      here : {k : ℕ} → slopes_rule F m (with_slopes bs ls i) ≡ refused k → k ≡ n → ls ≡ ks → SlopesStop (i ∷ is) ls n ks
      here u p q =
          record {
            earlier = [];
            instruction = i;
            later = is;
            in_order = refl;
            carried_out = ap finished q;
            refuses_it = subst (λ (l : List (List ℕ)). slopes_rule F m (with_slopes bs l i) ≡ refused n) q (u ∙ ap refused p);
          }

      by_rule : (a : Answer (List ℕ)) → slopes_rule F m (with_slopes bs ls i) ≡ a → onward ls (λ l. slope_run F m bs is l) a ≡ stopped n ks
          → ((v : List ℕ) → slope_run F m bs is (ls ++ v ∷ []) ≡ stopped n ks → SlopesStop is (ls ++ v ∷ []) n ks) → SlopesStop (i ∷ is) ls n ks
      by_rule (value v) u e rec =
          let s = rec v e in
          record {
            earlier = i ∷ s.earlier;
            instruction = s.instruction;
            later = s.later;
            in_order = ap (λ l. i ∷ l) s.in_order;
            carried_out = ap (onward ls (λ l. slope_run F m bs s.earlier l)) u ∙ s.carried_out;
            refuses_it = s.refuses_it;
          }
      by_rule (refused k) u e rec = here u (cc) (cc)

  slopes_stop_there : (is : List Instruction) (i : Instruction) (after : List Instruction) (ls : List (List ℕ)) {n : ℕ} {ks : List (List ℕ)}
      → slope_run F m bs is ls ≡ finished ks → slopes_rule F m (with_slopes bs ks i) ≡ refused n → slope_run F m bs (is ++ i ∷ after) ls ≡ stopped n ks
  slopes_stop_there [] i after ls {n} {ks} e r =
      subst (λ (l : List (List ℕ)). onward l (λ k. slope_run F m bs after k) (slopes_rule F m (with_slopes bs l i)) ≡ stopped n ks) (sym (same_values e))
      (ap (onward ks (λ k. slope_run F m bs after k)) r)
  slopes_stop_there (j ∷ is) i after ls {n} {ks} e r =
      by_rule (slopes_rule F m (with_slopes bs ls j)) e (λ v k. slopes_stop_there is i after (ls ++ v ∷ []) k r)
    where
      by_rule : (a : Answer (List ℕ)) → onward ls (λ l. slope_run F m bs is l) a ≡ finished ks
          → ((v : List ℕ) → slope_run F m bs is (ls ++ v ∷ []) ≡ finished ks → slope_run F m bs (is ++ i ∷ after) (ls ++ v ∷ []) ≡ stopped n ks)
          → onward ls (λ l. slope_run F m bs (is ++ i ∷ after) l) a ≡ stopped n ks
      by_rule (value v) e rec = rec v e
      by_rule (refused k) e rec = absurd (never_stopped e)

-- a slope is over M exactly where the largest is
too_steep : (l : List ℕ) → M < largest l → TooSteep l
too_steep l h =
    let o = over_m (length l) l (subst (λ (k : List ℕ). M < largest k) (sym (take_all (length l) l (omega arith))) h) in
    record { input = o.index; over = o.over }

steep_over : (l : List ℕ) → TooSteep l → M < largest l
steep_over l t = omega (arith, t.over, largest_at l t.input)

module _ (f : Formula) (bs : List Ball) where
  abbrev slope_walk : Walk (List ℕ)
  slope_walk = slope_run f.header.scale f.header.inputs bs f.program (all_inputs f.header.scale f.header.inputs)

  -- 11, at an instruction whose slopes come to more than M
  pub record Steep (n k : ℕ) : Type 0 where
    pub eleven : n ≡ 11
    pub comes : SlopesCome f bs k
    pub steep : TooSteep (slopes_coming comes)

  pub stop_steep : {n : ℕ} {ks : List (List ℕ)} → slope_walk ≡ stopped n ks → Steep n (length ks - f.header.inputs)
  stop_steep {n} {ks} e =
      let F = f.header.scale in
      let m = f.header.inputs in
      let x = slopes_stop_of F m bs f.program (all_inputs F m) e in
      let r = reach_refused largest (slopes_result F m (with_slopes bs ks x.instruction)) x.refuses_it in
      record {
        eleven = r.0;
        comes =
            record {
              earlier = x.earlier;
              instruction = x.instruction;
              later = x.later;
              in_order = x.in_order;
              number = omega (arith, slopes_long F m bs x.earlier (all_inputs F m) x.carried_out, inputs_long F m 0 m);
              made = ks;
              carried_out = x.carried_out;
            };
        steep = too_steep (slopes_result F m (with_slopes bs ks x.instruction)) r.1;
      }

  pub steep_stop : {k : ℕ} (c : SlopesCome f bs k) → TooSteep (slopes_coming c) → walked f.header.inputs slope_walk ≡ refused_at 11 k
  steep_stop c t =
      let F = f.header.scale in
      let m = f.header.inputs in
      ap (λ is. walked m (slope_run F m bs is (all_inputs F m))) c.in_order
      ∙ ap (walked m)
      (slopes_stop_there F m bs c.earlier c.instruction c.later (all_inputs F m) c.carried_out
      (reach_refuses largest (slopes_coming c) (steep_over (slopes_coming c) t)))
      ∙ ap (refused_at 11) (omega (arith, slopes_long F m bs c.earlier (all_inputs F m) c.carried_out, inputs_long F m 0 m, c.number))
