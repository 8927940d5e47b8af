-- The explanation is what the request's words ask for, and no other answer is. Assumes nothing.
use mathlib.Core.Path.{◌≡◌, refl, sym, ◌∙◌, ap, ap₂, subst}
use mathlib.Core.List.{List}
use Prim.Native.Nat.{ℕ, zero, suc, ◌-◌, ◌≤◌}
use native.Mathlib.Nat.{le_refl}
use native.Mathlib.Omega.{arith}
use lib.ListN.{length}
use Rattle.refusals.specs.Answer.{Answer, value, refused, then}
use Rattle.refusals.specs.Places.{Where, Placed, refused_at, elsewhere}
use Rattle.refusals.proofs.Answers.{no_value, refused_same, then_value, then_refused}
use Rattle.rules.specs.declared.Matryoshka.{Matryoshka}
use Rattle.rules.specs.Matryoshki.{matryoshka_rule}
use Rattle.rules.specs.Lists.{no_matryoshka}
use Rattle.formulas.specs.Formula.{Formula, WellFormed}
use Rattle.formulas.specs.Run.{Walk, finished, stopped, run}
use Rattle.formulas.specs.Readings.{Domain}
use Rattle.formulas.specs.Kinds.{matryoshka_kind, tested}
use Rattle.formulas.specs.Job.{start, Result, refused_first, stopped_at, done, walk_ended, job}
use Rattle.formulas.proofs.Lawful.{matryoshka_lawful}
use Rattle.formulas.proofs.Jobs.{start_is, job_refused, job_started}
use Rattle.shrinking.specs.Parts.{all_parts, narrowed_all, domain_at}
use Rattle.shrinking.specs.Explained.{Explanation, met_in, admission, admissions, at_part, largest_below, if_refused, explained, explanation}
use Rattle.shrinking.specs.GivenInExplaining.{LongEnough, Accepts, accepts, Meets, meets, Bars, bars, admit_at, RefusedAt}
use Rattle.shrinking.specs.GivenInExplaining.{Explains, barred, admitted_itself, largest, none}
use Rattle.shrinking.proofs.Falls.{Falls, refused_above, found, found_none, found_all}
use Rattle.shrinking.proofs.Parts.{falls, tested_at, domain_whole}

-- ---- how a job ended is one of three

accepts_is : {r : Result Matryoshka} → Accepts r → (vs : List Matryoshka) × (os : List Matryoshka) × (r ≡ done vs os)
accepts_is (accepts {vs} {os}) = (vs, os, refl)

meets_is : {w : Where} {r : Result Matryoshka} → Meets w r → (vs : List Matryoshka) × (r ≡ stopped_at w.place w.number vs)
meets_is (meets {vs = vs}) = (vs, refl)

bars_is : {w : Where} {r : Result Matryoshka} → Bars w r → r ≡ refused_first w.number w.place
bars_is bars = refl

not_accepts : {n k : ℕ} {r : Result Matryoshka} → r ≡ refused_first n k → Accepts r → ⊥
not_accepts e a = let p = (accepts_is a).2 in let z : ◌≡◌ {A = ℕ} 0 1 = cc in omega arith

not_meets : {n k : ℕ} {w : Where} {r : Result Matryoshka} → r ≡ refused_first n k → Meets w r → ⊥
not_meets e m = let p = (meets_is m).1 in let z : ◌≡◌ {A = ℕ} 0 1 = cc in omega arith

-- ---- what a walk met, as the job tells it

module _ (f : Formula) where
  abbrev ended : Walk Matryoshka → Result Matryoshka
  ended w = walk_ended no_matryoshka f w

  walk_accepts : (w : Walk Matryoshka) → met_in f.header.inputs w ≡ value tt → Accepts (ended w)
  walk_accepts (finished vs) e = accepts
  walk_accepts (stopped n vs) e = absurd (no_value e)

  accepts_walk : (w : Walk Matryoshka) → Accepts (ended w) → met_in f.header.inputs w ≡ value tt
  accepts_walk (finished vs) a = refl
  accepts_walk (stopped n vs) a = absurd (let p = (accepts_is a).2 in let z : ◌≡◌ {A = ℕ} 0 1 = cc in omega arith)

  walk_meets : (w : Walk Matryoshka) {v : Where} → met_in f.header.inputs w ≡ refused v → Meets v (ended w)
  walk_meets (finished vs) e = absurd (no_value (sym e))
  walk_meets (stopped n vs) e = subst (λ (v : Where). Meets v (stopped_at (length vs - f.header.inputs) n vs)) (refused_same e) meets

  meets_walk : (w : Walk Matryoshka) {v : Where} → Meets v (ended w) → met_in f.header.inputs w ≡ refused v
  meets_walk (finished vs) m = absurd (let p = (meets_is m).1 in let z : ◌≡◌ {A = ℕ} 0 1 = cc in omega arith)
  meets_walk (stopped n vs) {v} m =
      let p = (meets_is m).1 in
      let k : length vs - f.header.inputs ≡ v.place = cc in
      let same : n ≡ v.number = cc in
      ap₂ refused_at same k

  not_barred : (w : Walk Matryoshka) {v : Where} → Bars v (ended w) → ⊥
  not_barred (finished vs) b = let p = bars_is b in let z : ◌≡◌ {A = ℕ} 0 1 = cc in omega arith
  not_barred (stopped n vs) b = let p = bars_is b in let z : ◌≡◌ {A = ℕ} 0 1 = cc in omega arith

-- ---- the job, the formula and the domain having passed

-- at 256 the job is on the domain itself
whole_is : (a : Answer Formula) (g : Domain) (work output : ℕ) → admit_at a g work output all_parts ≡ job matryoshka_kind a g work output
whole_is a g work output = ap (λ (k : Domain). job matryoshka_kind a k work output) (domain_whole g)

-- the file holds f, and the domain is ms
record Opened (a : Answer Formula) (g : Domain) (f : Formula) (ms : List Matryoshka) : Type 0 where
  means : a ≡ value f
  formed : WellFormed f
  fits : tested matryoshka_kind f.header.inputs g ≡ value ms

module _ {a : Answer Formula} {g : Domain} {work output : ℕ} (long : LongEnough work output) {f : Formula} {ms : List Matryoshka}
    (o : Opened a g f ms) where
  abbrev walk_at : ℕ → Walk Matryoshka
  walk_at t = run (matryoshka_rule f.header.scale) no_matryoshka f.program (narrowed_all t ms)

  admit_is : (t : ℕ) → t ≤ all_parts → admit_at a g work output t ≡ ended f (walk_at t)
  admit_is t l =
      job_started matryoshka_kind a (domain_at t g) work output
      (start_is matryoshka_kind a (domain_at t g) work output {st = record { formula = f; values = narrowed_all t ms }}
      (record {
        means = o.means;
        fits = tested_at f.header.inputs g o.fits l;
        work_room = omega (arith, o.formed.limits.inputs_few, o.formed.limits.instructions_few, long.for_values);
        output_room = omega (arith, o.formed.limits.outputs_few, long.for_outputs);
      }))

  admits : (t : ℕ) → t ≤ all_parts → admissions f ms t ≡ value tt → Accepts (admit_at a g work output t)
  unfolding admission
  admits t l e = subst Accepts (sym (admit_is t l)) (walk_accepts f (walk_at t) e)

  admitted : (t : ℕ) → t ≤ all_parts → Accepts (admit_at a g work output t) → admissions f ms t ≡ value tt
  unfolding admission
  admitted t l e = accepts_walk f (walk_at t) (subst Accepts (admit_is t l) e)

  refuses : (t : ℕ) {w : Where} → t ≤ all_parts → admissions f ms t ≡ refused w → Meets w (admit_at a g work output t)
  unfolding admission
  refuses t {w} l e = subst (Meets w) (sym (admit_is t l)) (walk_meets f (walk_at t) e)

  refused_by : (t : ℕ) {w : Where} → t ≤ all_parts → Meets w (admit_at a g work output t) → admissions f ms t ≡ refused w
  unfolding admission
  refused_by t {w} l e = meets_walk f (walk_at t) (subst (Meets w) (admit_is t l) e)

  not_first : {w : Where} → Bars w (job matryoshka_kind a g work output) → ⊥
  not_first {w} b = not_barred f (walk_at all_parts) (subst (Bars w) (sym (whole_is a g work output) ∙ admit_is all_parts (le_refl all_parts)) b)

  fall : Falls (admissions f ms)
  fall = falls o.formed ms (matryoshka_lawful.tested_values f.header.inputs g o.fits).many

  -- all from t on are refused, since t is
  refused_from : (t : ℕ) {w : Where} → admissions f ms t ≡ refused w → (u : ℕ) → t ≤ u → u ≤ all_parts → RefusedAt a g work output u
  refused_from t e u l k = let v = refused_above fall l e in (v.0, refuses u k v.1)

  -- from n down, n having met this
  search_explains : (n : ℕ) (met : Where) → n ≤ all_parts → admissions f ms n ≡ refused met
      → Explains a g work output (value (largest_below (admissions f ms) n met))
  search_explains zero met l e = none (λ u k. refused_from 0 e u (omega arith) k) (refuses 0 l e)
  search_explains (suc n) met l e = by_next (admissions f ms n) refl (λ w k. search_explains n w (omega arith) k)
    where
      by_next : (x : Placed (Unit {0})) → admissions f ms n ≡ x
          → ((w : Where) → admissions f ms n ≡ refused w → Explains a g work output (value (largest_below (admissions f ms) n w)))
          → Explains a g work output (value (at_part n met (λ w. largest_below (admissions f ms) n w) x))
      by_next (value x) k rec = largest {t = n} (omega arith) (admits n (omega arith) k) (λ u p q. refused_from (suc n) e u p q) (refuses (suc n) l e)
      by_next (refused w) k rec = rec w k

  explains_found : Explains a g work output (value (explained (admissions f ms)))
  unfolding explained
  explains_found = by_whole (admissions f ms all_parts) refl
    where
      by_whole : (x : Placed (Unit {0})) → admissions f ms all_parts ≡ x
          → Explains a g work output (value (if_refused (λ w. largest_below (admissions f ms) all_parts w) x))
      by_whole (value x) k = admitted_itself (subst Accepts (whole_is a g work output) (admits all_parts (le_refl all_parts) k))
      by_whole (refused w) k = search_explains all_parts w (le_refl all_parts) k

  found_explains : {x : Placed Explanation} → Explains a g work output x → value (explained (admissions f ms)) ≡ x
  found_explains (barred b) = absurd (not_first b)
  found_explains (admitted_itself e) =
      ap value (found_all (admissions f ms) (admitted all_parts (le_refl all_parts) (subst Accepts (sym (whole_is a g work output)) e)))
  found_explains (largest {t = t} l e above m) = ap value (found fall l (admitted t (omega arith) e) (refused_by (suc t) l m))
  found_explains (none all m) = ap value (found_none fall (refused_by 0 (omega arith) m))

-- ---- every answer

-- refused before any step, for the file or for the domain; or both passed
data Opening (a : Answer Formula) (g : Domain) (work output : ℕ) : Type 0 where
  shut : {w : Where} → job matryoshka_kind a g work output ≡ refused_first w.number w.place → explanation a g ≡ refused w → Opening a g work output
  opened : {f : Formula} {ms : List Matryoshka} → Opened a g f ms → explanation a g ≡ value (explained (admissions f ms)) → Opening a g work output

opening : {a : Answer Formula} → ((f : Formula) → a ≡ value f → WellFormed f) → (g : Domain) (work output : ℕ) → Opening a g work output
unfolding start explanation
opening {a} formed g work output = by_formula a refl
  where
    at_tests : Formula → Placed Explanation
    at_tests f = then (tested matryoshka_kind f.header.inputs g) (λ ms. value (explained (admissions f ms)))

    by_tests : (f : Formula) → a ≡ value f → (x : Placed (List Matryoshka)) → tested matryoshka_kind f.header.inputs g ≡ x → Opening a g work output
    by_tests f e (value ms) k =
        opened (record { means = e; formed = formed f e; fits = k })
        (then_value at_tests (ap elsewhere e) ∙ then_value (λ ms. value (explained (admissions f ms))) k)
    by_tests f e (refused w) k =
        shut (job_refused matryoshka_kind a g work output (then_value _ (ap elsewhere e) ∙ then_refused _ k))
        (then_value at_tests (ap elsewhere e) ∙ then_refused (λ ms. value (explained (admissions f ms))) k)

    by_formula : (b : Answer Formula) → a ≡ b → Opening a g work output
    by_formula (value f) e = by_tests f e (tested matryoshka_kind f.header.inputs g) refl
    by_formula (refused n) e =
        shut (job_refused matryoshka_kind a g work output (then_refused _ (ap elsewhere e))) (then_refused at_tests (ap elsewhere e))

module _ {a : Answer Formula} {g : Domain} {work output : ℕ} (formed : (f : Formula) → a ≡ value f → WellFormed f) (long : LongEnough work output) where
  pub explanation_explains : Explains a g work output (explanation a g)
  explanation_explains = by_opening (opening formed g work output)
    where
      by_opening : Opening a g work output → Explains a g work output (explanation a g)
      by_opening (shut {w} j e) = subst (Explains a g work output) (sym e) (barred {w = w} (subst (Bars w) (sym j) bars))
      by_opening (opened o e) = subst (Explains a g work output) (sym e) (explains_found long o)

  pub explains_explanation : {x : Placed Explanation} → Explains a g work output x → explanation a g ≡ x
  explains_explanation {x} p = by_opening (opening formed g work output)
    where
      -- a job that is refused first has no step that meets anything
      no_step : {n k : ℕ} → job matryoshka_kind a g work output ≡ refused_first n k → RefusedAt a g work output all_parts → ⊥
      no_step j m = not_meets (whole_is a g work output ∙ j) m.1

      by_words : {w : Where} {x : Placed Explanation} → job matryoshka_kind a g work output ≡ refused_first w.number w.place
          → Explains a g work output x → refused w ≡ x
      by_words {w} j (barred {w = v} b) =
          let k = bars_is b in
          let number : w.number ≡ v.number = cc in
          let place : w.place ≡ v.place = cc in
          ap₂ refused_at number place
      by_words j (admitted_itself e) = absurd (not_accepts j e)
      by_words j (largest l e above m) = absurd (no_step j (above all_parts l (le_refl all_parts)))
      by_words j (none all m) = absurd (no_step j (all all_parts (le_refl all_parts)))

      by_opening : Opening a g work output → explanation a g ≡ x
      by_opening (shut j e) = e ∙ by_words j p
      by_opening (opened o e) = e ∙ found_explains long o p

  -- two answers that the words allow are equal
  pub explains_one : {x y : Placed Explanation} → Explains a g work output x → Explains a g work output y → x ≡ y
  explains_one p q = sym (explains_explanation p) ∙ explains_explanation q
