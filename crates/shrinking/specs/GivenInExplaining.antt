-- Request i, each answer's words, about the admit job itself: on the domain at t, in lists that are long enough.
use Rattle.std.specs.Prelude.{List, ℕ, suc, ◌≤◌, ◌<◌}
use Rattle.refusals.specs.Answer.{Answer, value, refused}
use Rattle.refusals.specs.Places.{Where, Placed}
use Rattle.rules.specs.declared.Matryoshka.{Matryoshka}
use Rattle.formulas.specs.Formula.{Formula}
use Rattle.formulas.specs.Readings.{Domain}
use Rattle.formulas.specs.Kinds.{matryoshka_kind}
use Rattle.formulas.specs.Job.{Result, refused_first, stopped_at, done, job}
use Rattle.shrinking.specs.Parts.{all_parts, domain_at}
use Rattle.shrinking.specs.Explained.{Explanation, nothing_to_explain, admitted_to, never_admitted}

-- lists that are long enough for every formula: 16 inputs and 512 instructions, 16 outputs
pub record LongEnough (work output : ℕ) : Type 0 where
  pub for_values : 528 ≤ work
  pub for_outputs : 16 ≤ output

-- the job accepts
pub data Accepts : Result Matryoshka → Type 0 where
  accepts : {vs os : List Matryoshka} → Accepts (done vs os)

-- a step of the job meets a refusal: which, and at which instruction
pub data Meets : Where → Result Matryoshka → Type 0 where
  meets : {n k : ℕ} {vs : List Matryoshka} → Meets (record { number = n; place = k }) (stopped_at k n vs)

-- the job is refused before any step
pub data Bars : Where → Result Matryoshka → Type 0 where
  bars : {n k : ℕ} → Bars (record { number = n; place = k }) (refused_first n k)

module _ (a : Answer Formula) (g : Domain) (work output : ℕ) where
  -- the admit job on the domain at t
  abbrev pub admit_at : ℕ → Result Matryoshka
  admit_at t = job matryoshka_kind a (domain_at t g) work output

  abbrev pub RefusedAt : ℕ → Type 0
  RefusedAt t = (w : Where) × Meets w (admit_at t)

  -- "reading refusals, then 13 to 15" · "an accepted domain is answered 'nothing to explain'" · "the largest t that is
  -- admitted, and the refusal and instruction met at t+1", "admitted at that t, refused at each greater one" · "even
  -- t = 0 is refused, with that refusal and instruction"
  pub data Explains : Placed Explanation → Type 0 where
    barred : {w : Where} → Bars w (job matryoshka_kind a g work output) → Explains (refused w)
    admitted_itself : Accepts (job matryoshka_kind a g work output) → Explains (value nothing_to_explain)
    largest : {t : ℕ} {w : Where} → t < all_parts → Accepts (admit_at t)
        → ((u : ℕ) → t < u → u ≤ all_parts → RefusedAt u) → Meets w (admit_at (suc t))
        → Explains (value (admitted_to t w))
    none : {w : Where} → ((u : ℕ) → u ≤ all_parts → RefusedAt u) → Meets w (admit_at 0)
        → Explains (value (never_admitted w))
