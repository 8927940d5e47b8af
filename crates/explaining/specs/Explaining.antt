-- Request i as it is computed: a domain cut to a part, one admission of it, the search, and the answer.
use Rattle.std.specs.Prelude.{◌≡◌, List, ℕ, zero, suc, ◌-◌, ◌*◌, ◌≤◌, ◌<◌}
use Rattle.std.specs.declared.option.Option.{Option}
use Rattle.std.specs.declared.option.Option.TheVariants.{None, Some}
use Rattle.std.specs.declared.result.Result.{Result}
use Rattle.std.specs.declared.result.Result.TheVariants.{Ok, Err}
use Rattle.refusals.specs.declared.Refused.{Refused}
use Rattle.refusals.specs.Places.{Verdict}
use Rattle.refusals.specs.Answer.{value, refused}
use Rattle.refusals.specs.Refusals.{refusal_number}
use Rattle.refusals.specs.Places.{Where, Placed, verdict_says}
use Rattle.rules.specs.Numbers.{M}
use Rattle.rules.specs.declared.Matryoshka.{Matryoshka}
use Rattle.rules.specs.Lists.{MatryoshkaLists, matryoshka_lists}
use Rattle.formulas.specs.declared.Header.{Header}
use Rattle.formulas.specs.Formula.{places}
use Rattle.formulas.specs.Readings.{Domain, domain}
use Rattle.formulas.specs.Kinds.{matryoshka_kind, tested}
use Rattle.packed.specs.Meaning.{formula, meant, checked}
use Rattle.matryoshka_walk.specs.declared.DomainJob.{DomainJob}
use Rattle.shrinking.specs.Parts.{all_parts}
use Rattle.shrinking.specs.Explained.{Explanation, nothing_to_explain, admitted_to, never_admitted, admissions, explanation}
use Rattle.explaining.specs.declared.Edge.{Edge}
use Rattle.explaining.specs.declared.Explained.{Explained}
use Rattle.explaining.specs.declared.Explained.TheVariants as explained

-- a matryoshka that a part can be taken of
pub record Cuttable (t : ℕ) (m : Matryoshka) : Type 0 where
  pub a_part : t ≤ all_parts
  pub stray_small : m.stray ≤ M
  pub margin_small : m.margin ≤ M

-- the domain that is looked at, and the lists that are worked in
abbrev pub given_by : DomainJob → Domain
given_by j = domain j.middles.now j.strays.now j.margins.now

abbrev pub worked_in : DomainJob → MatryoshkaLists
worked_in j = matryoshka_lists j.work_middles.now j.work_strays.now j.work_margins.now

-- the formula in s has this header, the domain fits it, and the lists have room for all its values
pub record Searchable (s : List ℕ) (h : Header) (g : Domain) (l : MatryoshkaLists) : Type 0 where
  pub is_formula : checked s ≡ value h
  pub fits : tested matryoshka_kind h.inputs g ≡ value (matryoshka_kind.values g)
  pub room : places h ≤ matryoshka_kind.room l

-- the same, before any list is there
pub record Lookable (s : List ℕ) (h : Header) (g : Domain) : Type 0 where
  pub is_formula : checked s ≡ value h
  pub fits : tested matryoshka_kind h.inputs g ≡ value (matryoshka_kind.values g)

pub record Triable (s : List ℕ) (h : Header) (t : ℕ) (g : Domain) (l : MatryoshkaLists) : Type 0 where
  pub a_part : t ≤ all_parts
  pub searchable : Searchable s h g l

-- the domain at each t
abbrev pub tries : List ℕ → Domain → ℕ → Placed (Unit {0})
tries s g = admissions (meant s) (matryoshka_kind.values g)

-- whether it is admitted at t
pub record Tries (s : List ℕ) (t : ℕ) (g : Domain) (v : Verdict) : Type 0 where
  pub says : verdict_says v ≡ tries s g t

-- where the next one is tried: on either side at most half of what is left
pub record HalfWay (low high t : ℕ) : Type 0 where
  pub from : low ≤ t
  pub below : low < high → t < high
  pub few_under : 2 * (t - low) ≤ high - low
  pub few_over : 2 * (high - suc t) ≤ high - low

-- what was met, as the words have it
abbrev pub where_met : Refused → Where
where_met e = record { number = refusal_number e.why; place = e.place }

-- the first part that is refused, with what it met, or that none is
pub data Refuses (admitted : ℕ → Placed (Unit {0})) : ℕ → Option Refused → Type 0 where
  none_refused : Refuses admitted (suc all_parts) None
  refused_there : {t : ℕ} {e : Refused} → t ≤ all_parts → admitted t ≡ refused (where_met e) → Refuses admitted t (Some e)

-- the part before it is admitted; "at most 9 admissions"
pub record Searches (s : List ℕ) (g : Domain) (e : Edge) : Type 0 where
  pub refuses : Refuses (tries s g) e.first e.met
  pub admitted_before : (t : ℕ) → e.first ≡ suc t → tries s g t ≡ value tt
  pub few : e.admissions ≤ 9

-- what each case of the code's answer stands for
abbrev pub answer_says : Explained → Explanation
answer_says explained.Nothing = nothing_to_explain
answer_says (explained.AdmittedTo t e) = admitted_to t (where_met e)
answer_says (explained.NeverAdmitted e) = never_admitted (where_met e)

abbrev pub explained_says : Result Explained Refused → Placed Explanation
explained_says (Ok r) = value (answer_says r)
explained_says (Err e) = refused (where_met e)

-- the first part that is refused, told by the one before it
abbrev pub told_edge : ℕ → Where → Explanation
told_edge zero w = never_admitted w
told_edge (suc t) w = admitted_to t w

abbrev pub edge_says : ℕ → Option Refused → Explanation
edge_says first None = nothing_to_explain
edge_says first (Some e) = told_edge first (where_met e)

pub record Tells (e : Edge) (r : Explained) : Type 0 where
  pub says : answer_says r ≡ edge_says e.first e.met

-- of a domain that fits
pub record Looks (s : List ℕ) (g : Domain) (r : Explained) : Type 0 where
  pub says : value (answer_says r) ≡ explanation (formula s) g

pub record ExplainsDomain (s : List ℕ) (g : Domain) (r : Result Explained Refused) : Type 0 where
  pub says : explained_says r ≡ explanation (formula s) g
