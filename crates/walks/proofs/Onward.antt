-- How far a walk has come: carrying out what is left from the values made so far gives what the whole gives from the start. One argument for
-- every kind of values and for the slopes. Assumes nothing.
use mathlib.Core.Path.{◌≡◌, refl, sym, ◌∙◌, ap, subst, subst₂}
use mathlib.Core.List.{List, [], ◌∷◌, ◌++◌}
use Prim.Native.Nat.{ℕ, zero, suc, ◌+◌, ◌-◌, ◌*◌, ◌≤◌, ◌<◌}
use native.Mathlib.Omega.{arith}
use lib.ListN.{drop}
use lib.Seq.{drop-drop}
use Rattle.rules.specs.Operation.{Operation}
use Rattle.refusals.specs.Answer.{Answer, value, refused}
use Rattle.bits.specs.declared.Cursor.{Cursor}
use Rattle.bits.specs.Reader.{Read}
use Rattle.bits.specs.Fields.{before}
use Rattle.formulas.specs.declared.Instruction.{Instruction}
use Rattle.packed.specs.Items.{read}
use Rattle.packed.specs.Format.{instruction, several, wide, all_wide, widest}
use Rattle.packed.proofs.Instructions.{wide_most}
use Rattle.formulas.specs.Formula.{Smaller}
use Rattle.lists.specs.Each.{Each, none, one}
use Rattle.packed.specs.Walk.{Readable, Decodes}
use Rattle.refusals.proofs.Answers.{same_value}
use Rattle.formulas.specs.Run.{Walk, finished, stopped, with_values, onward, run}
use Rattle.walks.proofs.Programs.{Program, program_smaller, Split, program_split}

-- instructions are carried out one after another, each by a step from the values so far
pub record Goes {A : Type 0} (go : List Instruction → List A → Walk A) (step : List A → Instruction → Answer A) : Type 0 where
  pub at_end : (vs : List A) → go [] vs ≡ finished vs
  pub by_one : (i : Instruction) (is : List Instruction) (vs : List A) → go (i ∷ is) vs ≡ onward vs (λ ws. go is ws) (step vs i)

-- a run does so, by its rule
pub run_goes : {A : Type 0} (rule : Operation A → Answer A) (d : A) → Goes (run rule d) (λ vs i. rule (with_values d vs i))
run_goes rule d = record { at_end = λ vs. refl; by_one = λ i is vs. refl }

module _ {A : Type 0} (go : List Instruction → List A → Walk A) where
  pub record Onward (s : List ℕ) (F : ℕ) (c₀ c : Cursor) (m l k : ℕ) (vs₀ vs : List A) : Type 0 where
    pub few : k ≤ l
    pub start : Program s F c₀ l m
    pub rest : Program s F c (l - k) (m + k)
    pub same : go rest.all.got vs ≡ go start.all.got vs₀
    pub behind : rest.all.got ≡ drop k start.all.got
    pub last : rest.all.left ≡ start.all.left
    pub near : c.at ≤ c₀.at + widest * k
    pub stands : c.at + all_wide rest.all.got ≡ c₀.at + all_wide start.all.got

-- behind the first of those behind k
one_behind : (l : List Instruction) (k : ℕ) {i : Instruction} {is : List Instruction} → drop k l ≡ i ∷ is → is ≡ drop (k + 1) l
one_behind l k e = ap (drop 1) (sym e) ∙ drop-drop 1 k l

each_drop : {P : ℕ → Instruction → Type 0} (k : ℕ) {v : ℕ} {l : List Instruction} → Each P v l → Each P (v + k) (drop k l)
each_drop {P} zero {v} {l} e = subst (λ (n : ℕ). Each P n l) all e
  where
    all : v ≡ v + 0
    all = omega arith
each_drop (suc k) none = none
each_drop {P} (suc k) {v} (one {more = is} p ps) = subst (λ (n : ℕ). Each P n (drop k is)) next (each_drop k ps)
  where
    next : suc v + k ≡ v + suc k
    next = omega arith

module _ {A : Type 0} {go : List Instruction → List A → Walk A} {step : List A → Instruction → Answer A} (g : Goes go step) where
  -- the same instructions, with their number and the first value's number written another way
  abbrev renamed : {s : List ℕ} {F : ℕ} {c : Cursor} {n v k w : ℕ} → n ≡ k → v ≡ w → Program s F c n v → Program s F c k w
  renamed {s} {F} {c} e f p = record { all = p.all; reads = subst₂ (λ (k w : ℕ). read (several (instruction F) k w) (before s c) ≡ value p.all) e f p.reads }

  pub onward_start : {s : List ℕ} {F : ℕ} {c : Cursor} {m l : ℕ} (vs : List A) → Program s F c l m → Onward go s F c c m l 0 vs vs
  onward_start {s} {F} {c} {m} {l} vs p = record { few = omega arith; start = p; rest = renamed all first p; same = refl; behind = refl; last = refl; near = omega arith; stands = refl }
    where
      all : l ≡ l - 0
      all = omega arith

      first : m ≡ m + 0
      first = omega arith

  -- nothing is left to read
  none_left : {s : List ℕ} {F : ℕ} {c₀ c : Cursor} {m l k : ℕ} {vs₀ vs : List A} (o : Onward go s F c₀ c m l k vs₀ vs) → k ≡ l
      → ◌≡◌ {A = Answer (Read (List Instruction))} (value (record { got = []; left = before s c })) (value o.rest.all)
  unfolding several
  none_left {s} {F} {c} {m} {l} {k} o e = subst (λ (n : ℕ). read (several (instruction F) n (m + k)) (before s c) ≡ value o.rest.all) zero_left o.rest.reads
    where
      zero_left : l - k ≡ 0
      zero_left = omega arith

  -- what the walk gives is what the whole run gives
  pub onward_ends : {s : List ℕ} {F : ℕ} {c₀ c : Cursor} {m l k : ℕ} {vs₀ vs : List A} (o : Onward go s F c₀ c m l k vs₀ vs) → k ≡ l → go o.start.all.got vs₀ ≡ finished vs
  onward_ends {vs} o e =
      sym o.same ∙ ap (λ (is : List Instruction). go is vs) (sym (ap (λ (r : Read (List Instruction)). r.got) (same_value (none_left o e))))
      ∙ g.at_end vs

  -- and it stands after the instructions, however they were read
  pub onward_stands : {s : List ℕ} {F : ℕ} {c₀ c : Cursor} {m l k : ℕ} {vs₀ vs : List A} (o : Onward go s F c₀ c m l k vs₀ vs)
      {x : Read (List Instruction)} → k ≡ l → read (several (instruction F) l m) (before s c₀) ≡ value x
      → (before s c ≡ x.left) × (c.at ≡ c₀.at + all_wide x.got)
  onward_stands {s} {F} {c₀} {c} {m} {l} {k} o {x} e r =
      let none = same_value (none_left o e) in
      let same = same_value (sym o.start.reads ∙ r) in (
        ap (λ (r : Read (List Instruction)). r.left) none ∙ o.last ∙ ap (λ (r : Read (List Instruction)). r.left) same,
        omega (
          arith,
          o.stands,
          ap (λ (r : Read (List Instruction)). all_wide r.got) none,
          ap (λ (r : Read (List Instruction)). all_wide r.got) same,
        ),
      )

  module _ {s : List ℕ} {F : ℕ} {c₀ c : Cursor} {m l k : ℕ} {vs₀ vs : List A} (o : Onward go s F c₀ c m l k vs₀ vs) (less : k < l) where
    split : Split s F c (l - (k + 1)) (m + k) o.rest.all
    split = program_split (renamed one_left refl o.rest)
      where
        one_left : l - k ≡ suc (l - (k + 1))
        one_left = omega arith

    pub onward_readable : Readable s c
    onward_readable = record { scale = F; below = m + k; all = split.here; reads = split.reads_here }

    module _ {i : Instruction} {e : Cursor} (decodes : Decodes s c i e) where
      is_here : i ≡ split.here.got
      is_here = (decodes.decoded F (m + k) split.here split.reads_here).0

      head : {P : ℕ → Instruction → Type 0} → Each P (m + k) o.rest.all.got → P (m + k) i
      head {P} e = subst (P (m + k)) (sym is_here) (first (subst (Each P (m + k)) split.both e))
        where
          first : {v : ℕ} {j : Instruction} {js : List Instruction} → Each P v (j ∷ js) → P v j
          first (one p ps) = p

      pub onward_smaller : Smaller F (m + k) i
      onward_smaller = head (program_smaller o.rest)

      -- what holds of each instruction holds of the next one
      pub onward_each : {P : ℕ → Instruction → Type 0} → Each P m o.start.all.got → P (m + k) i
      onward_each {P} e = head (subst (Each P (m + k)) (sym o.behind) (each_drop k e))

      by_step : (a : Answer A) → step vs i ≡ a → go o.start.all.got vs₀ ≡ onward vs (λ ws. go split.rest.got ws) a
      by_step a r =
          sym o.same ∙ ap (λ (is : List Instruction). go is vs) split.both
          ∙ g.by_one split.here.got split.rest.got vs
          ∙ ap (λ (j : Instruction). onward vs (λ ws. go split.rest.got ws) (step vs j)) (sym is_here)
          ∙ ap (onward vs (λ ws. go split.rest.got ws)) r

      pub onward_stops : {n : ℕ} → step vs i ≡ refused n → go o.start.all.got vs₀ ≡ stopped n vs
      onward_stops {n} r = by_step (refused n) r

      pub onward_more : {v : A} → step vs i ≡ value v → Onward go s F c₀ e m l (k + 1) vs₀ (vs ++ v ∷ [])
      onward_more {v} r =
          record {
            few = omega arith;
            start = o.start;
            rest =
                record {
                  all = split.rest;
                  reads =
                      subst₂ (λ (w : ℕ) (bs : List ℕ). read (several (instruction F) (l - (k + 1)) w) bs ≡ value split.rest) next
                      (sym (decodes.decoded F (m + k) split.here split.reads_here).1) split.reads_rest;
                };
            same = sym (by_step (value v) r);
            behind = one_behind o.start.all.got k (sym o.behind ∙ split.both);
            last = split.last ∙ o.last;
            near = omega (arith, decodes.stands, wide_most i, o.near);
            stands = omega (arith, decodes.stands, o.stands, ap all_wide split.both, ap wide is_here);
          }
        where
          next : suc (m + k) ≡ m + (k + 1)
          next = omega arith
