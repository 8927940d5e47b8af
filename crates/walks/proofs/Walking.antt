-- A walk and what its lists hold: as it begins, with one value more, and as it ends. One argument for every kind of values. Assumes nothing.
use mathlib.Core.Path.{◌≡◌, refl, sym, ◌∙◌, ap, subst}
use mathlib.Core.List.{List, [], ◌∷◌, ◌++◌}
use Prim.Native.Nat.{ℕ, ◌+◌, ◌-◌, ◌*◌, ◌^◌, ◌≤◌, ◌<◌}
use native.Mathlib.Omega.{arith}
use lib.ListN.{length, length-append}
use mir.Syntax.{w64}
use mir.Val.{Fits}
use Rattle.std.specs.declared.result.Result.{Result}
use Rattle.std.specs.declared.result.Result.TheVariants.{Ok, Err}
use Rattle.refusals.specs.Places.{because, meant_bare}
use Rattle.lists.specs.All.{All}
use Rattle.lists.specs.Each.{Each}
use Rattle.lists.proofs.Each.{all_behind}
use Rattle.refusals.specs.declared.Refusal.{Refusal}
use Rattle.refusals.specs.Refusals.{refusal_number}
use Rattle.refusals.specs.Answer.{Answer, value}
use Rattle.refusals.specs.Said.{refuses}
use Rattle.refusals.proofs.Answers.{same_value}
use Rattle.bits.specs.declared.Cursor.{Cursor}
use Rattle.bits.specs.Reader.{Read}
use Rattle.bits.specs.Fields.{before}
use Rattle.formulas.specs.declared.Header.{Header}
use Rattle.formulas.specs.declared.Instruction.{Instruction}
use Rattle.formulas.specs.Formula.{places}
use Rattle.formulas.specs.Run.{Walk, with_values, run, made_by, walk_end}
use Rattle.formulas.specs.Kinds.{Kind, Puts}
use Rattle.formulas.specs.Lawful.{Lawful}
use Rattle.packed.specs.Items.{read}
use Rattle.packed.specs.Format.{results, all_wide}
use Rattle.packed.specs.Meaning.{meant}
use Rattle.packed.specs.Walk.{Readable, Decodes, DecodesFrom}
use Rattle.packed.specs.declared.loaded.Loaded.{Loaded}
use Rattle.packed.specs.Loading.{place_of, Loads}
use Rattle.packed.proofs.Shapes.{decodes_place, readable_place}
use Rattle.packed.proofs.Formed.{Formed, formed, limits_of}
use Rattle.walks.specs.Walks.{Walkable, AtOutputs, walk_of, Walks, Steppable, Stepped}
use Rattle.walks.proofs.Onward.{Goes, run_goes, Onward, onward_start, onward_readable, onward_smaller, onward_each, onward_more}
use Rattle.walks.proofs.Onward.{onward_stops, onward_ends, onward_stands}

-- the instructions follow the header's 32 bits
abbrev pub first : Cursor
first = record { at = 32 }

-- what has been walked is a checked formula's instructions, for any step from the values so far
module _ {A : Type 0} {go : List Instruction → List A → Walk A} {step : List A → Instruction → Answer A} (g : Goes go step) {s : List ℕ} {h : Header}
    {c : Cursor} {k : ℕ} {vs₀ vs : List A} (f : Formed s h) (o : Onward go s h.scale first c h.inputs h.instructions k vs₀ vs) where
  -- the cursor is near the start, so that its place is small
  pub formula_near : c.at ≤ 2 ^ 20
  formula_near = omega (arith, o.near, o.few, (limits_of f).instructions_few)

  -- the value that the next instruction makes has a small number, and so has the instruction
  pub formula_small : h.inputs + k ≤ 528
  formula_small = omega (arith, o.few, (limits_of f).instructions_few, (limits_of f).inputs_few)

  is_start : (meant s).program ≡ o.start.all.got
  is_start = sym f.is_program ∙ ap (λ (r : Read (List Instruction)). r.got) (same_value (sym f.reads_instructions ∙ o.start.reads))

  -- the whole run, once the rest of it is known
  pub formula_whole : {r : Walk A} → go o.start.all.got vs₀ ≡ r → go (meant s).program vs₀ ≡ r
  formula_whole e = ap (λ (is : List Instruction). go is vs₀) is_start ∙ e

  -- what holds of each instruction of the formula holds of the next one
  pub formula_each : {P : ℕ → Instruction → Type 0} {i : Instruction} {e : Cursor} → k < h.instructions → Decodes s c i e
      → Each P h.inputs (meant s).program → P (h.inputs + k) i
  formula_each {P} less decodes a = onward_each g o less decodes (subst (Each P h.inputs) is_start a)

  pub formula_stands : k ≡ h.instructions → AtOutputs s c
  formula_stands e =
      let a = onward_stands g o e f.reads_instructions in
      record {
        stands = a.1 ∙ ap (λ is. first.at + all_wide is) f.is_program;
        near = formula_near;
        all = f.outputs;
        reads =
            subst (λ (g : Header). read (results g.outputs (places g)) (before s c) ≡ value f.outputs) (sym f.is_header)
            (subst (λ (bs : List ℕ). read (results h.outputs (places h)) bs ≡ value f.outputs) (sym a.0) f.reads_outputs);
        are = f.are_results;
      }

-- k instructions were carried out: the values made so far are legal, and the lists hold them
pub record Walking (K : Kind) (s : List ℕ) (h : Header) (c : Cursor) (k : ℕ) (old now : K.Lists) : Type 0 where
  pub formula_there : Formed s h
  pub room : places h ≤ K.room old
  pub values : List K.Value
  pub onward : Onward (run (K.rule h.scale) K.nothing) s h.scale first c h.inputs h.instructions k (K.front h.inputs old) values
  pub legal : All K.Legal values
  pub many : length values ≡ h.inputs + k
  pub holds : K.Holds values old now

module _ {K : Kind} (law : Lawful K) {s : List ℕ} {h : Header} where
  pub walking_start : {l : K.Lists} → Walkable K s h l → Walking K s h first 0 l l
  walking_start {l} w =
      let f = formed s w.is_formula in
      let r : h.inputs ≤ K.room l = omega (arith, w.room) in
      record {
        formula_there = f;
        room = w.room;
        values = K.front h.inputs l;
        onward = onward_start (run_goes (K.rule h.scale) K.nothing) (K.front h.inputs l) (record { all = f.instructions; reads = f.reads_instructions });
        legal = w.legal;
        many = omega (arith, law.front_many h.inputs l r);
        holds = law.holds_front h.inputs l r;
      }

  module _ {c : Cursor} {k : ℕ} {old now : K.Lists} (w : Walking K s h c k old now) where
    few : k ≤ h.instructions
    few = w.onward.few

    goes : Goes (run (K.rule h.scale) K.nothing) (λ vs i. K.rule h.scale (with_values K.nothing vs i))
    goes = run_goes (K.rule h.scale) K.nothing

    small : h.inputs + k ≤ 528
    small = formula_small goes w.formula_there w.onward

    pub walking_made : Fits w64 (h.inputs + k)
    walking_made = record { fits = omega (arith, small) }

    pub walking_offset : Fits w64 ((h.inputs + k) * 8)
    walking_offset = record { fits = omega (arith, small) }

    pub walking_next : Fits w64 (k + 1)
    walking_next = record { fits = omega (arith, small) }

    pub walking_values : length w.values ≤ K.room old
    walking_values = omega (arith, w.many, few, w.room)

    pub walking_room : K.room now ≡ K.room old
    walking_room = law.room_holds w.values old now walking_values w.holds

    seen : K.front (h.inputs + k) now ≡ w.values
    seen = law.front_holds w.values (h.inputs + k) old now w.many w.holds

    whole : {r : Walk K.Value} → run (K.rule h.scale) K.nothing w.onward.start.all.got (K.front h.inputs old) ≡ r
        → walk_of K s h old ≡ r
    whole e = formula_whole goes w.formula_there w.onward e

    leaves : {r : Walk K.Value} → made_by r ≡ w.values → walk_of K s h old ≡ r → K.Holds (made_by (walk_of K s h old)) old now
    leaves m e = subst (λ (vs : List K.Value). K.Holds vs old now) (sym (ap made_by e ∙ m)) w.holds

    pub walking_ends : h.instructions ≤ k → Walks K s h old now (Ok c)
    walking_ends l =
        let e : k ≡ h.instructions = omega (arith, few) in
        let r = whole (onward_ends goes w.onward e) in
        record { says = sym (ap (walk_end h.inputs) r); holds = leaves refl r; stands = formula_stands goes w.formula_there w.onward e }

    module _ (next : k < h.instructions) where
      pub walking_inside : h.inputs + k < K.room now
      walking_inside = omega (arith, next, w.room, walking_room)

      pub walking_within : c.at ≤ 2 ^ 30
      walking_within = omega (arith, formula_near goes w.formula_there w.onward)

      pub walking_readable : {l : Loaded} → Loads s c l → Readable s (place_of l)
      walking_readable o = readable_place o (onward_readable goes w.onward next)

      module _ {l : Loaded} (loads : Loads s c l) {i : Instruction} {e : Cursor} (from : DecodesFrom s l i e) where
        decodes : Decodes s c i e
        decodes = decodes_place loads from

        pub walking_steps : Steppable K h.scale i (h.inputs + k) now
        walking_steps =
            record {
              scale_small = (limits_of w.formula_there).scale_small;
              smaller = onward_smaller goes w.onward next decodes;
              room = omega (arith, walking_inside);
              legal = subst (All K.Legal) (sym seen) w.legal;
            }

        stepped : {a : Answer K.Value} → Stepped K h.scale i (h.inputs + k) now a
            → K.rule h.scale (with_values K.nothing w.values i) ≡ a
        stepped e = sym (e.by_rule ∙ ap (λ (vs : List K.Value). K.rule h.scale (with_values K.nothing vs i)) seen)

        pub walking_stops : {V : Type 0} (f : V → K.Value) {a : Result V Refusal} {q : Refusal} → Stepped K h.scale i (h.inputs + k) now (meant_bare f a)
            → a ≡ Err q → Walks K s h old now (Err (because q k))
        walking_stops f {q = q} t u =
            let r = whole (onward_stops goes w.onward next decodes (stepped t ∙ ap (meant_bare f) u)) in
            record { says = ap (refuses (refusal_number q)) place ∙ sym (ap (walk_end h.inputs) r); holds = leaves refl r; stands = tt }
          where
            place : k ≡ length w.values - h.inputs
            place = omega (arith, w.many)

        pub walking_more : {V : Type 0} (f : V → K.Value) {a : Result V Refusal} {x : V} {new : K.Lists}
            → Stepped K h.scale i (h.inputs + k) now (meant_bare f a) → a ≡ Ok x → Puts K (h.inputs + k) (f x) now new → Walking K s h e (k + 1) old new
        walking_more f {x = x} {new = new} t u p =
            let v = f x in
            let r = stepped t ∙ ap (meant_bare f) u in
            let legal = law.rule_legal h.scale (with_values K.nothing w.values i) r in
            record {
              formula_there = w.formula_there;
              room = w.room;
              values = w.values ++ v ∷ [];
              onward = onward_more goes w.onward next decodes r;
              legal = all_behind w.legal legal;
              many = omega (arith, length-append w.values (v ∷ []), w.many);
              holds =
                  law.holds_over w.values (w.values ++ v ∷ []) old now new (omega (arith, length-append w.values (v ∷ []))) w.holds
                  (subst (λ (vs : List K.Value). K.Holds (vs ++ v ∷ []) now new) seen p.holds);
            }
