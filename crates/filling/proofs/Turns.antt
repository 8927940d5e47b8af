-- A turn of reading the instructions back: what is left to read at the cursor is what is left of the program, and the
-- one that is decoded is its next. Assumes nothing.
use mathlib.Core.Path.{◌≡◌, refl, sym, ◌∙◌, ap, subst, subst₂}
use mathlib.Core.List.{List, ◌∷◌}
use Prim.Native.Nat.{ℕ, suc, ◌+◌, ◌-◌, ◌*◌, ◌^◌, ◌≤◌, ◌<◌}
use native.Mathlib.Numerals.{add-one}
use native.Mathlib.Omega.{arith}
use lib.ListN.{length, get_or, drop}
use lib.Seq.{drop-cons}
use Rattle.lists.specs.Each.{Each, one}
use Rattle.refusals.specs.Answer.{value}
use Rattle.refusals.proofs.Answers.{same_value}
use Rattle.bits.specs.declared.Cursor.{Cursor}
use Rattle.bits.specs.Reader.{Read}
use Rattle.bits.specs.Fields.{before}
use Rattle.formulas.specs.declared.Header.{Header}
use Rattle.formulas.specs.declared.Instruction.{Instruction}
use Rattle.formulas.specs.declared.Instruction.TheVariants.{Constant, Negate, Add, Subtract, Multiply, Coefficient, Reciprocal}
use Rattle.formulas.specs.Formula.{Smaller, places}
use Rattle.packed.specs.Items.{read}
use Rattle.packed.specs.Format.{program, results, several, wide, all_wide, widest}
use Rattle.packed.specs.Meaning.{meant, checked}
use Rattle.packed.specs.declared.loaded.Loaded.{Loaded}
use Rattle.packed.specs.Loading.{place_of, Loads}
use Rattle.packed.specs.Walk.{Readable, Decodes, DecodesFrom}
use Rattle.packed.proofs.Instructions.{wide_most}
use Rattle.packed.proofs.Shapes.{decodes_place, readable_place}
use Rattle.packed.proofs.Formed.{Formed, formed, limits_of}
use Rattle.walks.specs.Walks.{AtOutputs}
use Rattle.walks.proofs.Programs.{Program, program_smaller, Split, program_split}
use Rattle.walks.proofs.Walking.{first}

-- k instructions were read back
pub record Turn (s : List ℕ) (h : Header) (c : Cursor) (k : ℕ) : Type 0 where
  pub there : Formed s h
  pub few : k ≤ h.instructions
  pub rest : Program s h.scale c (h.instructions - k) (h.inputs + k)
  pub are : rest.all.got ≡ drop k (meant s).program
  pub last : rest.all.left ≡ there.instructions.left
  pub near : c.at ≤ 32 + widest * k
  pub stands : c.at + all_wide rest.all.got ≡ 32 + all_wide (meant s).program

-- the same instructions, with their number and the first value's number written another way
renamed : (F : ℕ) (bs : List ℕ) {x : Read (List Instruction)} {n v k w : ℕ} → n ≡ k → v ≡ w
    → read (program F n v) bs ≡ value x → read (program F k w) bs ≡ value x
renamed F bs {x} e f r = subst₂ (λ (k w : ℕ). read (program F k w) bs ≡ value x) e f r

pub turn_start : {s : List ℕ} {h : Header} → checked s ≡ value h → Turn s h first 0
turn_start {s} {h} e =
    let f = formed s e in
    record {
      there = f;
      few = omega arith;
      rest = record { all = f.instructions; reads = renamed h.scale (before s first) all none f.reads_instructions };
      are = f.is_program;
      last = refl;
      near = omega arith;
      stands = ap (λ (is : List Instruction). 32 + all_wide is) f.is_program;
    }
  where
    all : h.instructions ≡ h.instructions - 0
    all = omega arith

    none : h.inputs ≡ h.inputs + 0
    none = omega arith

-- operands below one number are below a greater, and what is permitted at one scale is at scale 0
smaller_below : (F v : ℕ) {w : ℕ} (i : Instruction) → v ≤ w → Smaller F v i → Smaller 0 w i
smaller_below F v (Constant c) l p = p
smaller_below F v (Negate a) l p = omega arith
smaller_below F v (Add a b) l p = (omega arith, omega arith)
smaller_below F v (Subtract a b) l p = (omega arith, omega arith)
smaller_below F v (Multiply a b) l p = (omega arith, omega arith)
smaller_below F v (Coefficient c r) l p = p
smaller_below F v (Reciprocal a) l p = (omega arith, omega arith)

heads : {A : Type 0} {a b : A} {xs ys : List A} → ◌≡◌ {A = List A} (a ∷ xs) (b ∷ ys) → (a ≡ b) × (xs ≡ ys)
heads e = (cc, cc)

module _ {s : List ℕ} {h : Header} {c : Cursor} {k : ℕ} (t : Turn s h c k) where
  pub turn_long : length (meant s).program ≡ h.instructions
  turn_long = t.there.well.program_long ∙ ap (λ (g : Header). g.instructions) t.there.is_header

  turn_near : c.at ≤ 2 ^ 20
  turn_near = omega (arith, t.near, t.few, (limits_of t.there).instructions_few)

  pub turn_within : c.at ≤ 2 ^ 30
  turn_within = omega (arith, turn_near)

  -- nothing is left to read: the outputs begin
  pub turn_ends : h.instructions ≤ k → AtOutputs s c
  unfolding several
  turn_ends l =
      let f = t.there in
      let no_more : h.instructions - k ≡ 0 = omega arith in
      let none = same_value (renamed h.scale (before s c) no_more refl t.rest.reads) in
      let left : before s c ≡ f.instructions.left = ap (λ (r : Read (List Instruction)). r.left) none ∙ t.last in
      record {
        stands = omega (arith, t.stands, ap (λ (r : Read (List Instruction)). all_wide r.got) none);
        near = turn_near;
        all = f.outputs;
        reads =
            subst (λ (g : Header). read (results g.outputs (places g)) (before s c) ≡ value f.outputs) (sym f.is_header)
            (subst (λ (bs : List ℕ). read (results h.outputs (places h)) bs ≡ value f.outputs) (sym left) f.reads_outputs);
        are = f.are_results;
      }

  module _ (more : k < h.instructions) where
    split : Split s h.scale c (h.instructions - (k + 1)) (h.inputs + k) t.rest.all
    split = program_split (record { all = t.rest.all; reads = renamed h.scale (before s c) one_left refl t.rest.reads })
      where
        one_left : h.instructions - k ≡ suc (h.instructions - (k + 1))
        one_left = omega arith

    pub turn_readable : {l : Loaded} → Loads s c l → Readable s (place_of l)
    turn_readable o = readable_place o (record { scale = h.scale; below = h.inputs + k; all = split.here; reads = split.reads_here })

    module _ {l : Loaded} (loads : Loads s c l) {i : Instruction} {e : Cursor} (from : DecodesFrom s l i e) where
      decodes : Decodes s c i e
      decodes = decodes_place loads from

      is_here : i ≡ split.here.got
      is_here = (decodes.decoded h.scale (h.inputs + k) split.here split.reads_here).0

      pub turn_smaller : Smaller 0 1024 i
      turn_smaller =
          smaller_below h.scale (h.inputs + k) i (omega (arith, (limits_of t.there).inputs_few, (limits_of t.there).instructions_few))
          (subst (Smaller h.scale (h.inputs + k)) (sym is_here) (head (subst (Each (Smaller h.scale) (h.inputs + k)) split.both (program_smaller t.rest))))
        where
          head : {v : ℕ} {j : Instruction} {js : List Instruction} → Each (Smaller h.scale) v (j ∷ js) → Smaller h.scale v j
          head (one p ps) = p

      next : (split.here.got ≡ get_or (meant s).program k i) × (split.rest.got ≡ drop (suc k) (meant s).program)
      next = heads (sym split.both ∙ t.are ∙ drop-cons (meant s).program k i (omega (arith, turn_long)))

      -- the instruction is the program's next
      pub turn_here : i ≡ get_or (meant s).program k i
      turn_here = is_here ∙ next.0

      pub turn_more : Turn s h e (k + 1)
      turn_more =
          record {
            there = t.there;
            few = omega arith;
            rest =
                record {
                  all = split.rest;
                  reads =
                      subst₂ (λ (w : ℕ) (bs : List ℕ). read (program h.scale (h.instructions - (k + 1)) w) bs ≡ value split.rest) one_more
                      (sym (decodes.decoded h.scale (h.inputs + k) split.here split.reads_here).1) split.reads_rest;
                };
            are = next.1 ∙ ap (λ (n : ℕ). drop n (meant s).program) (sym (add-one k));
            last = split.last ∙ t.last;
            near = omega (arith, decodes.stands, wide_most i, t.near);
            stands = omega (arith, decodes.stands, t.stands, ap all_wide split.both, ap wide is_here);
          }
        where
          one_more : suc (h.inputs + k) ≡ h.inputs + (k + 1)
          one_more = omega arith
