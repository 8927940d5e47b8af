-- The packer accepts exactly the well-formed formulas. Assumes nothing.
use mathlib.Core.Path.{◌≡◌, refl, sym, ◌∙◌, ap, ap₂, subst}
use mathlib.Core.Bool.{Bool, true, false, cond}
use mathlib.Core.List.{List, [], ◌∷◌, ◌++◌, map}
use mathlib.Core.Logic.{◌↔◌}
use Prim.Native.Nat.{ℕ, zero, suc, ◌+◌, ◌≤◌, ◌<◌}
use native.Mathlib.Omega.{arith}
use borrow.Author.Tests.{leb-true}
use lib.Dec.{leb}
use lib.IntN.{ℤ, pos, negsuc, nat_abs}
use lib.ListN.{length, length-map}
use Rattle.whole.proofs.Cases.{never}
use Rattle.rules.specs.Numbers.{M}
use Rattle.rules.specs.Reciprocals.{top_reciprocal_scale}
use Rattle.refusals.specs.Answer.{Answer, value, refused, refuse, then}
use Rattle.formulas.specs.declared.Instruction.{Instruction}
use Rattle.formulas.specs.declared.Instruction.TheVariants.{Constant, Negate, Add, Subtract, Multiply, Coefficient, Reciprocal}
use Rattle.packed.specs.Items.{FieldKind, scale, inputs, instructions, code, operand, margin, twos_complement, permitted}
use Rattle.packed.specs.Items.{complaint}
use Rattle.lists.specs.Each.{Each, none, one}
use Rattle.formulas.specs.Formula.{Formula, Smaller, WellFormed}
use Rattle.packed.specs.Meaning.{formula}
use Rattle.packed.proofs.WellFormed.{in_range}
use Rattle.refusals.proofs.Answers.{no_value, same_value, first_of}
use Rattle.packing.specs.Raw.{RawInstruction, RawFormula, raw, count, raw_of, raw_formula, made_of}
use Rattle.packing.specs.Raw.{instruction_of, formula_of, own_second, own, own_formula}
use Rattle.writing.specs.Bytes.{AreBytes}
use Rattle.packing.specs.Slots.{Slot, encoded, slot, header_slots, argument_slots, instruction_slots, output_slots}
use Rattle.packing.specs.Slots.{several_slots}
use Rattle.packing.specs.Slots.{program_slots, result_slots, raw_slots, fields_of, packed_bytes}
use Rattle.packing.specs.Packing.{natural, fits_as, fits, slots_tested, pack, pack_into}
use Rattle.packing.proofs.Forms.{asked_tested}
use Rattle.packing.proofs.Formats.{twos_complement_encoded, whole_asks}
use Rattle.packing.proofs.RoundTrip.{read_packed, packed_are}

-- ---- fields that all passed

abbrev pub AllFit : List Slot → Type 0
AllFit [] = Unit {0}
AllFit (s ∷ ss) = (fits s.kind s.number ≡ true) × AllFit ss

pub tested_all : (ss : List Slot) → slots_tested ss ≡ value tt → AllFit ss
tested_all [] e = tt
tested_all (s ∷ ss) e = by_test (fits s.kind s.number) refl e (tested_all ss)
  where
    by_test : (t : Bool) → fits s.kind s.number ≡ t → cond t (slots_tested ss) (refuse (complaint s.kind)) ≡ value tt → (slots_tested ss ≡ value tt → AllFit ss)
        → (fits s.kind s.number ≡ true) × AllFit ss
    by_test true u e rest = (u, rest e)
    by_test false u e rest = absurd (no_value e)

pub all_tested : (ss : List Slot) → AllFit ss → slots_tested ss ≡ value tt
all_tested [] h = refl
all_tested (s ∷ ss) h = ap (λ (t : Bool). cond t (slots_tested ss) (refuse (complaint s.kind))) h.0 ∙ all_tested ss h.1

pub all_apart : (ss ts : List Slot) → AllFit (ss ++ ts) → AllFit ss × AllFit ts
all_apart [] ts h = (tt, h)
all_apart (s ∷ ss) ts h = let r = all_apart ss ts h.1 in ((h.0, r.0), r.1)

-- ---- what a field that passed holds

pub record IsNatural (k : FieldKind) (z : ℤ) : Type 0 where
  pub is : pos (nat_abs z) ≡ z
  pub may : permitted k (nat_abs z) ≡ true

pub is_natural : (k : FieldKind) (z : ℤ) → fits_as natural k z ≡ true → IsNatural k z
is_natural k (pos n) e = record { is = refl; may = e }
is_natural k (negsuc n) e = never (sym e)

-- an instruction whose fields passed is well formed, and handed over it is what was handed over: one case for each code
pub record Makes (F v : ℕ) (c a b : ℤ) : Type 0 where
  pub smaller : Smaller F v (made_of c a b)
  pub again : raw_of (made_of c a b) ≡ raw c a (own_second c b)

pub below : (v : ℕ) (z : ℤ) → fits_as natural (operand v) z ≡ true → nat_abs z < v
below v z e = (in_range 0 v (nat_abs z) (is_natural (operand v) z e).may).1

made_makes : (F v : ℕ) (c a b : ℤ) → AllFit (slot code c ∷ argument_slots F v c a b) → Makes F v c a b
made_makes F v (pos zero) a b h = record { smaller = leb-true (nat_abs a) M h.1.0; again = refl }
made_makes F v (pos (suc zero)) a b h =
    record { smaller = below v a h.1.0; again = ap (λ (x : ℤ). raw (pos 1) x (pos 0)) (is_natural (operand v) a h.1.0).is }
made_makes F v (pos (suc (suc zero))) a b h =
    record {
      smaller = (below v a h.1.0, below v b h.1.1.0);
      again = ap₂ (raw (pos 2)) (is_natural (operand v) a h.1.0).is (is_natural (operand v) b h.1.1.0).is;
    }
made_makes F v (pos (suc (suc (suc zero)))) a b h =
    record {
      smaller = (below v a h.1.0, below v b h.1.1.0);
      again = ap₂ (raw (pos 3)) (is_natural (operand v) a h.1.0).is (is_natural (operand v) b h.1.1.0).is;
    }
made_makes F v (pos (suc (suc (suc (suc zero))))) a b h =
    record {
      smaller = (below v a h.1.0, below v b h.1.1.0);
      again = ap₂ (raw (pos 4)) (is_natural (operand v) a h.1.0).is (is_natural (operand v) b h.1.1.0).is;
    }
made_makes F v (pos (suc (suc (suc (suc (suc zero)))))) a b h =
    let q = is_natural (margin (encoded a)) b h.1.1.0 in
    record {
      smaller =
          subst (λ (z : ℤ). nat_abs z + nat_abs b ≤ M) (twos_complement_encoded a (leb-true (nat_abs a) M h.1.0))
          (leb-true (nat_abs (twos_complement (encoded a)) + nat_abs b) M q.may);
      again = ap (raw (pos 5) a) q.is;
    }
made_makes F v (pos (suc (suc (suc (suc (suc (suc zero))))))) a b h =
    record {
      smaller = (leb-true F top_reciprocal_scale h.1.0, below v a h.1.1.0);
      again = ap (λ (x : ℤ). raw (pos 6) x (pos 0)) (is_natural (operand v) a h.1.1.0).is;
    }
made_makes F v (pos (suc (suc (suc (suc (suc (suc (suc k)))))))) a b h =
    absurd (let l = (in_range 0 7 (suc (suc (suc (suc (suc (suc (suc k))))))) h.0).1 in omega arith)
made_makes F v (negsuc k) a b h = never (sym h.0)

program_makes : (F v : ℕ) (rs : List RawInstruction) → AllFit (program_slots F v rs) → Each (Smaller F) v (map instruction_of rs) × (map raw_of (map instruction_of rs) ≡ map own rs)
program_makes F v [] h = (none, refl)
program_makes F v (r ∷ rs) h =
    let q = all_apart (instruction_slots F v r) (program_slots F (suc v) rs) h in
    let i = made_makes F v r.code r.first r.second q.0 in
    let more = program_makes F (suc v) rs q.1 in
    (one i.smaller more.0, ap₂ (λ (x : RawInstruction) (xs : List RawInstruction). x ∷ xs) i.again more.1)

results_make : (v j : ℕ) (os : List ℤ) → AllFit (several_slots (output_slots v) j os) → Each (λ j o. o < v) j (map nat_abs os) × (map pos (map nat_abs os) ≡ os)
results_make v j [] h = (none, refl)
results_make v j (o ∷ os) h =
    let more = results_make v (suc j) os h.1 in
    (one (below v o h.0) more.0, ap₂ (λ (x : ℤ) (xs : List ℤ). x ∷ xs) (is_natural (operand v) o h.0).is more.1)

map_same : {A B : Type 0} (f g : A → B) → ((a : A) → f a ≡ g a) → (l : List A) → map f l ≡ map g l
map_same f g h [] = refl
map_same f g h (a ∷ l) = ap₂ (λ (x : _) (xs : List _). x ∷ xs) (h a) (map_same f g h l)

-- ---- what a code leaves alone is neither encoded nor instruction-of into anything: one case for each code

own_slots : (F v : ℕ) (c a b : ℤ) → argument_slots F v c a (own_second c b) ≡ argument_slots F v c a b
own_slots F v (pos zero) a b = refl
own_slots F v (pos (suc zero)) a b = refl
own_slots F v (pos (suc (suc zero))) a b = refl
own_slots F v (pos (suc (suc (suc zero)))) a b = refl
own_slots F v (pos (suc (suc (suc (suc zero))))) a b = refl
own_slots F v (pos (suc (suc (suc (suc (suc zero)))))) a b = refl
own_slots F v (pos (suc (suc (suc (suc (suc (suc zero))))))) a b = refl
own_slots F v (pos (suc (suc (suc (suc (suc (suc (suc k)))))))) a b = refl
own_slots F v (negsuc k) a b = refl

own_made : (c a b : ℤ) → made_of c a (own_second c b) ≡ made_of c a b
own_made (pos zero) a b = refl
own_made (pos (suc zero)) a b = refl
own_made (pos (suc (suc zero))) a b = refl
own_made (pos (suc (suc (suc zero)))) a b = refl
own_made (pos (suc (suc (suc (suc zero))))) a b = refl
own_made (pos (suc (suc (suc (suc (suc zero)))))) a b = refl
own_made (pos (suc (suc (suc (suc (suc (suc k))))))) a b = refl
own_made (negsuc k) a b = refl

own_program : (F v : ℕ) (rs : List RawInstruction) → program_slots F v (map own rs) ≡ program_slots F v rs
own_program F v [] = refl
own_program F v (r ∷ rs) =
    ap₂ (λ (x y : List Slot). slot code r.code ∷ (x ++ y)) (own_slots F v r.code r.first r.second) (own_program F (suc v) rs)

own_makes : (rs : List RawInstruction) → map instruction_of (map own rs) ≡ map instruction_of rs
own_makes [] = refl
own_makes (r ∷ rs) = ap₂ (λ (x : Instruction) (xs : List Instruction). x ∷ xs) (own_made r.code r.first r.second) (own_makes rs)

own_count : (r : RawFormula) → count (own_formula r) ≡ count r
own_count r = ap (λ (n : ℕ). cond r.as_long (pos n) (negsuc 0)) (length-map r.program own)

pub own_raw_slots : (r : RawFormula) → raw_slots (own_formula r) ≡ raw_slots r
unfolding raw_slots
own_raw_slots r =
    λ i.
    header_slots r.scale r.inputs (own_count r i) (length r.results)
    ++ (own_program (nat_abs r.scale) (nat_abs r.inputs) r.program i
    ++ result_slots (nat_abs r.inputs + length-map r.program own i) r.results)

pub own_formula_of : (r : RawFormula) → formula_of (own_formula r) ≡ formula_of r
own_formula_of r =
    λ i. record {
      header =
          record {
            scale = nat_abs r.scale;
            inputs = nat_abs r.inputs;
            instructions = length-map r.program own i;
            outputs = length r.results;
          };
      program = own_makes r.program i;
      results = map nat_abs r.results;
    }

pub pack_own : (r : RawFormula) → pack (own_formula r) ≡ pack r
unfolding pack
pack_own r = ap₂ (λ (ss : List Slot) (f : Formula). then (slots_tested ss) (λ u. value f)) (own_raw_slots r) (own_formula_of r)

-- ---- accepted

-- what an accepted formula is
pub record Accepted (r : RawFormula) (f : Formula) : Type 0 where
  pub well_formed : WellFormed f
  pub same : raw_formula f ≡ own_formula r
  pub fields : fields_of f ≡ raw_slots r

-- a number of instructions that passed is that of the lists
pub counted : (r : RawFormula) → fits instructions (count r) ≡ true
    → (r.as_long ≡ true) × (permitted instructions (length r.program) ≡ true)
counted r e = by_lists r.as_long e
  where
    by_lists : (t : Bool) → fits instructions (cond t (pos (length r.program)) (negsuc 0)) ≡ true
        → (t ≡ true) × (permitted instructions (length r.program) ≡ true)
    by_lists true e = (refl, e)
    by_lists false e = never (sym e)

pub fit_accepted : (r : RawFormula) → AllFit (raw_slots r) → Accepted r (formula_of r)
unfolding raw_slots fields_of
fit_accepted r h = record { well_formed = formed; same = again; fields = slots }
  where
    F : IsNatural scale r.scale
    F = is_natural scale r.scale h.1.0

    m : IsNatural inputs r.inputs
    m = is_natural inputs r.inputs h.1.1.0

    l : (r.as_long ≡ true) × (permitted instructions (length r.program) ≡ true)
    l = counted r h.1.1.1.0

    parts :
        AllFit (program_slots (nat_abs r.scale) (nat_abs r.inputs) r.program)
        × AllFit (result_slots (nat_abs r.inputs + length r.program) r.results)
    parts =
        all_apart (program_slots (nat_abs r.scale) (nat_abs r.inputs) r.program)
        (result_slots (nat_abs r.inputs + length r.program) r.results) h.1.1.1.1.1

    the_program :
        Each (Smaller (nat_abs r.scale)) (nat_abs r.inputs) (map instruction_of r.program)
        × (map raw_of (map instruction_of r.program) ≡ map own r.program)
    the_program = program_makes (nat_abs r.scale) (nat_abs r.inputs) r.program parts.0

    the_results :
        Each (λ j o. o < nat_abs r.inputs + length r.program) 0 (map nat_abs r.results)
        × (map pos (map nat_abs r.results) ≡ r.results)
    the_results = results_make (nat_abs r.inputs + length r.program) 0 r.results parts.1

    formed : WellFormed (formula_of r)
    formed =
        record {
          limits =
              record {
                scale_small = omega (arith, in_range 0 31 (nat_abs r.scale) F.may);
                inputs_few = omega (arith, in_range 0 17 (nat_abs r.inputs) m.may);
                instructions_few = omega (arith, in_range 0 513 (length r.program) l.1);
                some_output = (in_range 1 17 (length r.results) h.1.1.1.1.0).0;
                outputs_few = omega (arith, in_range 1 17 (length r.results) h.1.1.1.1.0);
              };
          program_long = length-map r.program instruction_of;
          operands_smaller = the_program.0;
          results_long = length-map r.results nat_abs;
          results_below = the_results.0;
        }

    again : raw_formula (formula_of r) ≡ own_formula r
    again =
        λ i. record {
          scale = F.is i;
          inputs = m.is i;
          program = the_program.1 i;
          as_long = sym l.0 i;
          results = the_results.1 i;
        }

    count_is : pos (length r.program) ≡ count r
    count_is = ap (λ (t : Bool). cond t (pos (length r.program)) (negsuc 0)) (sym l.0)

    program_is : program_slots (nat_abs r.scale) (nat_abs r.inputs) (map raw_of (map instruction_of r.program))
        ≡ program_slots (nat_abs r.scale) (nat_abs r.inputs) r.program
    program_is =
        ap (program_slots (nat_abs r.scale) (nat_abs r.inputs)) the_program.1 ∙ own_program (nat_abs r.scale) (nat_abs r.inputs) r.program

    slots : fields_of (formula_of r) ≡ raw_slots r
    slots =
        λ i.
        header_slots (F.is i) (m.is i) (count_is i) (length r.results)
        ++ (program_is i ++ result_slots (nat_abs r.inputs + length r.program) (the_results.1 i))

pub pack_all : (r : RawFormula) → AllFit (raw_slots r) → pack r ≡ value (formula_of r)
unfolding pack
pack_all r h = ap (λ (a : Answer (Unit {0})). then a (λ u. value (formula_of r))) (all_tested (raw_slots r) h)

-- "every raw list accepted gives a well-formed formula whose raw form is that list again"
pub pack_accepted : (r : RawFormula) {f : Formula} → pack r ≡ value f → Accepted r f
unfolding pack
pack_accepted r {f} e =
    let a = first_of (slots_tested (raw_slots r)) (λ u. value (formula_of r)) e in
    subst (Accepted r) (same_value a.then_was) (fit_accepted r (tested_all (raw_slots r) a.was))

-- every well-formed formula, handed over, is accepted

made_raw : (i : Instruction) → instruction_of (raw_of i) ≡ i
made_raw (Constant c) = refl
made_raw (Negate i) = refl
made_raw (Add i j) = refl
made_raw (Subtract i j) = refl
made_raw (Multiply i j) = refl
made_raw (Coefficient c r) = refl
made_raw (Reciprocal i) = refl

program_again : (is : List Instruction) → map instruction_of (map raw_of is) ≡ is
program_again [] = refl
program_again (i ∷ is) = ap₂ (λ (x : Instruction) (xs : List Instruction). x ∷ xs) (made_raw i) (program_again is)

results_again : (os : List ℕ) → map nat_abs (map pos os) ≡ os
results_again [] = refl
results_again (o ∷ os) = ap (λ (xs : List ℕ). o ∷ xs) (results_again os)

pub well_formed_slots : (f : Formula) → WellFormed f → raw_slots (raw_formula f) ≡ fields_of f
unfolding raw_slots fields_of
well_formed_slots f w =
    ap₂ (λ (l n : ℕ).
    header_slots (pos f.header.scale) (pos f.header.inputs) (pos l) n
    ++ (program_slots f.header.scale f.header.inputs (map raw_of f.program)
    ++ result_slots (f.header.inputs + l) (map pos f.results)))
    (length-map f.program raw_of ∙ w.program_long) (length-map f.results pos ∙ w.results_long)

pub formula_again : (f : Formula) → WellFormed f → formula_of (raw_formula f) ≡ f
formula_again f w =
    λ i. record {
      header =
          record {
            scale = f.header.scale;
            inputs = f.header.inputs;
            instructions = (length-map f.program raw_of ∙ w.program_long) i;
            outputs = (length-map f.results pos ∙ w.results_long) i;
          };
      program = program_again f.program i;
      results = results_again f.results i;
    }

pub pack_well_formed : (f : Formula) → WellFormed f → pack (raw_formula f) ≡ value f
unfolding pack
pack_well_formed f w =
    ap₂ (λ (ss : List Slot) (g : Formula). then (slots_tested ss) (λ u. value g)) (well_formed_slots f w) (formula_again f w)
    ∙ ap (λ (a : Answer (Unit {0})). then a (λ u. value f)) (asked_tested (whole_asks f w))

-- the packer accepts exactly the well-formed formulas
pub pack_exactly : (r : RawFormula) (f : Formula) → (pack r ≡ value f) ↔ (WellFormed f × (raw_formula f ≡ own_formula r))
pack_exactly r f = (λ e. let a = pack_accepted r e in (a.well_formed, a.same), λ h. sym (pack_own r) ∙ ap pack (sym h.1) ∙ pack_well_formed f h.0)

-- ---- into a buffer: what it wrote is read back

pub record Written (room : ℕ) (r : RawFormula) (s : List ℕ) : Type 0 where
  pub holds : Formula
  pub accepted : Accepted r holds
  pub is : s ≡ packed_bytes holds
  pub has_room : length s ≤ room
  pub bytes : AreBytes s
  pub reads_back : formula s ≡ value holds

pub pack_into_written : (room : ℕ) (r : RawFormula) {s : List ℕ} → pack_into room r ≡ value s → Written room r s
unfolding pack_into
pack_into_written room r {s} e =
    let a = first_of (pack r) (λ f. cond (leb (length (packed_bytes f)) room) (value (packed_bytes f)) (refused 10)) e in
    by_room a.first (pack_accepted r a.was) (leb (length (packed_bytes a.first)) room) refl a.then_was
  where
    by_room : (f : Formula) → Accepted r f → (t : Bool) → leb (length (packed_bytes f)) room ≡ t
        → cond {A = Answer (List ℕ)} t (value (packed_bytes f)) (refused 10) ≡ value s → Written room r s
    by_room f a true u v =
        subst (Written room r) (same_value v)
        (record { holds = f; accepted = a; is = refl; has_room = leb-true (length (packed_bytes f)) room u; bytes = packed_are f; reads_back = read_packed f a.well_formed })
    by_room f a false u v = absurd (no_value v)
