-- The format and the fields of a formula: it asks for them, and what it read are them. Assumes nothing.
use mathlib.Core.Path.{◌≡◌, refl, sym, ◌∙◌, ap, ap₂, subst}
use mathlib.Core.List.{List, [], ◌∷◌, ◌++◌, map, append-nil}
use Prim.Native.Nat.{ℕ, zero, suc, ◌+◌, ◌^◌, ◌≤◌, ◌<◌}
use native.Mathlib.Omega.{arith}
use borrow.Author.Tests.{le-leb, ne_eqb}
use lib.IntN.{ℤ, pos, negsuc, nat_abs}
use lib.ListN.{length}
use Rattle.rules.specs.Numbers.{M}
use Rattle.rules.specs.Values.{Allowed}
use Rattle.rules.specs.Reciprocals.{top_reciprocal_scale}
use Rattle.formulas.specs.declared.Header.{Header}
use Rattle.formulas.specs.declared.Instruction.{Instruction}
use Rattle.formulas.specs.declared.Instruction.TheVariants.{Constant, Negate, Add, Subtract, Multiply, Coefficient, Reciprocal}
use Rattle.packed.specs.Items.{scale, inputs, instructions, outputs, code, constant, operand, centre, margin, small_scale, version, twos_complement, Form, done, item, ◌>>=◌}
use Rattle.packed.specs.Format.{header, by_code, instruction, several, program, results}
use Rattle.packed.specs.Meaning.{body, whole}
use Rattle.lists.specs.Each.{Each, none, one}
use Rattle.formulas.specs.Formula.{Formula, places, InLimits, Smaller, WellFormed}
use Rattle.packed.proofs.FieldIn.{between}
use Rattle.packed.proofs.Instructions.{twos_complement_low}
use Rattle.packed.proofs.WellFormed.{in_range}
use Rattle.packing.specs.Raw.{raw_of}
use Rattle.packing.specs.Slots.{Slot, encoded, slot, header_slots, instruction_slots, output_slots}
use Rattle.packing.specs.Slots.{several_slots, program_slots, result_slots, fields_of}
use Rattle.packing.proofs.Forms.{Fit, Asks, nothing, next, asks_bind, Tells, tells_bind, twos_complement_below, encoded_twos_complement}

-- ---- numbers that fit

fit_code : (n : ℕ) → n < 7 → Fit code (pos n)
fit_code n l = let t = between 0 7 n (omega arith) l in record { fit = t; may = t; narrow = omega arith }

fit_operand : (v i : ℕ) → v ≤ 1024 → i < v → Fit (operand v) (pos i)
fit_operand v i h l = let t = between 0 v i (omega arith) l in record { fit = t; may = t; narrow = omega arith }

fit_constant : (c : ℤ) → Allowed c → Fit constant c
fit_constant (pos n) a = record { fit = le-leb n M a; may = rw (ne_eqb n (2 ^ 31) (other n a)); narrow = omega arith }
  where
    other : (n : ℕ) → n ≤ M → n ≡ 2 ^ 31 → ⊥
    other n a e = omega arith
fit_constant (negsuc n) a = record { fit = le-leb (suc n) M a; may = rw (ne_eqb (encoded (negsuc n)) (2 ^ 31) (other n a)); narrow = omega arith }
  where
    other : (n : ℕ) → suc n ≤ M → encoded (negsuc n) ≡ 2 ^ 31 → ⊥
    other n a e = omega arith

-- a constant is read back
pub twos_complement_encoded : (c : ℤ) → Allowed c → twos_complement (encoded c) ≡ c
twos_complement_encoded (pos n) a = twos_complement_low n (omega arith)
twos_complement_encoded (negsuc n) a = twos_complement_below n (omega arith)

encoded_narrow : (c : ℤ) → Allowed c → encoded c < 2 ^ 32
encoded_narrow (pos n) a = omega arith
encoded_narrow (negsuc n) a = omega arith

fit_centre : (c : ℤ) → Allowed c → Fit centre c
fit_centre c a = record { fit = le-leb (nat_abs c) M a; may = refl; narrow = encoded_narrow c a }

fit_margin : (c : ℤ) (r : ℕ) → nat_abs c + r ≤ M → Fit (margin (encoded c)) (pos r)
fit_margin c r l =
    let t = le-leb (nat_abs (twos_complement (encoded c)) + r) M (rw (twos_complement_encoded c (omega arith)) l) in
    record { fit = t; may = t; narrow = omega arith }

fit_scale : (F : ℕ) → F ≤ top_reciprocal_scale → Fit (small_scale F) (pos 0)
fit_scale F l = let t = le-leb F top_reciprocal_scale l in record { fit = t; may = t; narrow = omega arith }

-- ---- the format asks for the fields

header_asks : (h : Header) → InLimits h → Asks header (header_slots (pos h.scale) (pos h.inputs) (pos h.instructions) h.outputs) h
unfolding header
header_asks h l = next the_version (next the_scale (next the_inputs (next the_instructions (next the_outputs nothing))))
  where
    the_version : Fit version (pos 1)
    the_version = record { fit = refl; may = refl; narrow = omega arith }

    the_scale : Fit scale (pos h.scale)
    the_scale = let t = between 0 31 h.scale (omega arith) (omega (arith, l.scale_small)) in record { fit = t; may = t; narrow = omega (arith, l.scale_small) }

    the_inputs : Fit inputs (pos h.inputs)
    the_inputs = let t = between 0 17 h.inputs (omega arith) (omega (arith, l.inputs_few)) in record { fit = t; may = t; narrow = omega (arith, l.inputs_few) }

    the_instructions : Fit instructions (pos h.instructions)
    the_instructions =
        let t = between 0 513 h.instructions (omega arith) (omega (arith, l.instructions_few)) in
        record { fit = t; may = t; narrow = omega (arith, l.instructions_few) }

    the_outputs : Fit outputs (pos h.outputs)
    the_outputs = let t = between 1 17 h.outputs l.some_output (omega (arith, l.outputs_few)) in record { fit = t; may = t; narrow = omega (arith, l.outputs_few) }

-- one case for each instruction
instruction_asks : (F v : ℕ) → v ≤ 1024 → (i : Instruction) → Smaller F v i → Asks (instruction F v) (instruction_slots F v (raw_of i)) i
unfolding instruction by_code
instruction_asks F v h (Constant c) a =
    next (fit_code 0 (omega arith)) (next (fit_constant c a)
    (subst (λ (z : ℤ). Asks (done (Constant (twos_complement (encoded c)))) [] (Constant z)) (twos_complement_encoded c a) nothing))
instruction_asks F v h (Negate i) l = next (fit_code 1 (omega arith)) (next (fit_operand v i h l) nothing)
instruction_asks F v h (Add i j) l = next (fit_code 2 (omega arith)) (next (fit_operand v i h l.0) (next (fit_operand v j h l.1) nothing))
instruction_asks F v h (Subtract i j) l = next (fit_code 3 (omega arith)) (next (fit_operand v i h l.0) (next (fit_operand v j h l.1) nothing))
instruction_asks F v h (Multiply i j) l = next (fit_code 4 (omega arith)) (next (fit_operand v i h l.0) (next (fit_operand v j h l.1) nothing))
instruction_asks F v h (Coefficient c r) l =
    next (fit_code 5 (omega arith)) (next (fit_centre c (omega arith)) (next (fit_margin c r l)
    (subst (λ (z : ℤ). Asks (done (Coefficient (twos_complement (encoded c)) r)) [] (Coefficient z r)) (twos_complement_encoded c (omega arith)) nothing)))
instruction_asks F v h (Reciprocal i) l =
    next (fit_code 6 (omega arith)) (next (fit_scale F l.0) (next (fit_operand v i h l.1) nothing))

several_asks : {A B : Type 0} {P : ℕ → A → Type 0} (f : ℕ → Form A) (s : ℕ → B → List Slot) (conv : A → B) (top : ℕ)
    → ((u : ℕ) → u < top → (a : A) → P u a → Asks (f u) (s u (conv a)) a)
    → {v : ℕ} {l : List A} → Each P v l → v + length l ≤ top → Asks (several f (length l) v) (several_slots s v (map conv l)) l
unfolding several
several_asks f s conv top h none n = nothing
several_asks f s conv top h (one {v} {a} {more} p q) n =
    asks_bind (λ b. several f (length more) (suc v) >>= λ rest. done (b ∷ rest)) (h v (omega arith) a p)
    (subst (λ (ss : List Slot). Asks (several f (length more) (suc v) >>= λ rest. done (a ∷ rest)) ss (a ∷ more)) (append-nil (several_slots s (suc v) (map conv more)))
    (asks_bind (λ rest. done (a ∷ rest)) (several_asks f s conv top h q (omega arith)) nothing))

body_asks : (f : Formula) → WellFormed f → Asks (body f.header) (program_slots f.header.scale f.header.inputs (map raw_of f.program) ++ result_slots (places f.header) (map pos f.results)) f
unfolding body
body_asks f w =
    asks_bind (λ is. results f.header.outputs v >>= λ os. done (record { header = f.header; program = is; results = os })) the_program
    (subst (λ (ss : List Slot). Asks (results f.header.outputs v >>= λ os. done (record { header = f.header; program = f.program; results = os })) ss f)
    (append-nil (several_slots (output_slots v) 0 (map pos f.results)))
    (asks_bind (λ os. done (record { header = f.header; program = f.program; results = os })) the_results nothing))
  where
    v : ℕ
    v = f.header.inputs + f.header.instructions

    small : v ≤ 528
    small = omega (arith, w.limits.inputs_few, w.limits.instructions_few)

    the_program : Asks (program f.header.scale f.header.instructions f.header.inputs) (several_slots (instruction_slots f.header.scale) f.header.inputs (map raw_of f.program)) f.program
    the_program =
        subst (λ (n : ℕ). Asks (program f.header.scale n f.header.inputs) (several_slots (instruction_slots f.header.scale) f.header.inputs (map raw_of f.program)) f.program) w.program_long
        (several_asks (instruction f.header.scale) (instruction_slots f.header.scale) raw_of v (λ u l i p. instruction_asks f.header.scale u (omega (arith, small)) i p) w.operands_smaller (omega (arith, w.program_long)))

    the_results : Asks (results f.header.outputs v) (several_slots (output_slots v) 0 (map pos f.results)) f.results
    the_results =
        subst (λ (n : ℕ). Asks (results n v) (several_slots (output_slots v) 0 (map pos f.results)) f.results) w.results_long
        (several_asks (λ j. item (operand v)) (output_slots v) pos (length f.results) (λ u l o p. next (fit_operand v o (omega (arith, small)) p) nothing) w.results_below (omega arith))

pub whole_asks : (f : Formula) → WellFormed f → Asks whole (fields_of f) f
unfolding fields_of
whole_asks f w = asks_bind body (header_asks f.header w.limits) (body_asks f w)

-- ---- what the format read are the fields

header_tells : Tells (λ ss h. ss ≡ header_slots (pos h.scale) (pos h.inputs) (pos h.instructions) h.outputs) header
unfolding header
header_tells = λ v tv lv F tF lF m tm lm l tl ll n tn ln. ap (λ (x : ℕ). slot version (pos x) ∷ slot scale (pos F) ∷ slot inputs (pos m) ∷ slot instructions (pos l) ∷ slot outputs (pos n) ∷ []) (is_one v (in_range 1 2 v tv))
  where
    is_one : (v : ℕ) → (1 ≤ v) × (v < 2) → v ≡ 1
    is_one v h = omega arith

-- one case for each code
by_code_tells : (F v c : ℕ) → c < 7 → Tells (λ ss i. slot code (pos c) ∷ ss ≡ instruction_slots F v (raw_of i)) (by_code F v c)
unfolding by_code
by_code_tells F v zero h = λ n t l. refl
by_code_tells F v (suc zero) h = λ i t l. refl
by_code_tells F v (suc (suc zero)) h = λ i t l j u k. refl
by_code_tells F v (suc (suc (suc zero))) h = λ i t l j u k. refl
by_code_tells F v (suc (suc (suc (suc zero)))) h = λ i t l j u k. refl
by_code_tells F v (suc (suc (suc (suc (suc zero))))) h =
    λ c t l r u k. ap (λ (n : ℕ). slot code (pos 5) ∷ slot centre (twos_complement c) ∷ slot (margin n) (pos r) ∷ [])
    (sym (encoded_twos_complement c l))
by_code_tells F v (suc (suc (suc (suc (suc (suc zero)))))) h =
    λ z t l i u k. ap (λ (n : ℕ). slot code (pos 6) ∷ slot (small_scale F) (pos n) ∷ slot (operand v) (pos i) ∷ []) (no_bits z l)
  where
    no_bits : (z : ℕ) → z < 1 → z ≡ 0
    no_bits z l = omega arith
by_code_tells F v (suc (suc (suc (suc (suc (suc (suc c))))))) h = absurd (omega arith)

instruction_tells : (F v : ℕ) → Tells (λ ss i. ss ≡ instruction_slots F v (raw_of i)) (instruction F v)
unfolding instruction
instruction_tells F v = λ c t l. by_code_tells F v c (in_range 0 7 c t).1

several_tells : {A B : Type 0} (f : ℕ → Form A) (s : ℕ → B → List Slot) (conv : A → B) → ((u : ℕ) → Tells (λ ss a. ss ≡ s u (conv a)) (f u))
    → (k v : ℕ) → Tells (λ ss l. ss ≡ several_slots s v (map conv l)) (several f k v)
unfolding several
several_tells f s conv h zero v = refl
several_tells {A} f s conv h (suc k) v =
    tells_bind (λ ss a. ss ≡ s v (conv a)) (λ ss l. ss ≡ several_slots s v (map conv l)) (f v) (λ a. several f k (suc v) >>= λ more. done (a ∷ more)) (h v) (λ ss a p.
    tells_bind (λ ts l. ts ≡ several_slots s (suc v) (map conv l)) (λ ts l. ss ++ ts ≡ several_slots s v (map conv l)) (several f k (suc v)) (λ more. done (a ∷ more)) (several_tells f s conv h k (suc v)) (λ ts l q.
    ap₂ (λ (x y : List Slot). x ++ y) p (append-nil ts ∙ q)))

body_tells : (h : Header) → Tells (λ ss f. header_slots (pos h.scale) (pos h.inputs) (pos h.instructions) h.outputs ++ ss ≡ fields_of f) (body h)
unfolding body fields_of
body_tells h =
    tells_bind (λ ss is. ss ≡ several_slots (instruction_slots h.scale) h.inputs (map raw_of is)) _ (program h.scale h.instructions h.inputs) _ (several_tells (instruction h.scale) (instruction_slots h.scale) raw_of (instruction_tells h.scale) h.instructions h.inputs) (λ ss is p.
    tells_bind (λ ts os. ts ≡ several_slots (output_slots v) 0 (map pos os)) _ (results h.outputs v) (λ os. done (record { header = h; program = is; results = os })) (several_tells (λ j. item (operand v)) (output_slots v) pos (λ u o t l. refl) h.outputs 0) (λ ts os q.
    ap₂ (λ (x y : List Slot). header_slots (pos h.scale) (pos h.inputs) (pos h.instructions) h.outputs ++ (x ++ y)) p (append-nil ts ∙ q)))
  where
    v : ℕ
    v = h.inputs + h.instructions

pub whole_tells : Tells (λ ss f. ss ≡ fields_of f) whole
whole_tells =
    tells_bind (λ ss h. ss ≡ header_slots (pos h.scale) (pos h.inputs) (pos h.instructions) h.outputs) (λ ss f. ss ≡ fields_of f) header body header_tells (λ ss h p.
    subst (λ (hs : List Slot). Tells (λ ts f. hs ++ ts ≡ fields_of f) (body h)) (sym p) (body_tells h))
