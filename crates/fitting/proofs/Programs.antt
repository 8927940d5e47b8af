-- A turn of the loop over the instructions and of that over the outputs, in the code's shape. Assumes nothing.
use mathlib.Core.Path.{◌≡◌, refl, sym, ◌∙◌, ap, subst, subst₂}
use mathlib.Core.Bool.{true}
use mathlib.Core.List.{List, [], ◌∷◌}
use Prim.Native.Nat.{ℕ, zero, suc, ◌+◌, ◌^◌, ◌≤◌, ◌<◌}
use native.Mathlib.Nat.{not-suc-le-zero, le_of_suc-le-suc}
use native.Mathlib.Omega.{arith}
use borrow.Author.Tests.{eqb-true}
use lib.Dec.{eqb}
use lib.IntN.{ℤ, pos, nat_abs}
use lib.ListN.{length, get_or}
use lib.Signed.{mag}
use mir.Syntax.{w64}
use mir.Val.{SFits}
use mir.ValLaws.{to_z-of_z}
use Rattle.std.specs.declared.result.Result.TheVariants.{Ok, Err}
use Rattle.whole.proofs.Cases.{ap₃, both, down}
use Rattle.whole.proofs.Machine.{back}
use Rattle.refusals.specs.declared.Refusal.{Refusal}
use Rattle.refusals.specs.Answer.{value}
use Rattle.refusals.proofs.Answers.{same_value, first_of}
use Rattle.packing.specs.declared.Handed.TheInside.{Inside}
use Rattle.packing.specs.Lent.{lent}
use Rattle.packing.specs.Raw.{RawInstruction, RawFormula, raw, instructions_of}
use Rattle.packing.specs.Slots.{Slot, instruction_slots, program_slots, program_of, slots_width}
use Rattle.packing.specs.Packing.{slots_tested}
use Rattle.packing.proofs.Lengths.{instruction_wide}
use Rattle.fitting.specs.Sizes.{Size, Sizes}
use Rattle.fitting.proofs.Summing.{Summing, summing_more, summing_stops, summing_ends}

-- ---- instructions from three lists

pub length_instructions_of : (cs fs ss : List ℤ) → length cs ≡ length fs → length cs ≡ length ss
    → length (instructions_of cs fs ss) ≡ length cs
length_instructions_of [] fs ss e g = refl
length_instructions_of (c ∷ cs) [] ss e g = absurd (let z : suc (length cs) ≡ 0 = e in omega arith)
length_instructions_of (c ∷ cs) (a ∷ fs) [] e g = absurd (let z : suc (length cs) ≡ 0 = g in omega arith)
length_instructions_of (c ∷ cs) (a ∷ fs) (b ∷ ss) e g = ap suc (length_instructions_of cs fs ss (down e) (down g))

pub no_instruction : RawInstruction
no_instruction = raw (pos 0) (pos 0) (pos 0)

pub instruction_at : (cs fs ss : List ℤ) (i : ℕ) → i < length cs → i < length fs → i < length ss
    → get_or (instructions_of cs fs ss) i no_instruction
    ≡ raw (get_or cs i (pos 0)) (get_or fs i (pos 0)) (get_or ss i (pos 0))
instruction_at [] fs ss i h k l = absurd (not-suc-le-zero h)
instruction_at (c ∷ cs) [] ss i h k l = absurd (not-suc-le-zero k)
instruction_at (c ∷ cs) (a ∷ fs) [] i h k l = absurd (not-suc-le-zero l)
instruction_at (c ∷ cs) (a ∷ fs) (b ∷ ss) zero h k l = refl
instruction_at (c ∷ cs) (a ∷ fs) (b ∷ ss) (suc i) h k l =
    instruction_at cs fs ss i (le_of_suc-le-suc h) (le_of_suc-le-suc k) (le_of_suc-le-suc l)

-- a number as it is read from a list
pub read_back : (xs : List ℤ) (i : ℕ) → mag (get_or xs i (pos 0)) < 2 ^ 63 → back (get_or xs i (pos 0)) ≡ get_or xs i (pos 0)
read_back xs i s = to_z-of_z w64 (get_or xs i (pos 0)) (record { sfits = s })

pub sizes_width : (ss : List Slot) {n : ℕ} → Sizes ss (Ok n) → slots_width ss ≡ n
sizes_width ss z = same_value (first_of (slots_tested ss) (λ u. value (slots_width ss)) (sym z.answers)).then_was

pub instruction_few : (F v : ℕ) (i : RawInstruction) {n : ℕ} → Sizes (instruction_slots F v i) (Ok n) → n ≤ 66
instruction_few F v i z = subst (λ n. n ≤ 66) (sizes_width (instruction_slots F v i) z) (instruction_wide F v i.code i.first i.second)

-- ---- one after another, as the code holds what is handed over

module _ (h : Inside) {given : RawFormula} (holds : lent h ≡ given) where
  module _ (long : given.as_long ≡ true) where
    pub same_long : (length h.codes.now ≡ length h.firsts.now) × (length h.codes.now ≡ length h.seconds.now)
    same_long =
        let b = both (eqb (length h.codes.now) (length h.firsts.now)) _ (ap (λ (r : RawFormula). r.as_long) holds ∙ long) in
        (eqb-true _ _ b.0, eqb-true _ _ b.1)

    pub program_long : length given.program ≡ length h.codes.now
    program_long =
        ap (λ (r : RawFormula). length r.program) (sym holds)
        ∙ length_instructions_of h.codes.now h.firsts.now h.seconds.now same_long.0 same_long.1

    module _ {scale inputs k bits : ℕ} (g : Summing (instruction_slots scale) inputs given.program k bits) where
      module _ (l : k < length h.codes.now) (sc : mag (get_or h.codes.now k (pos 0)) < 2 ^ 63)
          (sf : mag (get_or h.firsts.now k (pos 0)) < 2 ^ 63) (st : mag (get_or h.seconds.now k (pos 0)) < 2 ^ 63) {r : Size}
          (z : Sizes (instruction_slots scale (inputs + k)
          (raw (back (get_or h.codes.now k (pos 0))) (back (get_or h.firsts.now k (pos 0))) (back (get_or h.seconds.now k (pos 0))))) r) where
        kept : Sizes (instruction_slots scale (inputs + k) (get_or given.program k no_instruction)) r
        kept =
            subst (λ i. Sizes (instruction_slots scale (inputs + k) i) r)
            (ap₃ raw (read_back h.codes.now k sc) (read_back h.firsts.now k sf) (read_back h.seconds.now k st)
            ∙ sym
            (instruction_at h.codes.now h.firsts.now h.seconds.now k l (omega (arith, same_long.0)) (omega (arith, same_long.1)))
            ∙ ap (λ (r : RawFormula). get_or r.program k no_instruction) holds)
            z

        pub program_more : {n : ℕ} → r ≡ Ok n → Summing (instruction_slots scale) inputs given.program (k + 1) (bits + n)
        program_more {n} q =
            let here = subst (Sizes _) q kept in
            summing_more (instruction_slots scale) inputs given.program no_instruction g (omega (arith, program_long))
            (instruction_few scale (inputs + k) _ here) here

  module _ (fF : SFits w64 h.scale) (fm : SFits w64 h.inputs) {scale inputs : ℕ} (eF : scale ≡ nat_abs (back h.scale))
      (em : inputs ≡ nat_abs (back h.inputs)) where
    as_given : {r : Size} → Sizes (program_slots scale inputs given.program) r
        → Sizes (program_of given) r
    as_given {r} z =
        subst₂ (λ (i n : ℕ). Sizes (program_slots i n given.program) r)
        (eF ∙ ap nat_abs (to_z-of_z w64 h.scale fF) ∙ ap (λ (r : RawFormula). nat_abs r.scale) holds)
        (em ∙ ap nat_abs (to_z-of_z w64 h.inputs fm) ∙ ap (λ (r : RawFormula). nat_abs r.inputs) holds) z

    module _ (long : given.as_long ≡ true) {k bits : ℕ} (g : Summing (instruction_slots scale) inputs given.program k bits) where
      pub program_ends : length h.codes.now ≤ k
          → Sizes (program_of given) (Ok bits)
      program_ends l =
          as_given (summing_ends (instruction_slots scale) inputs given.program g (omega (arith, program_long long, g.some)))

      pub program_stops : {r : Refusal} → k < length h.codes.now → mag (get_or h.codes.now k (pos 0)) < 2 ^ 63
          → mag (get_or h.firsts.now k (pos 0)) < 2 ^ 63 → mag (get_or h.seconds.now k (pos 0)) < 2 ^ 63
          → Sizes (instruction_slots scale (inputs + k)
          (raw (back (get_or h.codes.now k (pos 0))) (back (get_or h.firsts.now k (pos 0))) (back (get_or h.seconds.now k (pos 0))))) (Err r)
          → Sizes (program_of given) (Err r)
      program_stops l sc sf st z =
          as_given
          (summing_stops (instruction_slots scale) inputs given.program no_instruction g (omega (arith, program_long long))
          (kept long g l sc sf st z))
