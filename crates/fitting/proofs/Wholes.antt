-- A whole formula's tests: the header, the instructions, the outputs. Assumes nothing.
use mathlib.Core.Path.{◌≡◌, refl, sym, ◌∙◌, ap, ap₂, subst, subst₂}
use mathlib.Core.Bool.{Bool, true, false, cond, ◌&&◌}
use mathlib.Core.List.{List, ◌++◌}
use Prim.Native.Nat.{ℕ, ◌+◌, ◌^◌, ◌≤◌, ◌<◌}
use native.Mathlib.Nat.{add_assoc}
use native.Mathlib.Omega.{arith}
use Rattle.std.proofs.lemmas.Grind.{common_steps}
use borrow.Author.Tests.{eqb-true}
use lib.Dec.{eqb}
use lib.IntN.{ℤ, pos, negsuc, nat_abs}
use lib.ListN.{length}
use mir.Syntax.{w64}
use mir.Val.{SFits}
use mir.ValLaws.{to_z-of_z}
use Rattle.std.specs.declared.result.Result.TheVariants.{Ok, Err}
use Rattle.whole.proofs.Cases.{both}
use Rattle.whole.proofs.Machine.{back}
use Rattle.refusals.specs.declared.Refusal.{Refusal}
use Rattle.refusals.specs.Answer.{Answer, value, then}
use Rattle.refusals.specs.Places.{says_bare}
use Rattle.packing.specs.declared.Handed.TheInside.{Inside}
use Rattle.packing.specs.Lent.{lent}
use Rattle.packing.specs.Raw.{RawFormula, count, number_of, same_lengths, parts, handed, instructions_of}
use Rattle.packing.specs.Slots.{Slot, result_slots, header_of, program_of, results_of, raw_slots}
use Rattle.packing.proofs.Lengths.{program_wide, results_wide}
use Rattle.fitting.specs.Sizes.{Size, sized, Sizes, Counts, FormulaSizes}
use Rattle.fitting.proofs.Summing.{sized_append}
use Rattle.fitting.proofs.Programs.{length_instructions_of, sizes_width, program_long}

-- the number of instructions, by the lengths of the lists that carry them
pub count_is : (F m : ℤ) (cs fs ss os : List ℤ)
    → count (handed F m (parts cs fs ss os)) ≡ number_of (same_lengths (length cs) (length fs) (length ss)) (length cs)
count_is F m cs fs ss os = by_lengths (eqb (length cs) (length fs) && eqb (length cs) (length ss)) refl
  where
    by_lengths : (t : Bool) → eqb (length cs) (length fs) && eqb (length cs) (length ss) ≡ t
        → cond t (pos (length (instructions_of cs fs ss))) (negsuc 0) ≡ cond t (pos (length cs)) (negsuc 0)
    by_lengths true e =
        let b = both (eqb (length cs) (length fs)) (eqb (length cs) (length ss)) e in
        ap pos
        (length_instructions_of cs fs ss (eqb-true (length cs) (length fs) b.0) (eqb-true (length cs) (length ss) b.1))
    by_lengths false e = refl

-- ---- fields one after another

sizes_stop : {ss : List Slot} (ts : List Slot) {q : Refusal} → Sizes ss (Err q) → Sizes (ss ++ ts) (Err q)
sizes_stop {ss} ts z =
    record { answers = ap (λ (a : Answer ℕ). then a (λ m. then (sized ts) (λ n. value (m + n)))) z.answers ∙ sym (sized_append ss ts) }

abbrev more : ℕ → Size → Size
more x (Ok y) = Ok (x + y)
more x (Err q) = Err q

sizes_then : {ss ts : List Slot} {x : ℕ} (r : Size) → Sizes ss (Ok x) → Sizes ts r → Sizes (ss ++ ts) (more x r)
sizes_then {ss} {ts} {x} r z t =
    record {
      answers =
          by_answer r ∙ ap (λ (a : Answer ℕ). then a (λ n. value (x + n))) t.answers
          ∙ ap (λ (a : Answer ℕ). then a (λ m. then (sized ts) (λ n. value (m + n)))) z.answers ∙ sym (sized_append ss ts);
    }
  where
    by_answer : (r : Size) → says_bare (more x r) ≡ then (says_bare r) (λ n. value (x + n))
    by_answer (Ok y) = refl
    by_answer (Err q) = refl

-- ---- the header, then the instructions, then the outputs

module _ (given : RawFormula) where
  pub header_stops : {q : Refusal} → Sizes (header_of given) (Err q) → FormulaSizes given (Err q)
  unfolding raw_slots
  header_stops z = record { is = sizes_stop (program_of given ++ results_of given) z; few = tt }

  module _ {x : ℕ} (hd : Sizes (header_of given) (Ok x)) where
    counts : Counts given
    counts = grind (arith, common_steps)

    pub program_refused : {q : Refusal} → Sizes (program_of given) (Err q) → FormulaSizes given (Err q)
    unfolding raw_slots
    program_refused {q} z = record { is = sizes_then (Err q) hd (sizes_stop (results_of given) z); few = tt }

    module _ {y : ℕ} (pr : Sizes (program_of given) (Ok y)) where
      sum_few : {z : ℕ} → Sizes (results_of given) (Ok z) → x + (y + z) ≤ 2 ^ 20
      sum_few rs =
          omega (
            arith,
            sizes_width (header_of given) hd,
            sizes_width (program_of given) pr,
            program_wide (nat_abs given.scale) (nat_abs given.inputs) given.program,
            counts.instructions_few,
            sizes_width (results_of given) rs,
            results_wide (nat_abs given.inputs + length given.program) 0 given.results,
            counts.outputs_few,
          )

      module _ (h : Inside) (holds : lent h ≡ given) (fm : SFits w64 h.inputs) {m : ℕ} (em : m ≡ nat_abs (back h.inputs)) where
        as_given : {r : Size} → Sizes (result_slots (m + length h.codes.now) h.outputs.now) r → Sizes (results_of given) r
        as_given {r} z =
            subst₂ (λ (v : ℕ) (os : List ℤ). Sizes (result_slots v os) r)
            (ap₂ (λ (a b : ℕ). a + b) (em ∙ ap nat_abs (to_z-of_z w64 h.inputs fm) ∙ ap (λ (r : RawFormula). nat_abs r.inputs) holds)
            (sym (program_long h holds counts.as_long)))
            (ap (λ (r : RawFormula). r.results) holds) z

        pub results_refused : {q : Refusal} → Sizes (result_slots (m + length h.codes.now) h.outputs.now) (Err q)
            → FormulaSizes given (Err q)
        unfolding raw_slots
        results_refused {q} z = record { is = sizes_then (Err q) hd (sizes_then (Err q) pr (as_given z)); few = tt }

        module _ {z : ℕ} (rs : Sizes (result_slots (m + length h.codes.now) h.outputs.now) (Ok z)) where
          pub sums_near : (x + y < 2 ^ 64) × (x + y + z < 2 ^ 64)
          sums_near = (omega (arith, sum_few (as_given rs)), omega (arith, sum_few (as_given rs)))

          pub formula_fits : FormulaSizes given (Ok (x + y + z))
          unfolding raw_slots
          formula_fits =
              record {
                is = subst (λ (n : ℕ). Sizes (raw_slots given) (Ok n)) (sym (add_assoc x y z))
                    (sizes_then (Ok (y + z)) hd (sizes_then (Ok z) pr (as_given rs)));
                few = omega (arith, sum_few (as_given rs));
              }
