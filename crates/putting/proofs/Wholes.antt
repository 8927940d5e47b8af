-- A whole formula put part by part, and what then stands in the list. Assumes nothing.
use mathlib.Core.Path.{◌≡◌, sym, ◌∙◌, ap, subst}
use mathlib.Core.List.{List, [], ◌++◌}
use Prim.Native.Nat.{ℕ, ◌+◌, ◌*◌, ◌≤◌}
use native.Mathlib.Omega.{arith}
use lib.IntN.{ℤ, nat_abs}
use lib.ListN.{length}
use Rattle.lists.specs.Written.{Wrote}
use Rattle.lists.proofs.Again.{wrote_nothing, wrote_then, wrote_same}
use Rattle.writing.specs.declared.Writer.{Writer}
use Rattle.writing.specs.Bytes.{bytes_of}
use Rattle.writing.specs.Pending.{MayFinish, last_bytes}
use Rattle.writing.proofs.Pendings.{nothing_pending, close}
use Rattle.packed.specs.Items.{inputs}
use Rattle.packed.proofs.WellFormed.{in_range}
use Rattle.packing.specs.declared.Handed.TheInside.{Inside}
use Rattle.packing.specs.Lent.{lent}
use Rattle.packing.specs.Raw.{RawFormula}
use Rattle.packing.specs.Slots.{Slot, header_of, program_of, results_of, raw_slots, slots_bits}
use Rattle.packing.specs.Slots.{slots_width, packed_bytes}
use Rattle.packing.proofs.Packs.{AllFit, tested_all, all_tested, all_apart, is_natural, fit_accepted}
use Rattle.packing.proofs.Lengths.{width_append}
use Rattle.putting.specs.Putting.{Written, PutsSlots, HeaderPuttable, PutsHeader, ProgramPuttable, PutsProgram}
use Rattle.putting.specs.Putting.{ResultsPuttable, PutsResults}
use Rattle.putting.specs.Writing.{Writable, WritesFormula}
use Rattle.putting.proofs.Puttings.{slots_then}
use Rattle.putting.proofs.Headers.{numbers}

module _ {given : RawFormula} {out : List ℕ} (p : Writable given out) where
  -- the parts that passed
  record Passed : Type 0 where
    header_fits : AllFit (header_of given)
    program_fits : AllFit (program_of given)
    results_fit : AllFit (results_of given)

  passed : Passed
  unfolding raw_slots
  passed =
      let parts = all_apart (header_of given) (program_of given ++ results_of given) (tested_all (raw_slots given) p.passed) in
      let body = all_apart (program_of given) (results_of given) parts.1 in
      record { header_fits = parts.0; program_fits = body.0; results_fit = body.1 }

  room : 32 + (slots_width (program_of given) + slots_width (results_of given)) ≤ 8 * length out
  unfolding raw_slots
  room =
      omega (
        arith,
        p.room,
        width_append (header_of given) (program_of given ++ results_of given),
        width_append (program_of given) (results_of given),
      )

  pub header_asks : HeaderPuttable given out
  header_asks = record { passed = all_tested (header_of given) passed.header_fits; room = omega (arith, room) }

  few : nat_abs given.inputs + length given.program ≤ 1024
  few =
      let n = numbers header_asks in
      omega (arith, ap nat_abs n.inputs_natural, in_range 0 17 (nat_abs given.inputs) (is_natural inputs given.inputs passed.header_fits.1.1.0).may, n.instructions_low)

  module _ {one : List ℕ} {w : Writer} (header : PutsHeader given out one w) (long_one : length one ≡ length out) where
    pub program_may : ProgramPuttable given w one
    program_may =
        record {
          scale = nat_abs given.scale;
          makes = nat_abs given.inputs;
          as_long = (numbers header_asks).long;
          low = few;
          puttable =
              record {
                passed = all_tested (program_of given) passed.program_fits;
                few = header.puts.few;
                room = omega (arith, header.puts.place, room, long_one);
              };
        }

    module _ {two : List ℕ} {u : Writer} (q : PutsProgram given w one two u) (long_two : length two ≡ length one) where
      put_program : PutsSlots (program_of given) w one two u
      put_program = q.puts (nat_abs given.scale) (nat_abs given.inputs)

      results_are_may : ResultsPuttable given.results u two
      results_are_may =
          record {
            values = nat_abs given.inputs + length given.program;
            low = few;
            puttable =
                record {
                  passed = all_tested (results_of given) passed.results_fit;
                  few = put_program.few;
                  room = omega (arith, header.puts.place, put_program.place, room, long_one, long_two);
                };
          }

      module _ (h : Inside) (holds : lent h ≡ given) where
        outputs_are : h.outputs.now ≡ given.results
        outputs_are = ap (λ (r : RawFormula). r.results) holds

        pub results_may : ResultsPuttable h.outputs.now u two
        results_may = subst (λ (os : List ℤ). ResultsPuttable os u two) (sym outputs_are) results_are_may

        module _ {three : List ℕ} {v : Writer} (r : PutsResults h.outputs.now u two three v) (long_three : length three ≡ length two) where
          put_results : PutsSlots (results_of given) u two three v
          put_results =
              (subst (λ (os : List ℤ). PutsResults os u two three v) outputs_are r).puts (nat_abs given.inputs + length given.program)

          pub finish_may : MayFinish v three
          finish_may =
              record {
                few = put_results.few;
                room =
                    omega (
                      arith,
                      header.puts.place,
                      put_program.place,
                      put_results.place,
                      room,
                      long_one,
                      long_two,
                      long_three,
                    );
              }

          all_put : Written (slots_bits (raw_slots given)) out three v
          unfolding raw_slots
          all_put =
              (slots_then header.puts (slots_then put_program put_results)).onward [] out
              (record { bytes = []; wrote = wrote_nothing (omega arith); pending = nothing_pending 0 })

          pub formula_written : {new : List ℕ} {n : ℕ} → Wrote (last_bytes v.count v.held) v.at three new n
              → WritesFormula given out new n
          unfolding packed_bytes
          formula_written e =
              record {
                wrote =
                    wrote_same
                    (sym (close all_put.pending)
                    ∙ ap (λ (ss : List Slot). bytes_of (slots_bits ss))
                    (sym (fit_accepted given (tested_all (raw_slots given) p.passed)).fields))
                    (wrote_then all_put.wrote e);
              }
