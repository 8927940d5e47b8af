-- What the header answers, field after field, out of what is ahead of the first bit. Assumes nothing.
use mathlib.Core.Path.{◌≡◌, refl}
use mathlib.Core.Bool.{true}
use mathlib.Core.List.{List}
use mathlib.Core.Logic.{◌⊎◌}
use Prim.Native.Nat.{ℕ, ◌+◌, ◌*◌, ◌/◌, ◌≤◌, ◌<◌, zero-le}
use native.Mathlib.Omega.{arith}
use lib.Dec.{lit≤}
use lib.ListN.{length, drop}
use Rattle.refusals.specs.declared.Refusal.TheVariants as refusal
use Rattle.refusals.specs.Answer.{value, refuse}
use Rattle.bits.specs.declared.Cursor.{Cursor}
use Rattle.bits.specs.Bits.{bits}
use Rattle.bits.specs.Fields.{Ahead}
use Rattle.formulas.specs.Formula.{InLimits}
use Rattle.packed.specs.Items.{FieldKind, version, scale, inputs, instructions, outputs, width, permitted, complaint, entry}
use Rattle.packed.specs.Format.{header}
use Rattle.packed.specs.Given.{Wrong}
use Rattle.packed.proofs.FieldIn.{between}
use Rattle.heading.proofs.Fetched.{missing, wrong, fine}
use Rattle.packed.proofs.GivenExactly.{wrong_not_permitted}
use Rattle.heading.specs.HeaderAnswers.{field_at, header_of, HeaderRefused, HeaderWhole}

abbrev first_bit : Cursor
first_bit = record { at = 0 }

module _ (s : List ℕ) (x : ℕ) (ahead : Ahead 57 (bits s) x) where
  -- the field of kind k that starts o bits on is not there, or lies within the first n bytes
  cut_off : (o : ℕ) (k : FieldKind) → 1 ≤ width k → length s < (0 + (o + width k + 7)) / 8
      → entry k (drop o (bits s)) ≡ refuse refusal.Ended
  cut_off o k some l = missing s first_bit x ahead o k some l

  module _ (n o : ℕ) (k : FieldKind) (some : 1 ≤ width k) (near : o + width k ≤ 57) (in_n : o + width k ≤ 8 * n)
      (l : n ≤ length s) where
    bad : Wrong k (field_at x o (width k)) → entry k (drop o (bits s)) ≡ refuse (complaint k)
    bad w = wrong s first_bit x ahead o k some near (record { is = omega arith }) (wrong_not_permitted k _ w)

    good : permitted k (field_at x o (width k)) ≡ true
        → entry k (drop o (bits s)) ≡ value (record { got = field_at x o (width k); left = drop (o + width k) (bits s) })
    good e = fine s first_bit x ahead o k some near (record { is = omega arith }) e

  pub no_version : length s < 1 → HeaderRefused s refusal.Ended
  unfolding header
  no_version l = record { is = rw (cut_off 0 version (lit≤ tt) l) }

  module _ (one : 1 ≤ length s) where
    pub version_wrong : (field_at x 0 7 ≡ 1 → ⊥) → HeaderRefused s refusal.Version
    unfolding header
    version_wrong d = record { is = rw (bad 1 0 version (lit≤ tt) (lit≤ tt) (lit≤ tt) one d) }

    module _ (v : field_at x 0 7 ≡ 1) where
      version_fine : entry version (bits s) ≡ value (record { got = field_at x 0 7; left = drop 7 (bits s) })
      version_fine =
          good 1 0 version (lit≤ tt) (lit≤ tt) (lit≤ tt) one (between 1 2 (field_at x 0 7) (omega arith) (omega arith))

      pub no_scale : length s < 2 → HeaderRefused s refusal.Ended
      unfolding header
      no_scale l = record { is = rw (version_fine, cut_off 7 scale (lit≤ tt) l) }

      module _ (two : 2 ≤ length s) where
        pub scale_wrong : 31 ≤ field_at x 7 5 → HeaderRefused s refusal.Scale
        unfolding header
        scale_wrong l = record { is = rw (version_fine, bad 2 7 scale (lit≤ tt) (lit≤ tt) (lit≤ tt) two l) }

        module _ (F : field_at x 7 5 < 31) where
          scale_fine : entry scale (drop 7 (bits s)) ≡ value (record { got = field_at x 7 5; left = drop 12 (bits s) })
          scale_fine = good 2 7 scale (lit≤ tt) (lit≤ tt) (lit≤ tt) two (between 0 31 _ zero-le F)

          pub no_inputs : length s < 3 → HeaderRefused s refusal.Ended
          unfolding header
          no_inputs l = record { is = rw (version_fine, scale_fine, cut_off 12 inputs (lit≤ tt) l) }

          module _ (three : 3 ≤ length s) where
            pub inputs_wrong : 17 ≤ field_at x 12 5 → HeaderRefused s refusal.Count
            unfolding header
            inputs_wrong l =
                let e = bad 3 12 inputs (lit≤ tt) (lit≤ tt) (lit≤ tt) three l in
                record { is = rw (version_fine, scale_fine, e) }

            module _ (m : field_at x 12 5 < 17) where
              inputs_fine : entry inputs (drop 12 (bits s)) ≡ value (record {
                got =
                    field_at x 12 5;
                left = drop 17 (bits s);
              })
              inputs_fine = good 3 12 inputs (lit≤ tt) (lit≤ tt) (lit≤ tt) three (between 0 17 _ zero-le m)

              pub no_instructions : length s < 4 → HeaderRefused s refusal.Ended
              unfolding header
              no_instructions l =
                  record { is = rw (version_fine, scale_fine, inputs_fine, cut_off 17 instructions (lit≤ tt) l) }

              module _ (four : 4 ≤ length s) where
                pub instructions_wrong : 513 ≤ field_at x 17 10 → HeaderRefused s refusal.Count
                unfolding header
                instructions_wrong l =
                    let e = bad 4 17 instructions (lit≤ tt) (lit≤ tt) (lit≤ tt) four l in
                    record { is = rw (version_fine, scale_fine, inputs_fine, e) }

                module _ (n : field_at x 17 10 < 513) where
                  instructions_fine : entry instructions (drop 17 (bits s))
                      ≡ value (record { got = field_at x 17 10; left = drop 27 (bits s) })
                  instructions_fine =
                      good 4 17 instructions (lit≤ tt) (lit≤ tt) (lit≤ tt) four (between 0 513 _ zero-le n)

                  pub outputs_out : (field_at x 27 5 < 1) ⊎ (17 ≤ field_at x 27 5) → HeaderRefused s refusal.Count
                  unfolding header
                  outputs_out l =
                      let e = bad 4 27 outputs (lit≤ tt) (lit≤ tt) (lit≤ tt) four l in
                      record { is = rw (version_fine, scale_fine, inputs_fine, instructions_fine, e) }

                  pub header_whole : 1 ≤ field_at x 27 5 → field_at x 27 5 < 17 → HeaderWhole s x (record { at = 32 })
                  unfolding header
                  header_whole l k =
                      let e = good 4 27 outputs (lit≤ tt) (lit≤ tt) (lit≤ tt) four (between 1 17 _ l k) in
                      let limits : InLimits (header_of x) = record {
                        scale_small = omega arith;
                        inputs_few = omega arith;
                        instructions_few = omega arith;
                        some_output = l;
                        outputs_few = omega arith;
                      } in
                      record {
                        is = rw (version_fine, scale_fine, inputs_fine, instructions_fine, e);
                        well = record { limits = limits; past = refl };
                      }

-- what `pass` finds, test after test
pub ruleset found = (no_version, version_wrong, no_scale, scale_wrong, no_inputs, inputs_wrong, no_instructions, instructions_wrong, outputs_out, header_whole)
