-- A field out of what is ahead of a cursor: it is missing, or wrong, or fine. Assumes nothing.
use mathlib.Core.Path.{◌≡◌, sym, ◌∙◌, ap₂}
use mathlib.Core.Bool.{true, false}
use mathlib.Core.List.{List}
use Prim.Native.Nat.{ℕ, ◌+◌, ◌-◌, ◌*◌, ◌/◌, ◌≤◌, ◌<◌}
use native.Mathlib.Omega.{arith}
use lib.ListN.{length, drop, length-drop}
use lib.Seq.{drop-drop}
use Rattle.refusals.specs.declared.Refusal.TheVariants as refusal
use Rattle.refusals.specs.Answer.{value, refuse}
use Rattle.bits.specs.declared.Cursor.{Cursor}
use Rattle.bits.specs.Bits.{bits}
use Rattle.bits.specs.Reader.{field}
use Rattle.bits.specs.Fields.{before, Ahead}
use Rattle.bits.proofs.Gather.{length_bits}
use Rattle.bits.proofs.Take.{field_got, field_ended}
use Rattle.packed.specs.Items.{FieldKind, width, permitted, complaint, entry}
use Rattle.heading.specs.HeaderAnswers.{field_at, There}
use Rattle.packed.proofs.FieldIn.{test_cut, test_failed, test_passed}

-- the field of kind k that starts o bits on
module _ (s : List ℕ) (c : Cursor) (x : ℕ) (ahead : Ahead 57 (before s c) x) (o : ℕ) (k : FieldKind) (some : 1 ≤ width k) where
  abbrev bs : List ℕ
  bs = before s c

  long : length bs ≡ 8 * length s - c.at
  long = omega (arith, length-drop c.at (bits s), length_bits s)

  pub missing : length s < (c.at + (o + width k + 7)) / 8 → entry k (drop o bs) ≡ refuse refusal.Ended
  missing l =
      test_cut (width k) (permitted k) (complaint k) (drop o bs)
      (field_ended (width k) (drop o bs) (omega (arith, long, length-drop o bs)))

  module _ (near : o + width k ≤ 57) (t : There s c (o + width k)) where
    taken : field (width k) (drop o bs) ≡ value (record { got = field_at x o (width k); left = drop (o + width k) bs })
    taken =
        field_got (width k) (drop o bs) (omega (arith, t.is, long, length-drop o bs))
        ∙ ap₂ (λ (n : ℕ) (l : List ℕ). value (record { got = n; left = l }))
        (sym (ahead o (width k) some near (omega (arith, t.is, long)))) (drop-drop (width k) o bs)

    pub wrong : permitted k (field_at x o (width k)) ≡ false → entry k (drop o bs) ≡ refuse (complaint k)
    wrong e = test_failed (width k) (permitted k) (complaint k) (drop o bs) taken e

    pub fine : permitted k (field_at x o (width k)) ≡ true
        → entry k (drop o bs) ≡ value (record { got = field_at x o (width k); left = drop (o + width k) bs })
    fine e = test_passed (width k) (permitted k) (complaint k) (drop o bs) taken e
