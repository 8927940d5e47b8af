-- A constant with a margin, read off a loaded cursor and the bytes up to its end. Assumes nothing.
use mathlib.Core.Path.{◌≡◌, refl, sym, ◌∙◌, ap}
use mathlib.Core.Bool.{Bool, true, false}
use mathlib.Core.List.{List}
use Prim.Native.Nat.{ℕ, ◌+◌, ◌-◌, ◌*◌, ◌/◌, ◌^◌, ◌≤◌, ◌<◌}
use native.Mathlib.Omega.{arith}
use lib.Dec.{ltb, lit≤}
use lib.IntN.{ℤ, nat_abs}
use lib.ListN.{length, take, drop}
use lib.Pow.{shr_lt}
use lib.Seq.{drop-drop}
use borrow.Author.Tests.{ltb-true, ltb-false, le-leb, lt-leb}
use Rattle.std.specs.declared.result.Result.TheVariants.{Ok, Err}
use Rattle.whole.proofs.Machine.{back}
use Rattle.refusals.specs.declared.Refusal.TheVariants as refusal
use Rattle.refusals.specs.Answer.{value, refuse}
use Rattle.refusals.proofs.Answers.{same_value}
use Rattle.rules.specs.Numbers.{M}
use Rattle.bits.specs.Bits.{bits, number}
use Rattle.bits.specs.Reader.{Read, field}
use Rattle.bits.specs.Fields.{before, EndsAt}
use Rattle.bits.proofs.Digits.{bits_are, are_bits_drop}
use Rattle.bits.proofs.Take.{field_got, field_bits}
use Rattle.formulas.specs.declared.Instruction.{Instruction}
use Rattle.formulas.specs.declared.Instruction.TheVariants.{Coefficient}
use Rattle.packed.specs.declared.coefficient.Centred.{Centred}
use Rattle.packed.specs.declared.loaded.Loaded.{Loaded}
use Rattle.packed.specs.declared.loaded.Taken.{Taken}
use Rattle.packed.specs.Items.{code, centre, margin, twos_complement, permitted, entry, Form, ask, done, read}
use Rattle.packed.specs.Format.{with_margin, instruction, widest}
use Rattle.packed.specs.Loading.{place_of, left, taken, Carries}
use Rattle.packed.specs.ReaderAnswers.{ReadFrom, InstructedFrom, Reaches, Beyond, Fifth, WithMargin}
use Rattle.packed.specs.ReaderAnswers.{IsCentred, code_taken, constant_taken, margin_bits}
use Rattle.packed.specs.Walk.{Readable, DecodesFrom}
use Rattle.packed.proofs.FieldIn.{above_out, test_failed, test_passed}
use Rattle.packed.proofs.Instructions.{twos_complement_size, by_code_margin}
use Rattle.packed.proofs.Taking.{left_long, missing, wrong, fine}
use Rattle.packed.proofs.Inside.{past_code, constant_kept, refuses_at, refuses, coded_as}
use Rattle.packed.proofs.Shapes as shapes

-- a centre, and a margin behind it
abbrev made : ℕ → ℕ → Form Instruction
made c r = done (Coefficient (twos_complement c) r)

-- ---- its fields on a file

module _ {s : List ℕ} {l : Loaded} (carries : Carries s l 57) where
  -- no centre is refused
  centre_is : Reaches s (constant_taken l).rest → entry centre (left s (code_taken l).rest)
      ≡ value (record { got = (constant_taken l).field; left = margin_bits s l })
  centre_is t = fine s (code_taken l).rest centre (lit≤ tt) 22 (past_code carries) (lit≤ tt) t refl

  margin_missing : 8 * length s < l.at + widest → read with_margin (left s (code_taken l).rest) ≡ refuse refusal.Ended
  margin_missing e = by_test (ltb (8 * length s) (constant_taken l).rest.at) refl
    where
      by_test : (t : Bool) → ltb (8 * length s) (constant_taken l).rest.at ≡ t
          → read with_margin (left s (code_taken l).rest) ≡ refuse refusal.Ended
      by_test true u = rw (missing s (code_taken l).rest centre (lit≤ tt) (ltb-true _ _ u))
      by_test false u =
          rw (
            centre_is (record { is = ltb-false _ _ u }),
            missing s (constant_taken l).rest (margin (constant_taken l).field) (lit≤ tt) (omega (arith, e)),
          )

  module _ (t : l.at + widest ≤ 8 * length s) where
    abbrev c : ℕ
    c = (constant_taken l).field

    abbrev r : ℕ
    r = number (take 31 (margin_bits s l))

    centre_first : entry centre (left s (code_taken l).rest) ≡ value (record { got = c; left = margin_bits s l })
    centre_first = centre_is (record { is = omega (arith, t) })

    margin_got : field 31 (margin_bits s l) ≡ value (record { got = r; left = before s (record { at = l.at + widest }) })
    margin_got =
        field_got 31 (margin_bits s l) (omega (arith, t, left_long s (constant_taken l).rest))
        ∙ ap (λ (bs : List ℕ). value (record { got = r; left = bs })) behind
      where
        behind : drop 31 (margin_bits s l) ≡ drop (l.at + widest) (bits s)
        behind = drop-drop 31 (l.at + 3 + 32) (bits s) ∙ ap (λ (n : ℕ). drop n (bits s)) place
          where
            place : l.at + 3 + 32 + 31 ≡ l.at + widest
            place = omega arith

    margin_wrong : M < nat_abs (twos_complement c) + r → read with_margin (left s (code_taken l).rest) ≡ refuse refusal.Constant
    margin_wrong m =
        rw (
          centre_first,
          test_failed 31 (permitted (margin c)) refusal.Constant (margin_bits s l) margin_got (lt-leb _ M m),
        )

    margin_fine : nat_abs (twos_complement c) + r ≤ M → read with_margin (left s (code_taken l).rest)
        ≡ value (record { got = Coefficient (twos_complement c) r; left = before s (record { at = l.at + widest }) })
    margin_fine m =
        rw (
          centre_first,
          test_passed 31 (permitted (margin c)) refusal.Constant (margin_bits s l) margin_got (le-leb _ M m),
        )

-- ---- as the code takes them

-- a centre and its margin, gathered
module _ {s : List ℕ} {l : Loaded} (w : WithMargin s l) where
  pub margin_ends : EndsAt s (l.at + 66) 31
  margin_ends =
      record {
        some = lit≤ tt;
        narrow = lit≤ tt;
        eight_there = omega arith;
        near = omega (arith, w.near);
        reaches = w.reaches;
      }

  pub margin_end : l.at + 66 < 2 ^ 64
  margin_end = omega (arith, w.near)

  pub gathered : {c k : Taken} {z : ℤ} {n : ℕ} → c ≡ taken 3 l → k ≡ taken 32 c.rest → z ≡ twos_complement k.field
      → n ≡ number (take 31 (drop (l.at + 66 - 31) (bits s))) → IsCentred s l (record { centre = back z; margin = n })
  gathered {c} {k} tc tk tz tn =
      let is : k ≡ constant_taken l = tk ∙ ap (λ (t : Taken). taken 32 t.rest) tc in
      record {
        centre_is = constant_kept w.carries (rw is at tz);
        margin_is = tn ∙ ap (λ (m : ℕ). number (take 31 (drop m (bits s)))) place;
      }
    where
      place : l.at + 66 - 31 ≡ l.at + 3 + 32
      place = omega arith

-- a place a little further on
pub end_fits : {s : List ℕ} {l : Loaded} {n : ℕ} → Fifth s l → n ≤ 1024 → l.at + n < 2 ^ 64
end_fits o m = omega (arith, o.near)

pub test_fits : {s : List ℕ} {l : Loaded} {n : ℕ} → Fifth s l → n ≤ 1024 → l.at + n + 7 < 2 ^ 64
test_fits o m = omega (arith, o.near)

module _ {s : List ℕ} {l : Loaded} (o : Beyond s l) {c : Taken} (tc : c ≡ taken 3 l) where
  pub is_fifth : c.field ≡ 5 → Fifth s l
  is_fifth e = record { near = o.near; carries = o.carries; code_there = o.code_there; is_five = rw tc at e }

  pub no_such_code : (F v : ℕ) → (c.field ≡ 5 → ⊥) → (c.field ≡ 6 → ⊥) → InstructedFrom s F v l (Err refusal.Code)
  unfolding instruction
  no_such_code F v five six =
      let other : ((code_taken l).field ≡ 5 → ⊥) = rw tc at five in
      let another : ((code_taken l).field ≡ 6 → ⊥) = rw tc at six in
      let out : 7 ≤ (code_taken l).field = omega (arith, o.from_five, other, another) in
      refuses_at s v l o.carries (rw (wrong s l code (lit≤ tt) 54 o.carries (lit≤ tt) o.code_there (above_out 0 7 _ out)))

module _ {s : List ℕ} {l : Loaded} (o : Fifth s l) where
  asks : (F v : ℕ) → read (instruction F v) (left s l) ≡ read with_margin (left s (code_taken l).rest)
  asks F v =
      coded_as s v l o.carries o.code_there F 5 (lit≤ tt) o.is_five
      ∙ by_code_margin F v (left s (code_taken l).rest)

  pub margin_ended : {n : ℕ} → length s < (l.at + n + 7) / 8 → n ≤ 66 → ReadFrom s l (Err refusal.Ended)
  margin_ended e m = record { is = λ v. refuses s v l o.carries (λ F. asks F v ∙ margin_missing o.carries (omega (arith, e))) }

  module _ (e : (l.at + 66 + 7) / 8 ≤ length s) where
    all_there : l.at + widest ≤ 8 * length s
    all_there = omega (arith, e)

    pub both_there : WithMargin s l
    both_there = record { near = o.near; carries = o.carries; reaches = all_there }

    module _ {g : Centred} (gets : IsCentred s l g) where
      is_kept : back g.centre ≡ twos_complement (constant_taken l).field
      is_kept = constant_kept o.carries gets.centre_is

      margin_small : g.margin < 2 ^ 31
      margin_small =
          rw gets.margin_is (field_bits 31 (are_bits_drop (l.at + 3 + 32) (bits_are s)) (margin_got o.carries all_there)).0

      module _ {n : ℕ} (tn : n ≡ nat_abs (back g.centre)) where
        -- a size and a margin are added in 64 bits
        pub reach_fits : n + g.margin < 2 ^ 64
        reach_fits =
            let is : n ≡ nat_abs (twos_complement (constant_taken l).field) = tn ∙ ap nat_abs is_kept in
            omega (
              arith,
              is,
              margin_small,
              twos_complement_size (constant_taken l).field (shr_lt 32 32 (past_code o.carries).small),
            )

        pub margin_refused : M < n + g.margin → ReadFrom s l (Err refusal.Constant)
        margin_refused over =
            let far = rw (tn, is_kept, gets.margin_is) at over in
            record { is = λ v. refuses s v l o.carries (λ F. asks F v ∙ margin_wrong o.carries all_there far) }

        pub margin_ahead : n + g.margin ≤ M
            → ReadFrom s l (Ok (record { instruction = Coefficient (back g.centre) g.margin; next = record { at = l.at + 66 } }))
        margin_ahead within =
            let near = rw (tn, is_kept, gets.margin_is) at within in
            rw (is_kept, gets.margin_is)
            (record { is = λ v. record { is = λ F. record { is = record { answers = sym (asks F v ∙ margin_fine o.carries all_there near); past = omega arith } } } })

-- ---- and as a walk takes them

module _ {s : List ℕ} {l : Loaded} {c : Taken} (carries : Carries s l 57) (tc : c ≡ taken 3 l) (five : 5 ≤ c.field)
    (margined : c.field ≡ 6 → ⊥) where
  is_margined : (F v : ℕ) {y : Read Instruction} → read (instruction F v) (left s l) ≡ value y → (code_taken l).field ≡ 5
  is_margined F v e =
      let least : 5 ≤ (code_taken l).field = rw tc at five in
      let other : ((code_taken l).field ≡ 6 → ⊥) = rw tc at margined in
      omega (arith, least, other, shapes.code_known s l carries F v e)

  -- what was read began with a centre, and a margin was behind it
  centre_asked : (F v : ℕ) {y : Read Instruction} → read (instruction F v) (left s l) ≡ value y
      → read (ask (margin (constant_taken l).field) (made (constant_taken l).field)) (margin_bits s l) ≡ value y
  centre_asked F v e =
      let is_five = is_margined F v e in
      shapes.next centre 22 (λ n. ask (margin n) (made n)) (past_code carries) (lit≤ tt) (lit≤ tt)
      (sym (by_code_margin F v (left s (code_taken l).rest)) ∙ rw is_five at (shapes.coded s l carries F v e))

  margin_asked : (F v : ℕ) {y : Read Instruction} → read (instruction F v) (left s l) ≡ value y
      → shapes.Asked (margin (constant_taken l).field) (made (constant_taken l).field) (margin_bits s l) y
  margin_asked F v e =
      shapes.asked (margin (constant_taken l).field) (made (constant_taken l).field) (margin_bits s l) (centre_asked F v e)

  pub margin_readable : l.at ≤ 2 ^ 30 → Readable s (place_of l) → WithMargin s l
  margin_readable near r =
      record {
        near = near;
        carries = carries;
        reaches = omega (arith, (margin_asked r.scale r.below r.reads).there, left_long s (constant_taken l).rest);
      }

  pub decoded_coefficient : {g : Centred} → IsCentred s l g
      → DecodesFrom s l (Coefficient (back g.centre) g.margin) (record { at = l.at + 66 })
  decoded_coefficient {g} gets =
      rw (constant_kept carries gets.centre_is, gets.margin_is)
      (record {
        is =
            record {
              decoded = λ F v y e.
                  let same = same_value (margin_asked F v e).follows in (
                    ap (λ (z : Read Instruction). z.got) same,
                    behind ∙ ap (λ (z : Read Instruction). z.left) same,
                  );
              stands = omega arith;
            };
      })
    where
      behind : drop (l.at + 66) (bits s) ≡ drop 31 (margin_bits s l)
      behind = sym (drop-drop 31 (l.at + 3 + 32) (bits s) ∙ ap (λ (n : ℕ). drop n (bits s)) place)
        where
          place : l.at + 3 + 32 + 31 ≡ l.at + 66
          place = omega arith
