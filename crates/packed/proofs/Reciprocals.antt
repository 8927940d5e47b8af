-- A reciprocal, read off a loaded cursor: the scale is tested right after the code, before the operand. Assumes nothing.
use mathlib.Core.Path.{◌≡◌, sym, ◌∙◌, ap}
use mathlib.Core.Bool.{Bool, true, false}
use mathlib.Core.List.{List}
use Prim.Native.Nat.{ℕ, ◌*◌, ◌≤◌, ◌<◌, zero-le}
use native.Mathlib.Omega.{arith}
use lib.Dec.{ltb, lit≤}
use lib.ListN.{length}
use borrow.Author.Tests.{le-leb, lt-leb, ltb-true, ltb-false}
use Rattle.std.specs.declared.result.Result.TheVariants.{Ok, Err}
use Rattle.refusals.specs.declared.Refusal.TheVariants as refusal
use Rattle.refusals.specs.Answer.{value, refuse}
use Rattle.refusals.proofs.Answers.{same_value}
use Rattle.rules.specs.Reciprocals.{top_reciprocal_scale}
use Rattle.bits.specs.declared.Cursor.{Cursor}
use Rattle.bits.specs.Reader.{Read}
use Rattle.bits.proofs.Take.{field_got}
use Rattle.formulas.specs.declared.Instruction.{Instruction}
use Rattle.formulas.specs.declared.Instruction.TheVariants.{Reciprocal}
use Rattle.packed.specs.declared.loaded.Loaded.{Loaded}
use Rattle.packed.specs.declared.loaded.Taken.{Taken}
use Rattle.packed.specs.Items.{operand, small_scale, permitted, Form, ask, done, read}
use Rattle.packed.specs.Format.{of_one_divided, instruction}
use Rattle.packed.specs.Loading.{place_of, left, taken, Carries}
use Rattle.packed.specs.ReaderAnswers.{InstructedFrom, Reaches, Beyond, Sixth, code_taken, first_taken}
use Rattle.packed.specs.Walk.{DecodesFrom}
use Rattle.packed.proofs.FieldIn.{test_failed, test_passed}
use Rattle.packed.proofs.Instructions.{by_code_reciprocal}
use Rattle.packed.proofs.Taking.{missing}
use Rattle.packed.proofs.Inside.{past_code, refuses_at, gives_at, coded_as, first_fine, first_wrong}
use Rattle.packed.proofs.Shapes as shapes

-- what is asked for behind the scale's test
abbrev made : ℕ → Form Instruction
made i = done (Reciprocal i)

abbrev divisor : ℕ → Form Instruction
divisor v = ask (operand v) made

-- ---- the test of the scale, a field of no bits

module _ (F v : ℕ) (bs : List ℕ) where
  scale_wrong : top_reciprocal_scale < F → read (of_one_divided F v) bs ≡ refuse refusal.ReciprocalScale
  scale_wrong l =
      rw (test_failed 0 (permitted (small_scale F)) refusal.ReciprocalScale bs (field_got 0 bs zero-le) (lt-leb F top_reciprocal_scale l))

  scale_fine : F ≤ top_reciprocal_scale → read (of_one_divided F v) bs ≡ read (divisor v) bs
  scale_fine l =
      rw (test_passed 0 (permitted (small_scale F)) refusal.ReciprocalScale bs (field_got 0 bs zero-le) (le-leb F top_reciprocal_scale l))

-- ---- as the code takes its fields

pub is_sixth : {s : List ℕ} {l : Loaded} {c : Taken} → Beyond s l → c ≡ taken 3 l → c.field ≡ 6 → Sixth s l
is_sixth o tc e = record { near = o.near; carries = o.carries; code_there = o.code_there; is_six = rw tc at e }

module _ {s : List ℕ} {l : Loaded} (o : Sixth s l) where
  asks : (F v : ℕ) → read (instruction F v) (left s l) ≡ read (of_one_divided F v) (left s (code_taken l).rest)
  asks F v =
      coded_as s v l o.carries o.code_there F 6 (lit≤ tt) o.is_six
      ∙ by_code_reciprocal F v (left s (code_taken l).rest)

  pub scale_refused : (F v : ℕ) {n : ℕ} → n < F → 16 ≤ n → InstructedFrom s F v l (Err refusal.ReciprocalScale)
  scale_refused F v m k = refuses_at s v l o.carries (asks F v ∙ scale_wrong F v (left s (code_taken l).rest) (omega arith))

  module _ {c : Taken} (tc : c ≡ taken 3 l) {i : Taken} (ti : i ≡ taken 10 c.rest) where
    is_first : i ≡ first_taken l
    is_first = ti ∙ ap (λ (t : Taken). taken 10 t.rest) tc

    asks_one : (F v : ℕ) → F ≤ 16 → read (instruction F v) (left s l) ≡ read (divisor v) (left s (code_taken l).rest)
    asks_one F v fits = asks F v ∙ scale_fine F v (left s (code_taken l).rest) fits

    module _ {d : Bool} (td : d ≡ ltb (8 * length s) i.rest.at) where
      first_test : d ≡ ltb (8 * length s) (first_taken l).rest.at
      first_test = rw is_first at td

      pub divisor_ended : (F v : ℕ) → F ≤ 16 → d ≡ true → InstructedFrom s F v l (Err refusal.Ended)
      divisor_ended F v fits e =
          refuses_at s v l o.carries
          (asks_one F v fits ∙ rw (missing s (code_taken l).rest (operand v) (lit≤ tt) (ltb-true _ _ (sym first_test ∙ e))))

      module _ (e : d ≡ false) where
        reaches : Reaches s (first_taken l).rest
        reaches = record { is = ltb-false _ _ (sym first_test ∙ e) }

        pub divisor_refused : (F v : ℕ) → F ≤ 16 → v ≤ i.field → InstructedFrom s F v l (Err refusal.Operand)
        divisor_refused F v fits m =
            refuses_at s v l o.carries (asks_one F v fits ∙ rw (first_wrong s v l o.carries reaches (rw is_first at m)))

        pub divisor_ahead : (F v : ℕ) {p : Cursor} → F ≤ 16 → i.field < v → p ≡ place_of i.rest
            → InstructedFrom s F v l (Ok (record { instruction = Reciprocal i.field; next = p }))
        divisor_ahead F v fits m q =
            rw is_first
            (gives_at s v l o.carries (first_taken l).rest (rw is_first at q) (omega arith)
            (asks_one F v fits ∙ rw (first_fine s v l o.carries reaches (rw is_first at m))))

-- ---- and as a walk takes them

module _ {s : List ℕ} {l : Loaded} {c : Taken} (carries : Carries s l 57) (tc : c ≡ taken 3 l) (six : c.field ≡ 6) where
  divisor_asked : (F v : ℕ) {y : Read Instruction} → read (instruction F v) (left s l) ≡ value y
      → read (divisor v) (left s (code_taken l).rest) ≡ value y
  divisor_asked F v e =
      let is_six : (code_taken l).field ≡ 6 = rw tc at six in
      let bs = left s (code_taken l).rest in
      (shapes.asked (small_scale F) (λ n. divisor v) bs
      (sym (by_code_reciprocal F v bs) ∙ rw is_six at (shapes.coded s l carries F v e))).follows

  pub decoded_reciprocal : {i : Taken} {p : Cursor} → i ≡ taken 10 c.rest → p ≡ place_of i.rest
      → DecodesFrom s l (Reciprocal i.field) p
  decoded_reciprocal {i} ti q =
      let is_first : i ≡ first_taken l = ti ∙ ap (λ (t : Taken). taken 10 t.rest) tc in
      rw is_first
      (shapes.decodes s l carries (first_taken l).rest (rw is_first at q) (omega arith)
      (λ F v y e. same_value
      (shapes.next (operand v) 44 made (past_code carries) (lit≤ tt) (lit≤ tt) (divisor_asked F v e))))
