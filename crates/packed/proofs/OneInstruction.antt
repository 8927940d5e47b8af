-- Reading an instruction allows one outcome, and so does decoding one. Assumes nothing.
use mathlib.Core.Path.{◌≡◌, sym, ◌∙◌, ap, ap₂}
use mathlib.Core.List.{List}
use Prim.Native.Nat.{ℕ, ◌+◌}
use Rattle.std.specs.declared.result.Result.TheVariants.{Ok, Err}
use Rattle.refusals.proofs.Answers.{no_value, same_value}
use Rattle.refusals.proofs.OneReply.{one_refusal}
use Rattle.bits.specs.declared.Cursor.{Cursor}
use Rattle.bits.specs.Reader.{Read}
use Rattle.bits.proofs.OneField.{one_cursor}
use Rattle.formulas.specs.declared.Instruction.{Instruction}
use Rattle.packed.specs.ReaderAnswers.{InstructionRead}
use Rattle.packed.specs.Format.{wide}
use Rattle.packed.specs.ReaderAnswers.{instruction_answer, InstructionPast, Instructed}
use Rattle.packed.specs.Walk.{Readable, Decodes}

-- the same instruction from the same place ends at the same place
ends_once : (c d e : Cursor) {i j : Instruction} → i ≡ j → d.at ≡ c.at + wide i → e.at ≡ c.at + wide j → d ≡ e
ends_once c d e same p q = one_cursor d e (p ∙ ap (λ i. c.at + wide i) same ∙ sym q)

pub instructed_one_outcome : (s : List ℕ) (F v : ℕ) (c : Cursor) (r t : InstructionRead) → Instructed s F v c r
    → Instructed s F v c t → r ≡ t
instructed_one_outcome s F v c r t a b = by_case r t (a.answers ∙ sym b.answers) a.past b.past
  where
    by_case : (r t : InstructionRead) → instruction_answer s r ≡ instruction_answer s t → InstructionPast c r
        → InstructionPast c t → r ≡ t
    by_case (Ok d) (Ok e) u p q =
        let same = ap (λ (x : Read Instruction). x.got) (same_value u) in
        ap₂ (λ (i : Instruction) (n : Cursor). Ok (record { instruction = i; next = n })) same (ends_once c d.next e.next same p q)
    by_case (Ok d) (Err q) u p z = absurd (no_value (sym u))
    by_case (Err q) (Ok e) u p z = absurd (no_value u)
    by_case (Err q) (Err z) u p w = ap Err (one_refusal u)

pub decodes_one_outcome : {s : List ℕ} {c d e : Cursor} {i j : Instruction} → Readable s c → Decodes s c i d
    → Decodes s c j e → (i ≡ j) × (d ≡ e)
decodes_one_outcome {s} {c} {d} {e} r a b =
    let same = (a.decoded r.scale r.below r.all r.reads).0 ∙ sym (b.decoded r.scale r.below r.all r.reads).0 in
    (same, ends_once c d e same a.stands b.stands)
