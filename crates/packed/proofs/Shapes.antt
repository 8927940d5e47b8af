-- An instruction that was read, as the fields that a loaded cursor hands out. Assumes nothing.
use mathlib.Core.Path.{◌≡◌, sym, ◌∙◌, ap, subst, subst₂}
use mathlib.Core.List.{List}
use Prim.Native.Nat.{ℕ, ◌+◌, ◌≤◌, ◌<◌}
use native.Mathlib.Omega.{arith}
use lib.Dec.{lit≤}
use lib.IntN.{ℤ}
use lib.ListN.{length, take, drop}
use lib.Seq.{drop-drop}
use Rattle.whole.proofs.Machine.{back}
use Rattle.refusals.specs.Answer.{value}
use Rattle.refusals.proofs.Answers.{first_of, same_value}
use Rattle.bits.specs.declared.Cursor.{Cursor}
use Rattle.bits.specs.Bits.{bits, number}
use Rattle.bits.specs.Reader.{Read}
use Rattle.bits.proofs.Take.{field_got, field_whole}
use Rattle.formulas.specs.declared.Instruction.{Instruction}
use Rattle.formulas.specs.declared.Instruction.TheVariants.{Constant, Negate}
use Rattle.packed.specs.declared.loaded.Loaded.{Loaded}
use Rattle.packed.specs.declared.loaded.Taken.{Taken}
use Rattle.packed.specs.Items.{FieldKind, code, constant, operand, twos_complement, width, permitted, complaint}
use Rattle.packed.specs.Items.{entry, Form, ask, done, read}
use Rattle.packed.specs.Format.{by_code, instruction, wide}
use Rattle.packed.specs.Loading.{place_of, left, taken, Carries, Loads}
use Rattle.packed.specs.ReaderAnswers.{combined, code_taken, constant_taken, first_taken, second_taken}
use Rattle.packed.specs.Walk.{Readable, Decodes, DecodesFrom}
use Rattle.packed.proofs.FieldIn.{passed_test}
use Rattle.packed.proofs.Instructions.{by_code_two}
use Rattle.packed.proofs.Taking.{top}
use Rattle.packed.proofs.WellFormed.{in_range}
use Rattle.packed.proofs.Inside.{combined_wide, past_code, past_first, constant_kept}

-- a field that was read: it was there, and this is its number
pub record FieldRead (k : FieldKind) (bs : List ℕ) (x : Read ℕ) : Type 0 where
  pub there : width k ≤ length bs
  pub number_is : x.got ≡ number (take (width k) bs)
  pub left_is : x.left ≡ drop (width k) bs

pub entry_taken : (k : FieldKind) (bs : List ℕ) {x : Read ℕ} → entry k bs ≡ value x → FieldRead k bs x
entry_taken k bs e =
    let f = (passed_test (width k) (permitted k) (complaint k) bs e).0 in
    let l = field_whole (width k) bs f in
    let g = same_value (sym f ∙ field_got (width k) bs l) in
    record { there = l; number_is = ap (λ (r : Read ℕ). r.got) g; left_is = ap (λ (r : Read ℕ). r.left) g }

-- a form that begins with a field was read: the field was there, and the rest was read after it
pub record Asked {A : Type 0} (k : FieldKind) (f : ℕ → Form A) (bs : List ℕ) (x : Read A) : Type 0 where
  pub there : width k ≤ length bs
  pub follows : read (f (number (take (width k) bs))) (drop (width k) bs) ≡ value x

pub asked : {A : Type 0} (k : FieldKind) (f : ℕ → Form A) (bs : List ℕ) {x : Read A} → read (ask k f) bs ≡ value x
    → Asked k f bs x
asked k f bs {x} e =
    let a = first_of (entry k bs) (λ y. read (f y.got) y.left) e in
    let t = entry_taken k bs a.was in
    let after = subst₂ (λ (n : ℕ) (cs : List ℕ). read (f n) cs ≡ value x) t.number_is t.left_is a.then_was in
    record { there = t.there; follows = after }

-- the same off a loaded cursor
pub next : {A : Type 0} {s : List ℕ} {l : Loaded} (k : FieldKind) (n : ℕ) (f : ℕ → Form A) {x : Read A}
    → Carries s l (width k + n) → width k + n ≤ 64 → 1 ≤ width k → read (ask k f) (left s l) ≡ value x
    → read (f (taken (width k) l).field) (left s (taken (width k) l).rest) ≡ value x
next {s = s} {l} k n f {x} c most some e =
    let a = asked k f (left s l) e in
    subst₂ (λ (m : ℕ) (bs : List ℕ). read (f m) bs ≡ value x) (sym (top s l (width k) n c most some a.there))
    (drop-drop (width k) l.at (bits s)) a.follows

module _ (s : List ℕ) (l : Loaded) (carries : Carries s l 57) where
  pub coded : (F v : ℕ) {y : Read Instruction} → read (instruction F v) (left s l) ≡ value y
      → read (by_code F v (code_taken l).field) (left s (code_taken l).rest) ≡ value y
  unfolding instruction
  coded F v e = next code 54 (by_code F v) carries (lit≤ tt) (lit≤ tt) e

  -- no greater code was read
  pub code_known : (F v : ℕ) {y : Read Instruction} → read (instruction F v) (left s l) ≡ value y → (code_taken l).field < 7
  unfolding instruction
  code_known F v e =
      let a = first_of (entry code (left s l)) (λ x. read (by_code F v x.got) x.left) e in
      let t = (passed_test 3 (permitted code) (complaint code) (left s l) a.was).1 in
      let k = entry_taken code (left s l) a.was in
      let is = k.number_is ∙ sym (top s l 3 54 carries (lit≤ tt) (lit≤ tt) k.there) in
      omega (arith, in_range 0 7 a.first.got t, is)

  -- what was read is i, and it ends at d
  pub decodes : {i : Instruction} (d : Loaded) {p : Cursor} → p ≡ place_of d → d.at ≡ l.at + wide i
      → ((F v : ℕ) (y : Read Instruction) → read (instruction F v) (left s l) ≡ value y
      → record { got = i; left = left s d } ≡ y) → DecodesFrom s l i p
  decodes {i} d q w same =
      rw q
      (record {
        is =
            record {
              decoded = λ F v y e. (
                ap (λ (z : Read Instruction). z.got) (same F v y e),
                ap (λ (z : Read Instruction). z.left) (same F v y e),
              );
              stands = w;
            };
      })

  module _ {c : Taken} (tc : c ≡ taken 3 l) where
    pub decoded_constant : {k : Taken} {z : ℤ} {p : Cursor} → c.field ≡ 0 → k ≡ taken 32 c.rest
        → z ≡ twos_complement k.field → p ≡ place_of k.rest → DecodesFrom s l (Constant (back z)) p
    unfolding by_code
    decoded_constant {k} none tk m q =
        rw (constant_kept carries (rw is_constant at m))
        (decodes (constant_taken l).rest (rw is_constant at q) (omega arith)
        (λ F v y e. same_value
        (next constant 22 (λ n. done (Constant (twos_complement n))) (past_code carries) (lit≤ tt) (lit≤ tt)
        (rw no_code at (coded F v e)))))
      where
        is_constant : k ≡ constant_taken l
        is_constant = tk ∙ ap (λ (t : Taken). taken 32 t.rest) tc

        no_code : (code_taken l).field ≡ 0
        no_code = rw tc at none

    module _ {i : Taken} (ti : i ≡ taken 10 c.rest) where
      is_first : i ≡ first_taken l
      is_first = ti ∙ ap (λ (t : Taken). taken 10 t.rest) tc

      pub decoded_negate : {p : Cursor} → c.field ≡ 1 → p ≡ place_of i.rest → DecodesFrom s l (Negate i.field) p
      unfolding by_code
      decoded_negate one q =
          let is_one : (code_taken l).field ≡ 1 = rw tc at one in
          rw is_first
          (decodes (first_taken l).rest (rw is_first at q) (omega arith)
          (λ F v y e. same_value
          (next (operand v) 44 (λ n. done (Negate n)) (past_code carries) (lit≤ tt) (lit≤ tt)
          (rw is_one at (coded F v e)))))

      pub decoded_two : {j : Taken} {x : Instruction} {p : Cursor} → (c.field ≡ 0 → ⊥) → c.field < 5
          → (c.field ≡ 1 → ⊥) → j ≡ taken 10 i.rest → p ≡ place_of j.rest → x ≡ combined c.field i.field j.field
          → DecodesFrom s l x p
      decoded_two {j} {x} some few two tj q m =
          rw x_is
          (decodes (second_taken l).rest (rw is_second at q) stands
          (λ F v y e.
          let both = sym (by_code_two F v (code_taken l).field (left s (code_taken l).rest) some' two' few') ∙ coded F v e in
          let b = next (operand v) 44 (second v) (past_code carries) (lit≤ tt) (lit≤ tt) both in
          same_value (next (operand v) 34 (whole (first_taken l).field) (past_first carries) (lit≤ tt) (lit≤ tt) b)))
        where
          n : ℕ
          n = (code_taken l).field

          whole : ℕ → ℕ → Form Instruction
          whole i j = done (combined n i j)

          second : ℕ → ℕ → Form Instruction
          second v i = ask (operand v) (whole i)

          some' : (code_taken l).field ≡ 0 → ⊥
          some' = rw tc at some

          few' : (code_taken l).field < 5
          few' = rw tc at few

          two' : (code_taken l).field ≡ 1 → ⊥
          two' = rw tc at two

          is_second : j ≡ second_taken l
          is_second = tj ∙ ap (λ (t : Taken). taken 10 t.rest) is_first

          x_is : x ≡ combined (code_taken l).field (first_taken l).field (second_taken l).field
          x_is = rw (tc, is_first, is_second) at m

          stands : (second_taken l).rest.at
              ≡ l.at + wide (combined (code_taken l).field (first_taken l).field (second_taken l).field)
          stands = omega (arith, combined_wide (code_taken l).field (first_taken l).field (second_taken l).field)

-- what is decoded from a cursor's place, once its bits are loaded
pub decodes_place : {s : List ℕ} {c d : Cursor} {l : Loaded} {i : Instruction} → Loads s c l → DecodesFrom s l i d
    → Decodes s c i d
decodes_place {s} {d = d} {i = i} o e = subst (λ (l : Loaded). Decodes s (place_of l) i d) o.is e.is

pub readable_place : {s : List ℕ} {c : Cursor} {l : Loaded} → Loads s c l → Readable s c → Readable s (place_of l)
readable_place {s} o r = subst (λ (l : Loaded). Readable s (place_of l)) (sym o.is) r
