-- Reading an instruction off a loaded cursor, and whether the bytes end inside it. Assumes nothing.
use mathlib.Core.Path.{◌≡◌, refl, sym, ◌∙◌, ap, subst}
use mathlib.Core.Bool.{Bool, true, false, not}
use mathlib.Core.List.{List}
use Prim.Native.Nat.{ℕ, ◌+◌, ◌*◌, ◌/◌, ◌^◌, ◌≤◌, ◌<◌, zero-le}
use native.Mathlib.Omega.{arith}
use lib.Dec.{ltb, eqb, lit≤}
use lib.IntN.{ℤ}
use lib.ListN.{length}
use lib.Pow.{shr_lt}
use borrow.Author.Tests.{eq-eqb, ne_eqb, eqb-true, eqb-false, ltb-true, ltb-false}
use Rattle.std.specs.declared.result.Result.TheVariants.{Ok, Err}
use Rattle.whole.proofs.Machine.{back}
use Rattle.refusals.specs.declared.Refusal.{Refusal}
use Rattle.refusals.specs.declared.Refusal.TheVariants as refusal
use Rattle.refusals.specs.Answer.{value, refused, refuse}
use Rattle.bits.specs.declared.Cursor.{Cursor}
use Rattle.formulas.specs.declared.Instruction.{Instruction}
use Rattle.formulas.specs.declared.Instruction.TheVariants.{Constant, Negate}
use Rattle.packed.specs.ReaderAnswers.{InstructionRead}
use Rattle.packed.specs.declared.loaded.Loaded.{Loaded}
use Rattle.packed.specs.declared.loaded.Taken.{Taken}
use Rattle.packed.specs.Items.{code, constant, operand, twos_complement, entry, read}
use Rattle.packed.specs.Format.{two_operands, by_code, instruction, wide}
use Rattle.packed.specs.Loading.{place_of, left, taken, Carries, Loads}
use Rattle.packed.specs.ReaderAnswers.{combined, Instructed, InstructedFrom, ReadBelow, ReadFrom, Reaches, ZeroCode, Zeroth}
use Rattle.packed.specs.ReaderAnswers.{Named, Operands, Beyond, CutShort}
use Rattle.packed.specs.ReaderAnswers.{code_taken, constant_taken, first_taken, second_taken}
use Rattle.packed.proofs.FieldIn.{above_out, between}
use Rattle.packed.proofs.Instructions.{twos_complement_back, by_code_two}
use Rattle.packed.proofs.Taking.{carries_on, missing, wrong, fine}

-- what is made of two operands takes as many bits whatever the code
pub combined_wide : (n i j : ℕ) → wide (combined n i j) ≡ 23
combined_wide n i j = by_tests (eqb n 2) (eqb n 3) refl refl
  where
    by_tests : (a b : Bool) → eqb n 2 ≡ a → eqb n 3 ≡ b → wide (combined n i j) ≡ 23
    by_tests true b d e = rw d refl
    by_tests false true d e = rw (d, e) refl
    by_tests false false d e = rw (d, e) refl

-- ---- the cursor past each field carries what is behind it

module _ {s : List ℕ} {l : Loaded} (c : Carries s l 57) where
  pub past_code : Carries s (code_taken l).rest 54
  past_code = carries_on s l 3 54 c (lit≤ tt)

  pub past_first : Carries s (first_taken l).rest 44
  past_first = carries_on s (code_taken l).rest 10 44 past_code (lit≤ tt)

-- a constant as the machine keeps it
pub constant_kept : {s : List ℕ} {l : Loaded} {z : ℤ} → Carries s l 57 → z ≡ twos_complement (constant_taken l).field
    → back z ≡ twos_complement (constant_taken l).field
constant_kept c e = twos_complement_back _ (shr_lt 32 32 (past_code c).small) e

module _ (s : List ℕ) (v : ℕ) (l : Loaded) (carries : Carries s l 57) where
  pub refuses_at : {F : ℕ} {r : Refusal} → read (instruction F v) (left s l) ≡ refuse r → InstructedFrom s F v l (Err r)
  refuses_at e = record { is = record { answers = sym e; past = tt } }

  pub refuses : {r : Refusal} → ((F : ℕ) → read (instruction F v) (left s l) ≡ refuse r) → ReadBelow s v l (Err r)
  refuses e = record { is = λ F. refuses_at (e F) }

  pub gives_at : {F : ℕ} {i : Instruction} (d : Loaded) {p : Cursor} → p ≡ place_of d → d.at ≡ l.at + wide i
      → read (instruction F v) (left s l) ≡ value (record { got = i; left = left s d }) → InstructedFrom s F v l (Ok (record { instruction = i; next = p }))
  gives_at d q w e = rw q (record { is = record { answers = sym e; past = w } })

  pub gives : {i : Instruction} (d : Loaded) {p : Cursor} → p ≡ place_of d → d.at ≡ l.at + wide i
      → ((F : ℕ) → read (instruction F v) (left s l) ≡ value (record { got = i; left = left s d })) → ReadBelow s v l (Ok (record { instruction = i; next = p }))
  gives d q w e = record { is = λ F. gives_at d q w (e F) }

  -- ---- the code

  module _ (t : Reaches s (code_taken l).rest) where
    pub coded : (F : ℕ) → (code_taken l).field < 7 → read (instruction F v) (left s l) ≡ read (by_code F v (code_taken l).field) (left s (code_taken l).rest)
    unfolding instruction
    coded F m = rw (fine s l code (lit≤ tt) 54 carries (lit≤ tt) t (between 0 7 _ zero-le m))

    pub coded_as : (F n : ℕ) → n < 7 → (code_taken l).field ≡ n
        → read (instruction F v) (left s l) ≡ read (by_code F v n) (left s (code_taken l).rest)
    coded_as F n m e = coded F (omega arith) ∙ ap (λ m. read (by_code F v m) (left s (code_taken l).rest)) e

    module _ (m : (code_taken l).field < 5) (some : (code_taken l).field ≡ 0 → ⊥) where
      two_coded : (F : ℕ) → ((code_taken l).field ≡ 1 → ⊥) → read (instruction F v) (left s l)
          ≡ read (two_operands (combined (code_taken l).field) v) (left s (code_taken l).rest)
      two_coded F two = coded F (omega arith) ∙ by_code_two F v (code_taken l).field (left s (code_taken l).rest) some two m

      -- whatever the code is, its first operand is refused
      first_operand : {n : ℕ} → entry (operand v) (left s (code_taken l).rest) ≡ refused n
          → (F : ℕ) → read (instruction F v) (left s l) ≡ refused n
      unfolding by_code
      first_operand {n} e F = by_test (eqb (code_taken l).field 1) refl
        where
          by_test : (b : Bool) → eqb (code_taken l).field 1 ≡ b → read (instruction F v) (left s l) ≡ refused n
          by_test true u = coded_as F 1 (lit≤ tt) (eqb-true (code_taken l).field 1 u) ∙ rw e
          by_test false u = two_coded F (eqb-false (code_taken l).field 1 u) ∙ rw e

  -- ---- the operands

  pub first_fine : Reaches s (first_taken l).rest → (first_taken l).field < v → entry (operand v) (left s (code_taken l).rest)
      ≡ value (record { got = (first_taken l).field; left = left s (first_taken l).rest })
  first_fine t m =
      fine s (code_taken l).rest (operand v) (lit≤ tt) 44 (past_code carries) (lit≤ tt) t (between 0 v _ zero-le m)

  pub first_wrong : Reaches s (first_taken l).rest → v ≤ (first_taken l).field
      → entry (operand v) (left s (code_taken l).rest) ≡ refuse refusal.Operand
  first_wrong t m =
      wrong s (code_taken l).rest (operand v) (lit≤ tt) 44 (past_code carries) (lit≤ tt) t (above_out 0 v _ m)

  second_fine : Reaches s (second_taken l).rest → (second_taken l).field < v → entry (operand v) (left s (first_taken l).rest)
      ≡ value (record { got = (second_taken l).field; left = left s (second_taken l).rest })
  second_fine t m =
      fine s (first_taken l).rest (operand v) (lit≤ tt) 34 (past_first carries) (lit≤ tt) t (between 0 v _ zero-le m)

  second_wrong : Reaches s (second_taken l).rest → v ≤ (second_taken l).field
      → entry (operand v) (left s (first_taken l).rest) ≡ refuse refusal.Operand
  second_wrong t m =
      wrong s (first_taken l).rest (operand v) (lit≤ tt) 34 (past_first carries) (lit≤ tt) t (above_out 0 v _ m)

  -- ---- every operand is there

  module _ (o : Operands s v l) {c : Taken} (tc : c ≡ taken 3 l) {i : Taken} (ti : i ≡ taken 10 c.rest) where
    is_first : i ≡ first_taken l
    is_first = ti ∙ ap (λ (t : Taken). taken 10 t.rest) tc

    there : Reaches s (code_taken l).rest
    there = o.named.code_there

    some_code : (code_taken l).field ≡ 0 → ⊥
    some_code e = omega (arith, o.named.some, e)

    pub first_refused : v ≤ i.field → ReadBelow s v l (Err refusal.Operand)
    first_refused m =
        refuses (first_operand there o.named.most some_code (first_wrong o.first_there (rw is_first at m)))

    module _ (named : i.field < v) where
      first_is : entry (operand v) (left s (code_taken l).rest)
          ≡ value (record { got = (first_taken l).field; left = left s (first_taken l).rest })
      first_is = first_fine o.first_there (rw is_first at named)

      pub negate_ahead : {p : Cursor} → p ≡ place_of i.rest → c.field ≡ 1 → ReadBelow s v l (Ok (record { instruction = Negate i.field; next = p }))
      unfolding by_code
      negate_ahead q one =
          rw is_first
          (gives (first_taken l).rest (rw is_first at q) (omega arith) (λ F. coded_as there F 1 (lit≤ tt) (rw tc at one) ∙ rw first_is))

      module _ (two : c.field ≡ 1 → ⊥) {j : Taken} (tj : j ≡ taken 10 i.rest) where
        is_second : j ≡ second_taken l
        is_second = tj ∙ ap (λ (t : Taken). taken 10 t.rest) is_first

        other_code : (code_taken l).field ≡ 1 → ⊥
        other_code = rw tc at two

        second_there : Reaches s (second_taken l).rest
        second_there =
            let d = other_code in
            o.second_there (omega (arith, o.named.some)) (rw is_first at named)

        both_coded : (F : ℕ) → read (instruction F v) (left s l)
            ≡ read (two_operands (combined (code_taken l).field) v) (left s (code_taken l).rest)
        both_coded F = two_coded there o.named.most some_code F other_code

        pub second_refused : v ≤ j.field → ReadBelow s v l (Err refusal.Operand)
        second_refused m = refuses (λ F. both_coded F ∙ rw (first_is, second_wrong second_there (rw is_second at m)))

        second_stands : (second_taken l).rest.at
            ≡ l.at + wide (combined (code_taken l).field (first_taken l).field (second_taken l).field)
        second_stands = omega (arith, combined_wide (code_taken l).field (first_taken l).field (second_taken l).field)

        pub two_ahead : {x : Instruction} {p : Cursor} → j.field < v → p ≡ place_of j.rest
            → x ≡ combined c.field i.field j.field → ReadBelow s v l (Ok (record { instruction = x; next = p }))
        two_ahead {x} m q e =
            let x_is : x ≡ combined (code_taken l).field (first_taken l).field (second_taken l).field =
            rw (tc, is_first, is_second) at e in
            rw x_is
            (gives (second_taken l).rest (rw is_second at q) second_stands
            (λ F. both_coded F ∙ rw (first_is, second_fine second_there (rw is_second at m))))

  -- ---- or the bytes end

  module _ {c : Taken} (tc : c ≡ taken 3 l) {b : Bool} (tb : b ≡ ltb (8 * length s) c.rest.at) where
    code_test : b ≡ ltb (8 * length s) (code_taken l).rest.at
    code_test = rw tc at tb

    pub cut_code : b ≡ true → ReadBelow s v l (Err refusal.Ended)
    unfolding instruction
    cut_code e = refuses (λ F. rw (missing s l code (lit≤ tt) (ltb-true _ _ (sym code_test ∙ e))))

  module _ (o : Named s l) {c : Taken} (tc : c ≡ taken 3 l) {i : Taken} (ti : i ≡ taken 10 c.rest) {d : Bool}
      (td : d ≡ ltb (8 * length s) i.rest.at) where
    first_is' : i ≡ first_taken l
    first_is' = ti ∙ ap (λ (t : Taken). taken 10 t.rest) tc

    first_test : d ≡ ltb (8 * length s) (first_taken l).rest.at
    first_test = rw first_is' at td

    some' : (code_taken l).field ≡ 0 → ⊥
    some' e = omega (arith, o.some, e)

    pub cut_first : d ≡ true → ReadBelow s v l (Err refusal.Ended)
    cut_first f =
        refuses
        (first_operand o.code_there o.most some'
        (missing s (code_taken l).rest (operand v) (lit≤ tt) (ltb-true _ _ (sym first_test ∙ f))))

    module _ (f : d ≡ false) where
      reaches_first : Reaches s (first_taken l).rest
      reaches_first = record { is = ltb-false _ _ (sym first_test ∙ f) }

      enough_operand : (2 ≤ (code_taken l).field → (first_taken l).field < v → Reaches s (second_taken l).rest) → Operands s v l
      enough_operand g = record { named = o; first_there = reaches_first; second_there = g }

      pub enough_negate : c.field ≡ 1 → Operands s v l
      enough_negate e = let n : (code_taken l).field ≡ 1 = rw tc at e in enough_operand (λ p q. absurd (omega arith))

      pub enough_unnamed : v ≤ i.field → Operands s v l
      enough_unnamed m =
          let n : v ≤ (first_taken l).field = rw first_is' at m in
          enough_operand (λ p q. absurd (omega arith))

      pub cut_or_second : {j : Taken} {r : Bool} → (c.field ≡ 1 → ⊥) → i.field < v → j ≡ taken 10 i.rest
          → r ≡ ltb (8 * length s) j.rest.at → CutShort s v l r
      cut_or_second {j} {r} two named tj tr = by_test r refl
        where
          test : r ≡ ltb (8 * length s) (second_taken l).rest.at
          test = rw (tj, first_is') at tr

          other : (code_taken l).field ≡ 1 → ⊥
          other = rw tc at two

          named' : (first_taken l).field < v
          named' = rw first_is' at named

          by_test : (t : Bool) → r ≡ t → CutShort s v l t
          by_test true u =
              refuses
              (λ F. two_coded o.code_there o.most some' F other
              ∙ rw (
                first_fine reaches_first named',
                missing s (first_taken l).rest (operand v) (lit≤ tt) (ltb-true _ _ (sym test ∙ u)),
              ))
          by_test false u = enough_operand (λ p q. record { is = ltb-false _ _ (sym test ∙ u) })

  -- ---- where eight bytes are there, all are

  module _ (near : l.at ≤ 2 ^ 30) (e : l.at / 8 + 8 ≤ length s) {c : Taken} (tc : c ≡ taken 3 l) where
    pub whole_operands : (c.field ≡ 0 → ⊥) → c.field < 5 → Operands s v l
    whole_operands some m =
        let z : ((code_taken l).field ≡ 0 → ⊥) = rw tc at some in
        record {
          named =
              record {
                near = near;
                carries = carries;
                code_there = record { is = omega arith };
                some = omega (arith, z);
                most = rw tc at m;
              };
          first_there = record { is = omega arith };
          second_there = λ p q. record { is = omega arith };
        }

-- ---- which code is there

module _ {s : List ℕ} {l : Loaded} {c : Taken} (carries : Carries s l 57) (near : l.at ≤ 2 ^ 30) (tc : c ≡ taken 3 l) where
  module _ {b : Bool} (tb : b ≡ ltb (8 * length s) c.rest.at) (e : b ≡ false) where
    reached : Reaches s (code_taken l).rest
    reached = let t : b ≡ ltb (8 * length s) (code_taken l).rest.at = rw tc at tb in record { is = ltb-false _ _ (sym t ∙ e) }

    pub is_zero_code : c.field ≡ 0 → ZeroCode s l
    is_zero_code none = record { near = near; carries = carries; code_there = reached; is_zero = rw tc at none }

    pub is_beyond : 5 ≤ c.field → Beyond s l
    is_beyond m = record { near = near; carries = carries; code_there = reached; from_five = rw tc at m }

    pub is_named : (c.field ≡ 0 → ⊥) → c.field < 5 → Named s l
    is_named some m =
        let z : ((code_taken l).field ≡ 0 → ⊥) = rw tc at some in
        record { near = near; carries = carries; code_there = reached; some = omega (arith, z); most = rw tc at m }

  module _ (e : l.at / 8 + 8 ≤ length s) where
    pub whole_constant : c.field ≡ 0 → Zeroth s l
    whole_constant none =
        record { near = near; carries = carries; is_zero = rw tc at none; constant_there = record { is = omega arith } }

    pub whole_beyond : 5 ≤ c.field → Beyond s l
    whole_beyond m =
        record { near = near; carries = carries; code_there = record { is = omega arith }; from_five = rw tc at m }

-- ---- a constant

module _ {s : List ℕ} {l : Loaded} (o : ZeroCode s l) {c k : Taken} {r : Bool} (tc : c ≡ taken 3 l)
    (tk : k ≡ taken 32 c.rest) (tr : r ≡ ltb (8 * length s) k.rest.at) where
  constant_test : r ≡ ltb (8 * length s) (constant_taken l).rest.at
  constant_test = rw (tk, tc) at tr

  pub cut_constant : r ≡ true → ReadFrom s l (Err refusal.Ended)
  unfolding by_code
  cut_constant u =
      record {
        is = λ v. refuses s v l o.carries
            (λ F. coded_as s v l o.carries o.code_there F 0 (lit≤ tt) o.is_zero
            ∙ rw (missing s (code_taken l).rest constant (lit≤ tt) (ltb-true _ _ (sym constant_test ∙ u))));
      }

  pub whole_behind : r ≡ false → Zeroth s l
  whole_behind u =
      record {
        near = o.near;
        carries = o.carries;
        is_zero = o.is_zero;
        constant_there = record { is = ltb-false _ _ (sym constant_test ∙ u) };
      }

module _ {s : List ℕ} {l : Loaded} (o : Zeroth s l) {c k : Taken} (tc : c ≡ taken 3 l) (tk : k ≡ taken 32 c.rest) where
  same_constant : k ≡ constant_taken l
  same_constant = tk ∙ ap (λ (t : Taken). taken 32 t.rest) tc

  asks : (F v : ℕ) → read (instruction F v) (left s l) ≡ read (by_code F v 0) (left s (code_taken l).rest)
  asks F v = coded_as s v l o.carries (record { is = omega (arith, o.constant_there.is) }) F 0 (lit≤ tt) o.is_zero

  pub constant_refused : k.field ≡ 2 ^ 31 → ReadFrom s l (Err refusal.Constant)
  unfolding by_code
  constant_refused m =
      let n : (constant_taken l).field ≡ 2 ^ 31 = rw same_constant at m in
      let e = wrong s (code_taken l).rest constant (lit≤ tt) 22 (past_code o.carries) (lit≤ tt) o.constant_there (ap not (eq-eqb _ (2 ^ 31) n)) in
      record { is = λ v. refuses s v l o.carries (λ F. asks F v ∙ rw e) }

  pub constant_ahead : {z : ℤ} {p : Cursor} → (k.field ≡ 2 ^ 31 → ⊥) → z ≡ twos_complement k.field
      → p ≡ place_of k.rest → ReadFrom s l (Ok (record { instruction = Constant (back z); next = p }))
  unfolding by_code
  constant_ahead m e q =
      let n : ((constant_taken l).field ≡ 2 ^ 31 → ⊥) = rw same_constant at m in
      let f = fine s (code_taken l).rest constant (lit≤ tt) 22 (past_code o.carries) (lit≤ tt) o.constant_there (ap not (ne_eqb _ (2 ^ 31) n)) in
      rw (constant_kept o.carries (rw same_constant at e))
      (record { is = λ v. gives s v l o.carries (constant_taken l).rest (rw same_constant at q) (omega arith) (λ F. asks F v ∙ rw f) })

module _ (s : List ℕ) (v : ℕ) (l : Loaded) {r : Bool} where
  pub was_cut_short : CutShort s v l r → r ≡ true → ReadBelow s v l (Err refusal.Ended)
  was_cut_short a e = rw e at a

  pub was_enough : CutShort s v l r → r ≡ false → Operands s v l
  was_enough a e = rw e at a

-- what is read whichever value is made, and at whichever scale, for those that are
pub read_from : {s : List ℕ} {F v : ℕ} {l : Loaded} {r : InstructionRead} → ReadFrom s l r → InstructedFrom s F v l r
read_from {F = F} {v} o = (o.is v).is F

pub read_below : {s : List ℕ} {F v : ℕ} {l : Loaded} {r : InstructionRead} → ReadBelow s v l r → InstructedFrom s F v l r
read_below {F = F} o = o.is F

-- what is read from a cursor's place, once its bits are loaded
pub from_place : {s : List ℕ} {F v : ℕ} {c : Cursor} {l : Loaded} {r : InstructionRead} → Loads s c l
    → InstructedFrom s F v l r → Instructed s F v c r
from_place {s} {F} {v} {c} {r = r} o i = subst (λ (l : Loaded). Instructed s F v (place_of l) r) o.is i.is
