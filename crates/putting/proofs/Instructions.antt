-- One instruction as one number, or a constant and its margin as numbers of their own, in the code's shape: an arm for
-- each form. Assumes nothing.
use mathlib.Core.Path.{◌≡◌, refl, sym, ◌∙◌, ap, subst}
use mathlib.Core.Bool.{true}
use mathlib.Core.List.{List, [], ◌∷◌, ◌++◌, append_assoc, append-nil}
use Prim.Native.Nat.{ℕ, zero, suc, ◌+◌, ◌*◌, ◌^◌, ◌≤◌, ◌<◌}
use native.Mathlib.Omega.{arith}
use borrow.Author.Tests.{leb-true}
use lib.IntN.{ℤ, pos, negsuc, nat_abs}
use lib.ListN.{length}
use mir.Syntax.{w64}
use mir.Val.{SFits}
use mir.ValLaws.{to_z-of_z}
use Rattle.whole.proofs.Machine.{back}
use Rattle.rules.specs.Numbers.{M}
use Rattle.rules.specs.Values.{Allowed}
use Rattle.bits.specs.Bits.{to_bits}
use Rattle.writing.specs.declared.Writer.{Writer}
use Rattle.writing.specs.Pending.{MayPut, Puts}
use Rattle.lists.proofs.Again.{wrote_long}
use Rattle.writing.proofs.Bits.{to_bits_join}
use Rattle.packed.specs.Items.{FieldKind, width, code, constant, operand, centre, margin, twos_complement}
use Rattle.packed.proofs.WellFormed.{in_range}
use Rattle.packing.specs.Raw.{raw}
use Rattle.packing.specs.Slots.{Slot, slot, encoded, instruction_slots, slots_bits, slots_width}
use Rattle.packing.specs.Packing.{fits}
use Rattle.packing.proofs.Packs.{AllFit, IsNatural, tested_all, is_natural, below}
use Rattle.putting.specs.Putting.{PutsSlots, InstructionPuttable, PutsInstruction}
use Rattle.putting.proofs.Puttings.{slots_put, slots_then}

-- ---- the bits of each form are those of one number

one_field : (w c x : ℕ) → x < 2 ^ w → to_bits 3 c ++ (to_bits w x ++ []) ≡ to_bits (3 + w) (c * 2 ^ w + x)
one_field w c x l = ap (λ (bs : List ℕ). to_bits 3 c ++ bs) (append-nil (to_bits w x)) ∙ to_bits_join 3 w c x l

-- a field of no bits between
field_behind_none : (w c n x : ℕ) → x < 2 ^ w → to_bits 3 c ++ (to_bits 0 n ++ (to_bits w x ++ [])) ≡ to_bits (3 + w) (c * 2 ^ w + x)
unfolding to_bits
field_behind_none w c n x l = one_field w c x l

two_fields : (c x y : ℕ) → x < 2 ^ 10 → y < 2 ^ 10
    → to_bits 3 c ++ (to_bits 10 x ++ (to_bits 10 y ++ [])) ≡ to_bits 23 ((c * 1024 + x) * 1024 + y)
two_fields c x y l k =
    ap (λ (bs : List ℕ). to_bits 3 c ++ (to_bits 10 x ++ bs)) (append-nil (to_bits 10 y))
    ∙ sym (append_assoc (to_bits 3 c) (to_bits 10 x) (to_bits 10 y))
    ∙ ap (λ (bs : List ℕ). bs ++ to_bits 10 y) (to_bits_join 3 10 c x l)
    ∙ to_bits_join 13 10 (c * 1024 + x) y k

-- the codes from 2 to 4
two_arguments : (n F v : ℕ) (a b : ℤ) → 2 ≤ n → n < 5
    → instruction_slots F v (raw (pos n) a b) ≡ slot code (pos n) ∷ slot (operand v) a ∷ slot (operand v) b ∷ []
two_arguments zero F v a b l h = absurd (omega arith)
two_arguments (suc zero) F v a b l h = absurd (omega arith)
two_arguments (suc (suc zero)) F v a b l h = refl
two_arguments (suc (suc (suc zero))) F v a b l h = refl
two_arguments (suc (suc (suc (suc zero)))) F v a b l h = refl
two_arguments (suc (suc (suc (suc (suc k))))) F v a b l h = absurd (omega arith)

-- ---- what the instruction's tests say of its numbers

pub encoded_allowed : (z : ℤ) → Allowed z → encoded z < 2 ^ 32
encoded_allowed (pos n) a = omega arith
encoded_allowed (negsuc n) a = omega arith

pub as_kept : {z : ℤ} {n : ℕ} → SFits w64 z → n ≡ encoded (back z) → n ≡ encoded z
as_kept {z} f e = e ∙ ap encoded (to_z-of_z w64 z f)

-- an operand names a value below 1024
pub record Named (z : ℤ) : Type 0 where
  pub is : pos (nat_abs z) ≡ z
  pub low : encoded z < 2 ^ 10

pub named : {v : ℕ} {z : ℤ} → v ≤ 1024 → fits (operand v) z ≡ true → Named z
named {v} {z} l e =
    let i = is_natural (operand v) z e in
    let small = below v z e in
    record { is = i.is; low = subst (λ (x : ℤ). encoded x < 2 ^ 10) i.is (omega arith) }

-- ---- a code by itself, and a number of 32 bits behind it

module _ (k : ℕ) (kind : FieldKind) (wide : width kind ≡ 32) {a : ℤ} (allowed : Allowed a) (fa : SFits w64 a) {w : Writer} {out : List ℕ}
    (few : w.count < 32) (some : 8 * w.at + w.count + 35 ≤ 8 * length out) (low : k < 8) where
  room_code : MayPut w 3 k out
  room_code = record { narrow = omega arith; fits = omega arith; few = few; room = omega (arith, some) }

  module _ {mid : List ℕ} {u : Writer} (coded : Puts w 3 k out mid u) {x : ℕ} (number : x ≡ encoded (back a)) where
    put_code : PutsSlots (slot code (pos k) ∷ []) w out mid u
    put_code = slots_put (slot code (pos k) ∷ []) 3 (append-nil (to_bits 3 k)) refl room_code coded

    room_word : MayPut u 32 x mid
    room_word =
        record {
          narrow = omega arith;
          fits = omega (arith, as_kept fa number, encoded_allowed a allowed);
          few = put_code.few;
          room = omega (arith, some, put_code.place, wrote_long coded.wrote);
        }

    put_word : {new : List ℕ} {r : Writer} → Puts u 32 x mid new r → PutsSlots (slot code (pos k) ∷ slot kind a ∷ []) w out new r
    put_word q =
        slots_then put_code
        (slots_put (slot kind a ∷ []) 32
        (append-nil (to_bits (width kind) (encoded a)) ∙ (λ i. to_bits (wide i) (sym (as_kept fa number) i))) (ap (λ (n : ℕ). n + 0) wide) room_word q)

-- ---- each form

module _ {c a b : ℤ} {w : Writer} {out : List ℕ} (p : InstructionPuttable (raw c a b) w out) (fc : SFits w64 c) where
  code_is : IsNatural code c
  code_is = is_natural code c (tested_all (instruction_slots p.scale p.makes (raw c a b)) p.puttable.passed).0

  module _ {n : ℕ} (number : n ≡ encoded (back c)) where
    code_as : pos n ≡ c
    code_as = ap pos (as_kept fc number ∙ ap encoded (sym code_is.is)) ∙ code_is.is

    as_form : {k : ℕ} → n ≡ k → InstructionPuttable (raw (pos k) a b) w out
    as_form e = subst (λ (z : ℤ). InstructionPuttable (raw z a b) w out) (sym code_as ∙ ap pos e) p

    as_put : {k : ℕ} → n ≡ k → {new : List ℕ} {r : Writer} → PutsInstruction (raw (pos k) a b) w out new r
        → PutsInstruction (raw c a b) w out new r
    as_put e {new} {r} q = subst (λ (z : ℤ). PutsInstruction (raw z a b) w out new r) (ap pos (sym e) ∙ code_as) q

    fields : {k : ℕ} (e : n ≡ k) → AllFit (instruction_slots (as_form e).scale (as_form e).makes (raw (pos k) a b))
    fields {k} e = tested_all (instruction_slots (as_form e).scale (as_form e).makes (raw (pos k) a b)) (as_form e).puttable.passed

    -- a constant
    module _ (e : n ≡ 0) (fa : SFits w64 a) where
      allowed : Allowed a
      allowed = leb-true (nat_abs a) M (fields e).1.0

      module _ {mid : List ℕ} {u : Writer} (coded : Puts w 3 0 out mid u) {x : ℕ} (first : x ≡ encoded (back a)) where
        pub constant_put : {new : List ℕ} {r : Writer} → Puts u 32 x mid new r → PutsInstruction (raw c a b) w out new r
        constant_put q =
            as_put e
            (record {
              puts =
                  λ F v. put_word 0 constant refl allowed fa (as_form e).puttable.few (as_form e).puttable.room (omega arith) coded first q;
            })

    -- one operand
    module _ (e : n ≡ 1) (fa : SFits w64 a) where
      operand_named : Named a
      operand_named = named (as_form e).low (fields e).1.0

      module _ {x : ℕ} (first : x ≡ encoded (back a)) where
        pub one_room : MayPut w 13 (1024 + x) out
        one_room =
            record {
              narrow = omega arith;
              fits = omega (arith, as_kept fa first, operand_named.low);
              few = (as_form e).puttable.few;
              room = (as_form e).puttable.room;
            }

        pub one_put : {new : List ℕ} {r : Writer} → Puts w 13 (1024 + x) out new r → PutsInstruction (raw c a b) w out new r
        one_put q =
            as_put e
            (record {
              puts =
                  λ F u.
                  slots_put (instruction_slots F u (raw (pos 1) a b)) 13
                  (one_field 10 1 (encoded a) operand_named.low ∙ ap (λ (y : ℕ). to_bits 13 (1024 + y)) (sym (as_kept fa first))) refl
                  one_room q;
            })

    -- a constant with a margin
    module _ (e : n ≡ 5) (fa : SFits w64 a) where
      centre_small : Allowed a
      centre_small = leb-true (nat_abs a) M (fields e).1.0

      -- a margin from 0 on that leaves the reach within M
      a_margin : IsNatural (margin (encoded a)) b
      a_margin = is_natural (margin (encoded a)) b (fields e).1.1.0

      margin_low : encoded b < 2 ^ 31
      margin_low =
          let most = leb-true (nat_abs (twos_complement (encoded a)) + nat_abs b) M a_margin.may in
          subst (λ (z : ℤ). encoded z < 2 ^ 31) a_margin.is (omega arith)

      room : 8 * w.at + w.count + 66 ≤ 8 * length out
      room = (as_form e).puttable.room

      module _ {mid far : List ℕ} {u t : Writer} (coded : Puts w 3 5 out mid u) {x : ℕ} (first : x ≡ encoded (back a))
          (centred : Puts u 32 x mid far t) (fb : SFits w64 b) {y : ℕ} (second : y ≡ encoded (back b)) where
        put_centre : PutsSlots (slot code (pos 5) ∷ slot centre a ∷ []) w out far t
        put_centre =
            put_word 5 centre refl centre_small fa (as_form e).puttable.few (omega (arith, room)) (omega arith) coded first centred

        pub margin_room : MayPut t 31 y far
        margin_room =
            record {
              narrow = omega arith;
              fits = omega (arith, as_kept fb second, margin_low);
              few = put_centre.few;
              room = omega (arith, room, put_centre.place, wrote_long coded.wrote, wrote_long centred.wrote);
            }

        pub coefficient_put : {new : List ℕ} {r : Writer} → Puts t 31 y far new r → PutsInstruction (raw c a b) w out new r
        coefficient_put q =
            as_put e
            (record {
              puts =
                  λ F v.
                  slots_then put_centre
                  (slots_put (slot (margin (encoded a)) b ∷ []) 31
                  (append-nil (to_bits 31 (encoded b)) ∙ ap (to_bits 31) (sym (as_kept fb second))) refl margin_room q);
            })

    -- a reciprocal
    module _ (e : n ≡ 6) (fa : SFits w64 a) where
      divisor_named : Named a
      divisor_named = named (as_form e).low (fields e).1.1.0

      module _ {x : ℕ} (first : x ≡ encoded (back a)) where
        pub divisor_room : MayPut w 13 (6144 + x) out
        divisor_room =
            record {
              narrow = omega arith;
              fits = omega (arith, as_kept fa first, divisor_named.low);
              few = (as_form e).puttable.few;
              room = (as_form e).puttable.room;
            }

        pub divisor_put : {new : List ℕ} {r : Writer} → Puts w 13 (6144 + x) out new r → PutsInstruction (raw c a b) w out new r
        divisor_put q =
            as_put e
            (record {
              puts =
                  λ F u.
                  slots_put (instruction_slots F u (raw (pos 6) a b)) 13
                  (field_behind_none 10 6 0 (encoded a) divisor_named.low ∙ ap (λ (y : ℕ). to_bits 13 (6144 + y)) (sym (as_kept fa first)))
                  refl divisor_room q;
            })

    -- two operands
    module _ (d₀ : n ≡ 0 → ⊥) (d₁ : n ≡ 1 → ⊥) (d₅ : n ≡ 5 → ⊥) (d₆ : n ≡ 6 → ⊥) where
      known : n < 7
      known = omega (arith, as_kept fc number, ap encoded (sym code_is.is), in_range 0 7 (nat_abs c) code_is.may)

      two : (F u : ℕ) → instruction_slots F u (raw (pos n) a b) ≡ slot code (pos n) ∷ slot (operand u) a ∷ slot (operand u) b ∷ []
      two F u = two_arguments n F u a b (omega arith) (omega (arith, known))

      both_fit : AllFit (slot code (pos n) ∷ slot (operand (as_form refl).makes) a ∷ slot (operand (as_form refl).makes) b ∷ [])
      both_fit = subst AllFit (two _ _) (fields refl)

      a_named : Named a
      a_named = named (as_form refl).low both_fit.1.0

      b_named : Named b
      b_named = named (as_form refl).low both_fit.1.1.0

      module _ (fa : SFits w64 a) {x : ℕ} (first : x ≡ encoded (back a)) (fb : SFits w64 b) {y : ℕ}
          (second : y ≡ encoded (back b)) where
        pub two_room : MayPut w 23 ((n * 1024 + x) * 1024 + y) out
        two_room =
            record {
              narrow = omega arith;
              fits = omega (arith, known, as_kept fa first, a_named.low, as_kept fb second, b_named.low);
              few = p.puttable.few;
              room = subst (λ (ss : List Slot). 8 * w.at + w.count + slots_width ss ≤ 8 * length out) (two _ _) (as_form refl).puttable.room;
            }

        pub two_put : {new : List ℕ} {r : Writer} → Puts w 23 ((n * 1024 + x) * 1024 + y) out new r
            → PutsInstruction (raw c a b) w out new r
        two_put q =
            as_put refl
            (record {
              puts =
                  λ F u.
                  slots_put (instruction_slots F u (raw (pos n) a b)) 23
                  (ap slots_bits (two F u) ∙ two_fields n (encoded a) (encoded b) a_named.low b_named.low
                  ∙ (λ i. to_bits 23 ((n * 1024 + sym (as_kept fa first) i) * 1024 + sym (as_kept fb second) i)))
                  (ap slots_width (two F u)) two_room q;
            })
