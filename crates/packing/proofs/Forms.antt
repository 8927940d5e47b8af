-- A form and the fields that it asks for: what it is given to read it gives back, and what it read are those fields.
-- Assumes nothing.
use mathlib.Core.Path.{◌≡◌, refl, sym, ◌∙◌, ap, subst}
use mathlib.Core.Bool.{Bool, true, false, cond}
use mathlib.Core.List.{List, [], ◌∷◌, ◌++◌, append_assoc}
use Prim.Native.Nat.{ℕ, zero, suc, ◌+◌, ◌-◌, ◌^◌, ◌≤◌, ◌<◌}
use native.Mathlib.Nat.{mod-eq_of_lt}
use native.Mathlib.Omega.{arith}
use borrow.Author.Tests.{ltb-true, ltb-false, lt-ltb}
use lib.Dec.{ltb}
use lib.IntN.{ℤ, pos, negsuc, ◌-ℤ◌}
use lib.ListN.{length, take, drop, length-append, take-append-drop}
use lib.Pow.{pow_mono}
use lib.Seq.{length-take-le, take_at, drop_at}
use Rattle.refusals.specs.Answer.{Answer, value, refused, then}
use Rattle.refusals.proofs.Answers.{same_value, first_of}
use Rattle.bits.specs.Bits.{to_bits, number}
use Rattle.bits.specs.Reader.{Read}
use Rattle.bits.proofs.Digits.{AreBits, are_bits_take, length_to_bits, number_to_bits}
use Rattle.bits.proofs.Take.{field_got, field_whole}
use Rattle.refusals.specs.Refusals.{refusal_number}
use Rattle.packed.specs.Items.{FieldKind, version, scale, inputs, instructions, outputs, code, constant, operand, centre, margin, small_scale}
use Rattle.packed.specs.Items.{twos_complement, width, permitted, complaint, entry, Form, done, ask, read, ◌>>=◌}
use Rattle.packed.proofs.Instructions.{twos_complement_low, twos_complement_high}
use Rattle.packed.proofs.FieldIn.{test_passed, passed_test}
use Rattle.packed.proofs.WellFormed.{Passing, entry_kept}
use Rattle.packing.specs.Slots.{Slot, encoded, slot, slots_bits}
use Rattle.packing.specs.Packing.{Sort, fixed, natural, signed, sort, fits, slots_tested}
use Rattle.writing.proofs.Bits.{to_bits_number}

-- ---- to the reader

-- a number that the packer lets into a field, and the reader after it
pub record Fit (k : FieldKind) (z : ℤ) : Type 0 where
  pub fit : fits k z ≡ true
  pub may : permitted k (encoded z) ≡ true
  pub narrow : encoded z < 2 ^ width k

-- the form asks for these fields, and then gives a
pub data Asks {A : Type 0} : Form A → List Slot → A → Type 0 where
  nothing : {a : A} → Asks (done a) [] a
  next : {k : FieldKind} {f : ℕ → Form A} {z : ℤ} {ss : List Slot} {a : A} → Fit k z → Asks (f (encoded z)) ss a → Asks (ask k f) (slot k z ∷ ss) a

pub asks_bind : {A B : Type 0} {f : Form A} (g : A → Form B) {ss ts : List Slot} {a : A} {b : B} → Asks f ss a → Asks (g a) ts b → Asks (f >>= g) (ss ++ ts) b
asks_bind g nothing r = r
asks_bind g (next p q) r = next p (asks_bind g q r)

-- a field is read back
entry_encoded : (k : FieldKind) (n : ℕ) (bs : List ℕ) → permitted k n ≡ true → n < 2 ^ width k → entry k (to_bits (width k) n ++ bs) ≡ value (record { got = n; left = bs })
entry_encoded k n bs t l =
    test_passed (width k) (permitted k) (complaint k) (to_bits (width k) n ++ bs)
    (field_got (width k) (to_bits (width k) n ++ bs) long) (ap (permitted k) is ∙ t)
    ∙ ap value (λ i. record { got = is i; left = drop_at (to_bits (width k) n) bs (width k) (length_to_bits (width k) n) i })
  where
    long : width k ≤ length (to_bits (width k) n ++ bs)
    long = omega (arith, length-append (to_bits (width k) n) bs, length_to_bits (width k) n)

    is : number (take (width k) (to_bits (width k) n ++ bs)) ≡ n
    is = ap number (take_at (to_bits (width k) n) bs (width k) (length_to_bits (width k) n)) ∙ number_to_bits (width k) n ∙ mod-eq_of_lt l

pub read_asked : {A : Type 0} {f : Form A} {ss : List Slot} {a : A} → Asks f ss a → (bs : List ℕ) → read f (slots_bits ss ++ bs) ≡ value (record { got = a; left = bs })
read_asked nothing bs = refl
read_asked (next {k} {f} {z} {ss} p q) bs =
    ap (read (ask k f)) (append_assoc (to_bits (width k) (encoded z)) (slots_bits ss) bs)
    ∙ ap (λ (x : Answer (Read ℕ)). then x (λ y. read (f y.got) y.left)) (entry_encoded k (encoded z) (slots_bits ss ++ bs) p.may p.narrow)
    ∙ read_asked q bs

-- and the packer lets them through
pub asked_tested : {A : Type 0} {f : Form A} {ss : List Slot} {a : A} → Asks f ss a → slots_tested ss ≡ value tt
asked_tested nothing = refl
asked_tested (next {k} {z} {ss} p q) = ap (λ (t : Bool). cond t (slots_tested ss) (refused (refusal_number (complaint k)))) p.fit ∙ asked_tested q

-- ---- from the reader

-- the number that a field of bits means
abbrev pub stands_for_as : Sort → ℕ → ℤ
stands_for_as fixed = pos
stands_for_as natural = pos
stands_for_as signed = twos_complement

abbrev pub stands_for : FieldKind → ℕ → ℤ
stands_for k = stands_for_as (sort k)

-- a − b below 0
pub below_zero : (a n : ℕ) → pos a -ℤ pos (a + suc n) ≡ negsuc n
below_zero a n = by_test (a + suc n) (omega arith) (omega arith)
  where
    by_test : (b : ℕ) → a < b → b - suc a ≡ n → pos a -ℤ pos b ≡ negsuc n
    by_test zero l e = absurd (omega arith)
    by_test (suc b) l e = ap (λ (t : Bool). cond t (negsuc (suc b - suc a)) (pos (a - suc b))) (lt-ltb a (suc b) l) ∙ ap negsuc e

pub twos_complement_below : (n : ℕ) → n < 2 ^ 31 → twos_complement (2 ^ 32 - suc n) ≡ negsuc n
twos_complement_below n l =
    twos_complement_high (2 ^ 32 - suc n) (omega arith)
    ∙ ap (λ (m : ℕ). pos (2 ^ 32 - suc n) -ℤ pos m) all ∙ below_zero (2 ^ 32 - suc n) n
  where
    all : 2 ^ 32 ≡ 2 ^ 32 - suc n + suc n
    all = omega arith

pub encoded_twos_complement : (c : ℕ) → c < 2 ^ 32 → encoded (twos_complement c) ≡ c
encoded_twos_complement c l = by_sign (ltb c (2 ^ 31)) refl
  where
    by_sign : (t : Bool) → ltb c (2 ^ 31) ≡ t → encoded (twos_complement c) ≡ c
    by_sign true e = ap encoded (twos_complement_low c (ltb-true c (2 ^ 31) e))
    by_sign false e =
        ap (λ (m : ℕ). encoded (twos_complement m)) apart ∙ ap encoded (twos_complement_below (2 ^ 32 - suc c) (omega (arith, ltb-false c (2 ^ 31) e))) ∙ sym apart
      where
        apart : c ≡ 2 ^ 32 - suc (2 ^ 32 - suc c)
        apart = omega arith

-- one case for each kind
width_most : (k : FieldKind) → width k ≤ 32
width_most version = omega arith
width_most scale = omega arith
width_most inputs = omega arith
width_most instructions = omega arith
width_most outputs = omega arith
width_most code = omega arith
width_most constant = omega arith
width_most (operand v) = omega arith
width_most centre = omega arith
width_most (margin c) = omega arith
width_most (small_scale F) = omega arith

pub encoded_meant : (k : FieldKind) (n : ℕ) → n < 2 ^ width k → encoded (stands_for k n) ≡ n
encoded_meant k n l = by_sort (sort k)
  where
    most : 2 ^ width k ≤ 2 ^ 32
    most = pow_mono {j = 32} (width_most k)

    by_sort : (s : Sort) → encoded (stands_for_as s n) ≡ n
    by_sort fixed = refl
    by_sort natural = refl
    by_sort signed = encoded_twos_complement n (omega (arith, most))

-- P of every list of fields that the form can have read with what it then gives
abbrev pub Tells : {A : Type 0} → (List Slot → A → Type 0) → Form A → Type 0
Tells P (done a) = P [] a
Tells P (ask k f) = (n : ℕ) → permitted k n ≡ true → n < 2 ^ width k → Tells (λ ss a. P (slot k (stands_for k n) ∷ ss) a) (f n)

pub tells_bind : {A B : Type 0} (P : List Slot → A → Type 0) (R : List Slot → B → Type 0) (f : Form A) (g : A → Form B)
    → Tells P f → ((ss : List Slot) (a : A) → P ss a → Tells (λ ts b. R (ss ++ ts) b) (g a)) → Tells R (f >>= g)
tells_bind P R (done a) g h r = r [] a h
tells_bind P R (ask k f) g h r =
    λ n t l. tells_bind (λ ss a. P (slot k (stands_for k n) ∷ ss) a) (λ ts b. R (slot k (stands_for k n) ∷ ts) b) (f n) g (h n t l) (λ ss a p. r (slot k (stands_for k n) ∷ ss) a p)

-- what was read, and the fields that were read
pub record Told {A : Type 0} (P : List Slot → A → Type 0) (bs : List ℕ) (x : Read A) : Type 0 where
  pub slots : List Slot
  pub holds : P slots x.got
  pub were : bs ≡ slots_bits slots ++ x.left
  pub are : AreBits x.left

-- one field that was read was there
entry_was : (k : FieldKind) {bs : List ℕ} {x : Read ℕ} → AreBits bs → entry k bs ≡ value x
    → bs ≡ to_bits (width k) x.got ++ x.left
entry_was k {bs} {x} p e =
    let f = (passed_test (width k) (permitted k) (complaint k) bs e).0 in
    let l = field_whole (width k) bs f in
    subst (λ (r : Read ℕ). bs ≡ to_bits (width k) r.got ++ r.left)
    (same_value (sym (field_got (width k) bs l) ∙ f)) (there l)
  where
    there : width k ≤ length bs → bs ≡ to_bits (width k) (number (take (width k) bs)) ++ drop (width k) bs
    there l =
        sym
        (ap (λ (n : ℕ). to_bits n (number (take (width k) bs)) ++ drop (width k) bs)
        (sym (length-take-le (width k) bs l))
        ∙ ap (λ (c : List ℕ). c ++ drop (width k) bs) (to_bits_number (are_bits_take (width k) p))
        ∙ take-append-drop (width k) bs)

pub read_tells : {A : Type 0} (P : List Slot → A → Type 0) (f : Form A) {bs : List ℕ} {x : Read A} → Tells P f → AreBits bs → read f bs ≡ value x → Told P bs x
read_tells P (done a) {bs} h p e = subst (Told P bs) (same_value e) (record { slots = []; holds = h; were = refl; are = p })
read_tells {A} P (ask k f) {bs} {x} h p e =
    let a = first_of (entry k bs) (λ y. read (f y.got) y.left) e in
    let q = entry_kept k p a.was in
    further a.first a.was q (read_tells (λ ss b. P (slot k (stands_for k a.first.got) ∷ ss) b) (f a.first.got) (h a.first.got q.passes q.small) q.are a.then_was)
  where
    further : (y : Read ℕ) → entry k bs ≡ value y → Passing k y → Told (λ ss b. P (slot k (stands_for k y.got) ∷ ss) b) y.left x → Told P bs x
    further y was q t =
        record {
          slots = slot k (stands_for k y.got) ∷ t.slots;
          holds = t.holds;
          were =
              entry_was k p was ∙ ap (λ (c : List ℕ). to_bits (width k) y.got ++ c) t.were
              ∙ sym (append_assoc (to_bits (width k) y.got) (slots_bits t.slots) x.left)
              ∙ ap (λ (n : ℕ). to_bits (width k) n ++ slots_bits t.slots ++ x.left) (sym (encoded_meant k y.got q.small));
          are = t.are;
        }
