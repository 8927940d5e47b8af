-- Several readings one after another: the first that is refused, or the place after the last. Assumes nothing.
use mathlib.Core.Path.{◌≡◌, refl, sym, ◌∙◌, ap}
use mathlib.Core.List.{List, ◌∷◌}
use Prim.Native.Nat.{ℕ, suc, ◌+◌, ◌-◌, ◌*◌, ◌≤◌, ◌<◌, zero-le}
use native.Mathlib.Nat.{mul-suc}
use native.Mathlib.Numerals.{add-one}
use native.Mathlib.Omega.{arith}
use Rattle.std.specs.declared.result.Result.TheVariants.{Ok, Err}
use Rattle.std.specs.declared.option.Option.TheVariants.{None, Some}
use Rattle.whole.proofs.Cases.{by_case}
use Rattle.refusals.specs.declared.Refusal.{Refusal}
use Rattle.refusals.specs.declared.Refusal.TheVariants as refusal
use Rattle.refusals.specs.Answer.{Answer, value, refused, refuse, then}
use Rattle.bits.specs.declared.Cursor.{Cursor}
use Rattle.bits.specs.Fields.{Field}
use Rattle.bits.specs.Reader.{Read, field}
use Rattle.bits.specs.Fields.{before, field_answer, Advanced}
use Rattle.packed.specs.declared.Decoded.{Decoded}
use Rattle.packed.specs.ReaderAnswers.{InstructionRead}
use Rattle.packed.specs.Items.{from_below, operand, Form, done, item, read, ◌>>=◌}
use Rattle.packed.specs.Format.{several, instruction, results, wide, widest}
use Rattle.packed.specs.ReaderAnswers.{instruction_answer, Instructed}
use Rattle.packed.proofs.FieldIn.{test_cut, test_failed, test_passed, above_out, between}
use Rattle.packed.proofs.Instructions.{wide_most}
use Rattle.packed.proofs.InTurn.{read_bind, read_item}
use Rattle.checking.specs.CheckAnswers.{place, PassedOver}

-- ---- one reading

pub record Stops {A : Type 0} (s : List ℕ) (f : Form A) (c : Cursor) (r : Refusal) : Type 0 where
  pub is : read f (before s c) ≡ refuse r

pub record GoesOn {A : Type 0} (s : List ℕ) (f : Form A) (c d : Cursor) : Type 0 where
  pub got : A
  pub is : read f (before s c) ≡ value (record { got = got; left = before s d })

module _ {s : List ℕ} {F v : ℕ} {c : Cursor} {q : InstructionRead} (e : Instructed s F v c q) where
  instruction_stops : {r : Refusal} → q ≡ Err r → Stops s (instruction F v) c r
  instruction_stops u = record { is = by_case (instruction_answer s) e.answers u }

  module _ {d : Decoded} (u : q ≡ Ok d) where
    instruction_on : GoesOn s (instruction F v) c d.next
    instruction_on = record { got = d.instruction; is = by_case (instruction_answer s) e.answers u }

    instruction_near : d.next.at ≤ c.at + widest
    instruction_near =
        let p : d.next.at ≡ c.at + wide d.instruction = rw u at e.past in
        omega (arith, p, wide_most d.instruction)

module _ {s : List ℕ} {v : ℕ} {c : Cursor} {f : Field} (e : field_answer s f ≡ field 10 (before s c)) where
  pub output_cut : f ≡ None → Stops s (item (operand v)) c refusal.Ended
  output_cut u =
      let t = test_cut 10 (from_below 0 v) refusal.Operand (before s c) (by_case (field_answer s) e u) in
      record { is = read_item (operand v) (before s c) ∙ t }

  module _ {n : ℕ} {d : Cursor} (u : f ≡ Some (n, d)) where
    pub output_stops : v ≤ n → Stops s (item (operand v)) c refusal.Operand
    output_stops l =
        let g = by_case (field_answer s) e u in
        let t = test_failed 10 (from_below 0 v) refusal.Operand (before s c) g (above_out 0 v n l) in
        record { is = read_item (operand v) (before s c) ∙ t }

    pub output_on : n < v → GoesOn s (item (operand v)) c d
    output_on l =
        let g = by_case (field_answer s) e u in
        let t = test_passed 10 (from_below 0 v) refusal.Operand (before s c) g (between 0 v n zero-le l) in
        record { got = n; is = read_item (operand v) (before s c) ∙ t }

-- ---- several

-- from here on n are left to be read, the first with number v, and what they come to is a
pub record Left {A : Type 0} (f : ℕ → Form A) (a : Answer (List ℕ)) (s : List ℕ) (c : Cursor) (v n : ℕ) : Type 0 where
  pub is : place (read (several f n v) (before s c)) ≡ a

module _ {A : Type 0} (f : ℕ → Form A) where
  one_more : (v k : ℕ) (bs : List ℕ)
      → place (read (several f (suc k) v) bs) ≡ place (then (read (f v) bs) (λ x. read (several f k (suc v)) x.left))
  unfolding several
  one_more v k bs =
      ap place (read_bind (f v) (λ a. several f k (suc v) >>= λ more. done (a ∷ more)) bs) ∙ by_first (read (f v) bs)
    where
      by_rest : (x : Read A) (r : Answer (Read (List A)))
          → place (then r (λ y. value (record { got = x.got ∷ y.got; left = y.left }))) ≡ place r
      by_rest x (value y) = refl
      by_rest x (refused n) = refl

      by_first : (a : Answer (Read A))
          → place (then a (λ x. read (several f k (suc v) >>= λ more. done (x.got ∷ more)) x.left))
          ≡ place (then a (λ x. read (several f k (suc v)) x.left))
      by_first (value x) =
          ap place (read_bind (several f k (suc v)) (λ more. done (x.got ∷ more)) x.left)
          ∙ by_rest x (read (several f k (suc v)) x.left)
      by_first (refused n) = refl

  module _ {a : Answer (List ℕ)} {s : List ℕ} {c : Cursor} (b n : ℕ) (l : Left f a s c b n) where
    none_left : n ≡ 0 → value (before s c) ≡ a
    unfolding several
    none_left e = rw e at l.is

    module _ (some : 0 < n) where
      unrolled : place (then (read (f b) (before s c)) (λ x. read (several f (n - 1) (suc b)) x.left)) ≡ a
      unrolled = let z : n ≡ suc (n - 1) = omega arith in sym (one_more b (n - 1) (before s c)) ∙ rw z at l.is

      stopped : {r : Refusal} → Stops s (f b) c r → refuse r ≡ a
      stopped e = rw e.is at unrolled

      one_on : {d : Cursor} → GoesOn s (f b) c d → Left f a s d (b + 1) (n - 1)
      one_on e = record { is = rw add-one (rw e.is at unrolled) }

-- those before number b of the n from number v on were passed, each within w bits, from c₀ to c: what is left to read
-- from there comes to what was to be read at the start
pub record Passing {A : Type 0} (f : ℕ → Form A) (w : ℕ) (s : List ℕ) (c₀ : Cursor) (v n : ℕ) (c : Cursor) (b : ℕ) : Type 0 where
  pub least : v ≤ b
  pub most : b ≤ v + n
  pub left : Left f (place (read (several f n v) (before s c₀))) s c b (v + n - b)
  pub near : c.at ≤ c₀.at + w * (b - v)

module _ {A : Type 0} (f : ℕ → Form A) (w : ℕ) (s : List ℕ) (c : Cursor) (v n : ℕ) where
  module _ {at : Cursor} {b : ℕ} (p : Passing f w s c v n at b) where
    pub all_passed : v + n ≤ b → PassedOver s (several f n v) (w * n) c (Ok at)
    all_passed e =
        let z : b - v ≡ n = omega (arith, p.most, p.least) in
        record { answers = none_left f b (v + n - b) p.left (omega arith); past = rw z at p.near }

    module _ (here : b < v + n) where
      pub one_refused : {r : Refusal} → Stops s (f b) at r → PassedOver s (several f n v) (w * n) c (Err r)
      one_refused e = record { answers = stopped f b (v + n - b) p.left (omega arith) e; past = tt }

      pub one_passed : {d : Cursor} → GoesOn s (f b) at d → d.at ≤ at.at + w → Passing f w s c v n d (b + 1)
      one_passed e far =
          let y : v + n - b - 1 ≡ v + n - (b + 1) = omega arith in
          let z : b + 1 - v ≡ (b - v) + 1 = omega (arith, p.least) in
          let m : w * (b + 1 - v) ≡ w * (b - v) + w = ap (λ j. w * j) z ∙ rw add-one (mul-suc w (b - v)) in
          record {
            least = omega (arith, p.least);
            most = omega arith;
            left = rw y at (one_on f b (v + n - b) p.left (omega arith) e);
            near = omega (arith, p.near);
          }

-- ---- instructions

module _ {s : List ℕ} {c at : Cursor} {F v n b : ℕ} {q : InstructionRead} where
  pub instruction_refused : {r : Refusal} → q ≡ Err r → Instructed s F b at q
      → Passing (instruction F) widest s c v n at b → b < v + n → PassedOver s (several (instruction F) n v) (widest * n) c (Err r)
  instruction_refused u e p here = one_refused (instruction F) widest s c v n p here (instruction_stops e u)

  pub instruction_passed : {d : Decoded} → q ≡ Ok d
      → Instructed s F b at q → Passing (instruction F) widest s c v n at b → b < v + n
      → Passing (instruction F) widest s c v n d.next (b + 1)
  instruction_passed u e p here =
      one_passed (instruction F) widest s c v n p here (instruction_on e u) (instruction_near e u)

-- ---- outputs, each of which names a value below v

abbrev pub output_below : ℕ → ℕ → Form ℕ
output_below v j = item (operand v)

module _ {s : List ℕ} {c at : Cursor} {v n b : ℕ} where
  pub outputs_passed : Passing (output_below v) 10 s c 0 n at b → n ≤ b
      → PassedOver s (results n v) (10 * n) c (Ok at)
  outputs_passed p l = all_passed (output_below v) 10 s c 0 n p (omega arith)

  output_stopped : {r : Refusal} → Stops s (item (operand v)) at r → Passing (output_below v) 10 s c 0 n at b → b < n
      → PassedOver s (results n v) (10 * n) c (Err r)
  output_stopped q p here = one_refused (output_below v) 10 s c 0 n p (omega arith) q

  module _ {f : Field} where
    pub output_ended : f ≡ None → field_answer s f ≡ field 10 (before s at) → Passing (output_below v) 10 s c 0 n at b → b < n
        → PassedOver s (results n v) (10 * n) c (Err refusal.Ended)
    output_ended u e p here = output_stopped (output_cut e u) p here

    module _ {m : ℕ} {d : Cursor} where
      pub output_refused : f ≡ Some (m, d) → v ≤ m → field_answer s f ≡ field 10 (before s at)
          → Passing (output_below v) 10 s c 0 n at b → b < n
          → PassedOver s (results n v) (10 * n) c (Err refusal.Operand)
      output_refused u l e p here = output_stopped (output_stops e u l) p here

      pub output_passed : f ≡ Some (m, d) → m < v → field_answer s f ≡ field 10 (before s at) → Advanced at 10 f
          → Passing (output_below v) 10 s c 0 n at b → b < n → Passing (output_below v) 10 s c 0 n d (b + 1)
      output_passed u l e a p here =
          let far = rw u at a in
          one_passed (output_below v) 10 s c 0 n p (omega arith) (output_on e u l) (omega (arith, far.0))
