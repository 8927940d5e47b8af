-- Document 01, "The packed formula": the kinds of fields, and how a file is read, "in file order, field by field: for
-- each field first 1, then
-- its own test".
use Rattle.std.specs.Prelude.{Bool, true, cond, ◌&&◌, not, ℕ, ◌+◌, ◌^◌, leb, ltb, eqb, ℤ, pos, nat_abs, ◌-ℤ◌}
use Rattle.rules.specs.Numbers.{M}
use Rattle.rules.specs.Reciprocals.{top_reciprocal_scale}
use Rattle.refusals.specs.Answer.{value, then}
use Rattle.bits.specs.Reader.{Reader, require, field}
use Rattle.refusals.specs.declared.Refusal.{Refusal}
use Rattle.refusals.specs.declared.Refusal.TheVariants as refusal
use Rattle.refusals.specs.Refusals.{refusal_number}

-- "in two's complement": 32 bits that stand for c from 0 on, or for c − 2^32 from 2^31 on
unfoldable pub twos_complement : ℕ → ℤ
twos_complement c = cond (ltb c (2 ^ 31)) (pos c) (pos c -ℤ pos (2 ^ 32))

-- a field of the header, a code, a constant, an operand or output that may name the values below v, or, of a constant
-- with a margin, the centre and the margin of the centre c; of a reciprocal at scale F, "right after the code", the
-- test of the scale, a field of no bits
pub data FieldKind : Type 0 where
  version scale inputs instructions outputs code constant centre : FieldKind
  operand margin small_scale : ℕ → FieldKind

-- "version 7 .., scale 5, inputs m 5 .., instructions l 10 .., outputs n 5", "code 3", "a constant of 32 bits",
-- "operand of 10 bits", "32 bits of centre and 31 of margin"
abbrev pub width : FieldKind → ℕ
width version = 7
width scale = 5
width inputs = 5
width instructions = 10
width outputs = 5
width code = 3
width constant = 32
width (operand v) = 10
width centre = 32
width (margin c) = 31
width (small_scale F) = 0

abbrev pub from_below : ℕ → ℕ → ℕ → Bool
from_below lo hi n = leb lo n && ltb n hi

-- "(must be 1)", "0 to 30", "(0 to 16)", "(0 to 512)", "(1 to 16)", not "7", "(−2^31 is not allowed)", "naming a value
-- below"; "a centre of −2^31, a reach over M .. tested after the margin field is read"; "if the scale is over 16"
abbrev pub permitted : FieldKind → ℕ → Bool
permitted version = from_below 1 2
permitted scale = from_below 0 31
permitted inputs = from_below 0 17
permitted instructions = from_below 0 513
permitted outputs = from_below 1 17
permitted code = from_below 0 7
permitted constant = λ n. not (eqb n (2 ^ 31))
permitted (operand v) = from_below 0 v
permitted centre = λ c. true
permitted (margin c) = λ r. leb (nat_abs (twos_complement c) + r) M
permitted (small_scale F) = λ n. leb F top_reciprocal_scale

abbrev pub complaint : FieldKind → Refusal
complaint version = refusal.Version
complaint scale = refusal.Scale
complaint inputs = refusal.Count
complaint instructions = refusal.Count
complaint outputs = refusal.Count
complaint code = refusal.Code
complaint constant = refusal.Constant
complaint (operand v) = refusal.Operand
complaint centre = refusal.Constant
complaint (margin c) = refusal.Constant
complaint (small_scale F) = refusal.ReciprocalScale

-- a field of a width, with a test of its own
unfoldable pub tested_field : ℕ → (ℕ → Bool) → Refusal → Reader ℕ
tested_field w test r bs =
    then (field w bs) (λ x. then (require (test x.got) (refusal_number r) x.left) (λ y. value (record {
      got =
          x.got;
      left = y.left;
    })))

-- one field
abbrev pub entry : FieldKind → Reader ℕ
entry k = tested_field (width k) (permitted k) (complaint k)

-- a form: fields one after another, which the numbers read so far may decide
pub data Form (A : Type 0) : Type 0 where
  done : A → Form A
  ask : FieldKind → (ℕ → Form A) → Form A

abbrev pub item : FieldKind → Form ℕ
item k = ask k done

infixl 1 ◌>>=◌ ◌>>◌
abbrev pub ◌>>=◌ : {A B : Type 0} → Form A → (A → Form B) → Form B
done a >>= g = g a
ask k f >>= g = ask k (λ n. f n >>= g)

abbrev pub ◌>>◌ : {A B : Type 0} → Form A → Form B → Form B
f >> g = f >>= λ x. g

abbrev pub read : {A : Type 0} → Form A → Reader A
read (done a) bs = value (record { got = a; left = bs })
read (ask k f) bs = then (entry k bs) (λ x. read (f x.got) x.left)
