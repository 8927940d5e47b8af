-- Reading one form after another. Assumes nothing.
use mathlib.Core.Path.{◌≡◌, refl}
use mathlib.Core.List.{List}
use Prim.Native.Nat.{ℕ}
use Rattle.refusals.specs.Answer.{Answer, value, refused, then}
use Rattle.bits.specs.Reader.{Read}
use Rattle.packed.specs.Items.{FieldKind, Form, done, ask, item, entry, read}
use Rattle.packed.specs.Items.{◌>>=◌}

-- the second form is read from where the first one ended
pub read_bind : {A B : Type 0} (f : Form A) (g : A → Form B) (bs : List ℕ)
    → read (f >>= g) bs ≡ then (read f bs) (λ x. read (g x.got) x.left)
read_bind (done a) g bs = refl
read_bind {A} {B} (ask k f) g bs = by_entry (λ n cs. read_bind (f n) g cs) (entry k bs)
  where
    by_entry : ((n : ℕ) (cs : List ℕ) → read (f n >>= g) cs ≡ then (read (f n) cs) (λ x. read (g x.got) x.left))
        → (a : Answer (Read ℕ)) → then a (λ x. read (f x.got >>= g) x.left)
        ≡ then (then a (λ x. read (f x.got) x.left)) (λ x. read (g x.got) x.left)
    by_entry rest (value x) = rest x.got x.left
    by_entry rest (refused n) = refl

-- one field by itself
pub read_item : (k : FieldKind) (bs : List ℕ) → read (item k) bs ≡ entry k bs
read_item k bs = by_entry (entry k bs)
  where
    by_entry : (a : Answer (Read ℕ)) → then a (λ x. value (record { got = x.got; left = x.left })) ≡ a
    by_entry (value x) = refl
    by_entry (refused n) = refl
