-- Taking a field allows one outcome. Assumes nothing.
use mathlib.Core.Path.{◌≡◌, refl, sym, ◌∙◌, ap, ap₂}
use mathlib.Core.List.{List}
use Prim.Native.Nat.{ℕ}
use Rattle.std.specs.declared.option.Option.TheVariants.{None, Some}
use Rattle.refusals.proofs.Answers.{no_value, same_value}
use Rattle.bits.specs.declared.Cursor.{Cursor}
use Rattle.bits.specs.Fields.{Field}
use Rattle.bits.specs.Reader.{Read}
use Rattle.bits.specs.Fields.{field_answer, Advanced}

-- cursors at the same bit are the same
pub one_cursor : (c d : Cursor) → c.at ≡ d.at → c ≡ d
one_cursor c d e = ap (λ n. record { at = n }) e

pub field_one_outcome : (s : List ℕ) (c : Cursor) (w : ℕ) (r t : Field) → field_answer s r ≡ field_answer s t
    → Advanced c w r → Advanced c w t → r ≡ t
field_one_outcome s c w (Some (m, d)) (Some (n, e)) u a b =
    ap₂ (λ (k : ℕ) (f : Cursor). Some (k, f)) (ap (λ (x : Read ℕ). x.got) (same_value u)) (one_cursor d e (a.0 ∙ sym b.0))
field_one_outcome s c w (Some (m, d)) None u a b = absurd (no_value (sym u))
field_one_outcome s c w None (Some (n, e)) u a b = absurd (no_value u)
field_one_outcome s c w None None u a b = refl
