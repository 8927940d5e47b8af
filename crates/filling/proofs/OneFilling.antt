-- The outputs begin at one place: with the equations of its lists, filling from a program has one outcome. Assumes
-- nothing.
use mathlib.Core.Path.{◌≡◌, sym, ◌∙◌}
use mathlib.Core.List.{List}
use Prim.Native.Nat.{ℕ}
use Rattle.bits.specs.declared.Cursor.{Cursor}
use Rattle.bits.proofs.OneField.{one_cursor}
use Rattle.walks.specs.Walks.{AtOutputs}

pub at_outputs_one_place : {s : List ℕ} (c d : Cursor) → AtOutputs s c → AtOutputs s d → c ≡ d
at_outputs_one_place c d p q = one_cursor c d (p.stands ∙ sym q.stands)
