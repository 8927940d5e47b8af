-- Plain values in a lent list: what stands at a place, and a value put behind others. Assumes nothing.
use mathlib.Core.Path.{sym, ◌∙◌, ap, refl}
use mathlib.Core.List.{List}
use Prim.Native.Nat.{ℕ, ◌^◌, ◌<◌}
use lib.IntN.{ℤ, pos}
use lib.ListN.{length, get_or, set, take}
use lib.Signed.{mag}
use lib.Seq.{get_or-take, length-take-le}
use native.Mathlib.Omega.{arith}
use mir.Syntax.{w64}
use mir.Val.{SFits}
use mir.ValLaws.{to_z-of_z}
use Rattle.whole.proofs.Machine.{back}
use Rattle.lists.proofs.PartOf.{itself, part_start, part_more}
use Rattle.formulas.specs.Kinds.{plain_kind, Stands, Puts}
use Rattle.walks.specs.Walks.{Gives}

pub plain_stands : {i : ℕ} {l : List ℤ} → SFits w64 (get_or l i (pos 0)) → Stands plain_kind i l (back (get_or l i (pos 0)))
plain_stands {i} {l} f = record { is = λ made b r. to_z-of_z w64 (get_or l i (pos 0)) f ∙ sym (get_or-take made l i (pos 0) b) }

pub plain_puts : {i : ℕ} {v : ℤ} {l : List ℤ} → i < length l → SFits w64 v → Puts plain_kind i v l (set l i (back v))
plain_puts {i} {v} {l} b f =
    let many = length-take-le i l (omega (arith, b)) in
    record {
      holds =
          ap (set l i) (to_z-of_z w64 v f)
          ∙ part_more (itself (pos 0)) (take i l) v l many b (part_start (itself (pos 0)) (take i l) l many refl);
    }

pub plain_gives : {k o : ℕ} {work out : List ℤ} → k < length out → SFits w64 (get_or work o (pos 0))
    → Gives plain_kind k o work out (set out k (back (get_or work o (pos 0))))
plain_gives {k} {o} {work} {out} b f =
    record {
      given = get_or work o (pos 0);
      stands = record { is = λ made l r. sym (get_or-take made work o (pos 0) l) };
      puts = plain_puts b f;
    }

-- a value that was read is handed on as it is
pub plain_kept : {i : ℕ} {x : ℤ} {l : List ℤ} → mag x < 2 ^ 63 → Stands plain_kind i l x → Stands plain_kind i l (back x)
plain_kept {x = x} f s = record { is = λ made b r. to_z-of_z w64 x (record { sfits = f }) ∙ s.is made b r }
