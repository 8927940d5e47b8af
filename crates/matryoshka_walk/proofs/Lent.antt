-- Matryoshki in three lent lists: what stands at a place, and a matryoshka put behind others. Assumes nothing.
use mathlib.Core.Path.{◌≡◌, sym, ◌∙◌, ap, subst}
use mathlib.Core.List.{List, [], ◌∷◌, ◌++◌, map}
use Prim.Native.Nat.{ℕ, ◌+◌, ◌^◌, ◌≤◌, ◌<◌}
use native.Mathlib.Omega.{arith}
use lib.IntN.{ℤ, pos, nat_abs}
use lib.ListN.{length, get_or, set, take, length-map, get_or-map}
use lib.Signed.{mag}
use lib.Seq.{get_or-take}
use mir.Syntax.{w64}
use mir.Val.{SFits}
use mir.ValLaws.{to_z-of_z}
use Rattle.whole.proofs.Cases.{ap₃}
use Rattle.whole.proofs.Machine.{back}
use Rattle.rules.specs.declared.Matryoshka.{Matryoshka}
use Rattle.rules.specs.Matryoshki.{matryoshka}
use Rattle.rules.specs.Lists.{matryoshki, matryoshka_lists, HoldMatryoshki}
use Rattle.rules.proofs.Lists.{matryoshki_at, matryoshka_at, matryoshki_many, matryoshki_start, matryoshki_more}
use Rattle.formulas.specs.Readings.{domain, domain_brought}
use Rattle.formulas.specs.Kinds.{matryoshka_kind, Stands, StandsFor, Puts}
use Rattle.formulas.proofs.Lawful.{Room, matryoshka_room}
use Rattle.walks.specs.Walks.{Gives}
use Rattle.readings.specs.Judges.{InEach}
use Rattle.readings.proofs.InLists.{in_first, in_second, in_third}

inside : (cs : List ℤ) (ss rs : List ℕ) {i : ℕ} → i < matryoshka_kind.room (matryoshka_lists cs ss rs) → Room (i + 1) (matryoshka_lists cs ss rs)
inside cs ss rs b = matryoshka_room (matryoshka_lists cs ss rs) (omega (arith, b))

pub middle_inside : (cs : List ℤ) (ss rs : List ℕ) {i : ℕ} → i < matryoshka_kind.room (matryoshka_lists cs ss rs) → i < length cs
middle_inside cs ss rs b = omega (arith, (inside cs ss rs b).for_middles)

pub stray_inside : (cs : List ℤ) (ss rs : List ℕ) {i : ℕ} → i < matryoshka_kind.room (matryoshka_lists cs ss rs) → i < length ss
stray_inside cs ss rs b = omega (arith, (inside cs ss rs b).for_strays)

pub margin_inside : (cs : List ℤ) (ss rs : List ℕ) {i : ℕ} → i < matryoshka_kind.room (matryoshka_lists cs ss rs) → i < length rs
margin_inside cs ss rs b = omega (arith, (inside cs ss rs b).for_margins)

-- a reading in three lists that a caller brings
pub matryoshka_stands_for : {i m n : ℕ} {cs ss rs : List ℤ} → InEach i (domain_brought (domain cs ss rs)) → SFits w64 (get_or cs i (pos 0))
    → SFits w64 (get_or ss i (pos 0)) → SFits w64 (get_or rs i (pos 0)) → m ≡ nat_abs (back (get_or ss i (pos 0)))
    → n ≡ nat_abs (back (get_or rs i (pos 0)))
    → StandsFor matryoshka_kind i (domain cs ss rs) (matryoshka (back (get_or cs i (pos 0))) m n)
matryoshka_stands_for {i} {m} {n} {cs} {ss} {rs} p f g h d e =
    record {
      is =
          ap₃ matryoshka (to_z-of_z w64 (get_or cs i (pos 0)) f) (size ss g d) (size rs h e)
          ∙ sym (matryoshka_at cs (map nat_abs ss) (map nat_abs rs) i (in_first p) (omega (arith, in_second p, length-map ss nat_abs))
          (omega (arith, in_third p, length-map rs nat_abs)));
    }
  where
    size : {k : ℕ} (xs : List ℤ) → SFits w64 (get_or xs i (pos 0)) → k ≡ nat_abs (back (get_or xs i (pos 0))) → k ≡ get_or (map nat_abs xs) i 0
    size xs f e = e ∙ ap nat_abs (to_z-of_z w64 (get_or xs i (pos 0)) f) ∙ sym (get_or-map nat_abs xs i (pos 0))

module _ {i : ℕ} {cs : List ℤ} {ss rs : List ℕ} where
  matryoshka_there : Stands matryoshka_kind i (matryoshka_lists cs ss rs) (matryoshka (get_or cs i (pos 0)) (get_or ss i 0) (get_or rs i 0))
  matryoshka_there =
      record {
        is = λ made b r.
            let p = matryoshka_room {n = made} (matryoshka_lists cs ss rs) r in
            sym (matryoshki_at made cs ss rs p.for_middles p.for_strays p.for_margins i b
            ∙ ap₃ matryoshka (get_or-take made cs i (pos 0) b) (get_or-take made ss i 0 b) (get_or-take made rs i 0 b));
      }

  pub matryoshka_stands : SFits w64 (get_or cs i (pos 0))
      → Stands matryoshka_kind i (matryoshka_lists cs ss rs) (matryoshka (back (get_or cs i (pos 0))) (get_or ss i 0) (get_or rs i 0))
  matryoshka_stands f =
      record {
        is = λ made b r.
            ap (λ (z : ℤ). matryoshka z (get_or ss i 0) (get_or rs i 0)) (to_z-of_z w64 (get_or cs i (pos 0)) f) ∙ matryoshka_there.is made b r;
      }

  -- a matryoshka that was read is handed on as it is
  pub matryoshka_kept : {x : Matryoshka} → mag x.middle < 2 ^ 63 → Stands matryoshka_kind i (matryoshka_lists cs ss rs) x
      → Stands matryoshka_kind i (matryoshka_lists cs ss rs) (matryoshka (back x.middle) x.stray x.margin)
  matryoshka_kept {x} f s =
      record { is = λ made b r. ap (λ (z : ℤ). matryoshka z x.stray x.margin) (to_z-of_z w64 x.middle (record { sfits = f })) ∙ s.is made b r }

  pub matryoshka_puts : {v : Matryoshka} → i < matryoshka_kind.room (matryoshka_lists cs ss rs) → SFits w64 v.middle
      → Puts matryoshka_kind i v (matryoshka_lists cs ss rs)
      (matryoshka_lists (set cs i (back v.middle)) (set ss i v.stray) (set rs i v.margin))
  matryoshka_puts {v} b f =
      let p = inside cs ss rs b in
      let l : i ≤ length cs = omega (arith, p.for_middles) in
      let m : i ≤ length ss = omega (arith, p.for_strays) in
      let n : i ≤ length rs = omega (arith, p.for_margins) in
      record {
        holds =
            subst (λ (z : ℤ). HoldMatryoshki (matryoshki (take i cs) (take i ss) (take i rs) ++ v ∷ []) (matryoshka_lists cs ss rs)
            (matryoshka_lists (set cs i z) (set ss i v.stray) (set rs i v.margin)))
            (sym (to_z-of_z w64 v.middle f))
            (matryoshki_more v (matryoshki_many i cs ss rs l m n) (omega (arith, p.for_middles)) (omega (arith, p.for_strays)) (omega (arith, p.for_margins))
            (matryoshki_start i (matryoshka_lists cs ss rs) l m n));
      }

pub matryoshka_gives : {k o : ℕ} {cs oc : List ℤ} {ss rs os om : List ℕ} → k < matryoshka_kind.room (matryoshka_lists oc os om)
    → SFits w64 (get_or cs o (pos 0))
    → Gives matryoshka_kind k o (matryoshka_lists cs ss rs) (matryoshka_lists oc os om)
    (matryoshka_lists (set oc k (back (get_or cs o (pos 0)))) (set os k (get_or ss o 0)) (set om k (get_or rs o 0)))
matryoshka_gives {o = o} {cs = cs} {ss = ss} {rs = rs} b f =
    record { given = matryoshka (get_or cs o (pos 0)) (get_or ss o 0) (get_or rs o 0); stands = matryoshka_there; puts = matryoshka_puts b f }
