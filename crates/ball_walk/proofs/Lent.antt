-- Balls in two lent lists: what stands at a place, and a ball put behind others. Assumes nothing.
use mathlib.Core.Path.{◌≡◌, sym, ◌∙◌, ap, ap₂, subst}
use mathlib.Core.List.{List, [], ◌∷◌, ◌++◌, map}
use Prim.Native.Nat.{ℕ, ◌+◌, ◌^◌, ◌≤◌, ◌<◌}
use native.Mathlib.Omega.{arith}
use lib.IntN.{ℤ, pos, nat_abs}
use lib.ListN.{length, get_or, set, take, length-map, get_or-map}
use lib.Signed.{mag}
use lib.Seq.{get_or-take}
use mir.Syntax.{w64}
use mir.Val.{SFits}
use mir.ValLaws.{to_z-of_z}
use Rattle.whole.proofs.Machine.{back}
use Rattle.rules.specs.declared.Ball.{Ball}
use Rattle.rules.specs.Balls.{ball}
use Rattle.rules.specs.Lists.{balls, ball_lists, HoldBalls}
use Rattle.rules.proofs.Lists.{balls_at, ball_at, balls_many, balls_start, balls_more}
use Rattle.formulas.specs.Readings.{ball_readings, balls_brought}
use Rattle.formulas.specs.Kinds.{ball_kind, Stands, StandsFor, Puts}
use Rattle.formulas.proofs.Lawful.{ball_room}
use Rattle.walks.specs.Walks.{Gives}
use Rattle.readings.specs.Judges.{InEach}
use Rattle.readings.proofs.InLists.{in_first, in_second}

inside : (cs : List ℤ) (rs : List ℕ) {i : ℕ} → i < ball_kind.room (ball_lists cs rs) → (i + 1 ≤ length cs) × (i + 1 ≤ length rs)
inside cs rs {i} b = ball_room {n = i + 1} (ball_lists cs rs) (omega (arith, b))

pub centre_inside : (cs : List ℤ) (rs : List ℕ) {i : ℕ} → i < ball_kind.room (ball_lists cs rs) → i < length cs
centre_inside cs rs b = omega (arith, (inside cs rs b).0)

pub margin_inside : (cs : List ℤ) (rs : List ℕ) {i : ℕ} → i < ball_kind.room (ball_lists cs rs) → i < length rs
margin_inside cs rs b = omega (arith, (inside cs rs b).1)

-- a reading in two lists that a caller brings
pub ball_stands_for : {i n : ℕ} {cs rs : List ℤ} → InEach i (balls_brought (ball_readings cs rs)) → SFits w64 (get_or cs i (pos 0))
    → SFits w64 (get_or rs i (pos 0)) → n ≡ nat_abs (back (get_or rs i (pos 0)))
    → StandsFor ball_kind i (ball_readings cs rs) (ball (back (get_or cs i (pos 0))) n)
ball_stands_for {i} {n} {cs} {rs} p f g e =
    record {
      is =
          ap₂ ball (to_z-of_z w64 (get_or cs i (pos 0)) f) (e ∙ ap nat_abs (to_z-of_z w64 (get_or rs i (pos 0)) g) ∙ sym (get_or-map nat_abs rs i (pos 0)))
          ∙ sym (ball_at cs (map nat_abs rs) i (in_first p) (omega (arith, in_second p, length-map rs nat_abs)));
    }

module _ {i : ℕ} {cs : List ℤ} {rs : List ℕ} where
  ball_there : Stands ball_kind i (ball_lists cs rs) (ball (get_or cs i (pos 0)) (get_or rs i 0))
  ball_there =
      record {
        is = λ made b r.
            let p = ball_room (ball_lists cs rs) r in
            sym (balls_at made i cs rs b p.0 p.1 ∙ ap₂ ball (get_or-take made cs i (pos 0) b) (get_or-take made rs i 0 b));
      }

  pub ball_stands : SFits w64 (get_or cs i (pos 0)) → Stands ball_kind i (ball_lists cs rs) (ball (back (get_or cs i (pos 0))) (get_or rs i 0))
  ball_stands f =
      record {
        is = λ made b r. ap (λ (z : ℤ). ball z (get_or rs i 0)) (to_z-of_z w64 (get_or cs i (pos 0)) f) ∙ ball_there.is made b r;
      }

  -- a ball that was read is handed on as it is
  pub ball_kept : {x : Ball} → mag x.centre < 2 ^ 63 → Stands ball_kind i (ball_lists cs rs) x
      → Stands ball_kind i (ball_lists cs rs) (ball (back x.centre) x.margin)
  ball_kept {x} f s =
      record { is = λ made b r. ap (λ (z : ℤ). ball z x.margin) (to_z-of_z w64 x.centre (record { sfits = f })) ∙ s.is made b r }

  pub ball_puts : {v : Ball} → i < ball_kind.room (ball_lists cs rs) → SFits w64 v.centre
      → Puts ball_kind i v (ball_lists cs rs) (ball_lists (set cs i (back v.centre)) (set rs i v.margin))
  ball_puts {v} b f =
      let p = inside cs rs b in
      let l : i ≤ length cs = omega (arith, p.0) in
      let m : i ≤ length rs = omega (arith, p.1) in
      record {
        holds =
            subst (λ (z : ℤ). HoldBalls (balls (take i cs) (take i rs) ++ v ∷ []) (ball_lists cs rs) (ball_lists (set cs i z) (set rs i v.margin)))
            (sym (to_z-of_z w64 v.centre f))
            (balls_more v (balls_many i cs rs l m) (omega (arith, p.0)) (omega (arith, p.1)) (balls_start i (ball_lists cs rs) l m));
      }

pub ball_gives : {k o : ℕ} {cs oc : List ℤ} {rs om : List ℕ} → k < ball_kind.room (ball_lists oc om) → SFits w64 (get_or cs o (pos 0))
    → Gives ball_kind k o (ball_lists cs rs) (ball_lists oc om) (ball_lists (set oc k (back (get_or cs o (pos 0)))) (set om k (get_or rs o 0)))
ball_gives {o = o} {cs = cs} {rs = rs} b f =
    record { given = ball (get_or cs o (pos 0)) (get_or rs o 0); stands = ball_there; puts = ball_puts b f }
