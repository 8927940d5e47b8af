-- A text that is not read goes wrong at one place, and one that is read at none. Assumes nothing.
use mathlib.Core.Path.{◌≡◌, refl, sym, subst}
use mathlib.Core.List.{List, [], ◌++◌, append_assoc, append-nil}
use mathlib.Core.Option.{Option}
use Prim.Native.Nat.{ℕ, suc, ◌≤◌}
use native.Mathlib.Omega.{arith}
use lib.ListN.{length}
use Rattle.lists.proofs.Beginnings.{begins_take, one_place}
use Rattle.decimal_texts.specs.Places.{Legal, Begins, Misplaced, wrong_byte, wrong_end}

module _ {A : Type 0} {f : List ℕ → Option A} where
  -- fewer bytes begin a text where more do
  pub begins_part : (a b : List ℕ) → Begins f (a ++ b) → Begins f a
  begins_part a b x = record { rest = b ++ x.rest; legal = subst (Legal f) (append_assoc a b x.rest) x.legal }

  pub legal_begins : {s : List ℕ} → Legal f s → Begins f s
  legal_begins {s} x = record { rest = []; legal = subst (Legal f) (sym (append-nil s)) x }

  module _ {s : List ℕ} where
    pub one_misplaced : {p q : ℕ} → Misplaced f s p → Misplaced f s q → p ≡ q
    one_misplaced (wrong_byte {p} l b w) (wrong_byte {p = q} m c v) = one_place begins_part s p q b w c v
    one_misplaced (wrong_byte {p} l b w) (wrong_end c v) = absurd (w (begins_take begins_part s (suc p) c))
    one_misplaced (wrong_end b w) (wrong_byte {p} m c v) = absurd (v (begins_take begins_part s (suc p) b))
    one_misplaced (wrong_end b w) (wrong_end c v) = refl

    pub never_both : {p : ℕ} → Misplaced f s p → Legal f s → ⊥
    never_both (wrong_byte {p} l b w) x = w (begins_take begins_part s (suc p) (legal_begins x))
    never_both (wrong_end b w) x = w x

    pub misplaced_inside : {p : ℕ} → Misplaced f s p → p ≤ length s
    misplaced_inside (wrong_byte l b w) = omega arith
    misplaced_inside (wrong_end b w) = omega arith
