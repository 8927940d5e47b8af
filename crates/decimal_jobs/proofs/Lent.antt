-- What is put in front of lent lists. Assumes nothing.
use mathlib.Core.Path.{◌≡◌, refl, ap₂}
use mathlib.Core.Bool.{true}
use mathlib.Core.List.{List, [], ◌∷◌}
use Prim.Native.Nat.{ℕ, ◌<◌}
use native.Mathlib.Nat.{not-suc-le-zero}
use borrow.Author.Tests.{leb-true}
use lib.Dec.{leb}
use lib.ListN.{length, set}
use Rattle.std.specs.declared.result.Result.TheVariants.{Ok}
use Rattle.whole.proofs.Cases.{both, ap₃}
use Rattle.lists.specs.Over.{over}
use Rattle.lists.proofs.Over.{over_start}
use Rattle.refusals.specs.Said.{Reply}
use Rattle.decimal_jobs.specs.Tests.{have_places, HavePlaces, HaveRoom}
use Rattle.decimal_jobs.specs.Lent.{Leaves}
use Rattle.decimal_jobs.specs.Out.{OutLists, out_lists, put_out, nothing_out}
use Rattle.decimal_jobs.specs.In.{InLists, in_lists, put_in, nothing_in}

pub as_it_was : {A : Type 0} (old : List A) → old ≡ over [] old
as_it_was old = over_start old {front = []} refl refl

-- one value is
pub first_set : {A : Type 0} (v : A) (old : List A) → 0 < length old → set old 0 v ≡ over (v ∷ []) old
first_set v [] l = absurd (not-suc-le-zero l)
first_set v (a ∷ old) l = refl

-- nothing is
pub refuses_out : {Answers : OutLists → Reply → OutLists → Type 0} {lent : OutLists} {r : Reply} → Answers lent r nothing_out
    → Leaves put_out Answers lent lent r
refuses_out {lent = lent} a =
    record {
      front = nothing_out;
      answers = a;
      writes = ap₃ out_lists (as_it_was lent.centres) (as_it_was lent.margins) (as_it_was lent.text);
    }

pub refuses_in : {Answers : InLists → Reply → InLists → Type 0} {lent : InLists} {r : Reply} → Answers lent r nothing_in
    → Leaves put_in Answers lent lent r
refuses_in {lent = lent} a =
    record { front = nothing_in; answers = a; writes = ap₂ in_lists (as_it_was lent.centres) (as_it_was lent.margins) }

-- two lists that have a place each
module _ {n m : ℕ} {u : Unit {0}} (k : HavePlaces n m (Ok u)) where
  places : (leb 1 n ≡ true) × (leb 1 m ≡ true)
  places = both (leb 1 n) (leb 1 m) k.are

  pub first_place : 0 < n
  first_place = leb-true 1 n places.0

  pub second_place : 0 < m
  second_place = leb-true 1 m places.1

module _ {bytes text n m : ℕ} {u : Unit {0}} (k : HaveRoom bytes text n m (Ok u)) where
  rooms : (leb bytes text ≡ true) × (have_places n m ≡ true)
  rooms = both (leb bytes text) (have_places n m) k.is

  pub centre_place : 0 < n
  centre_place = leb-true 1 n (both (leb 1 n) (leb 1 m) rooms.1).0

  pub margin_place : 0 < m
  margin_place = leb-true 1 m (both (leb 1 n) (leb 1 m) rooms.1).1
