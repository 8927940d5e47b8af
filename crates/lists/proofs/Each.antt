-- Something that holds of every value: at an index, with one value more, of two lists together, of outputs picked. Assumes nothing.
use mathlib.Core.List.{List, [], ◌∷◌, ◌++◌, map}
use Prim.Native.Nat.{ℕ, zero, suc, ◌≤◌, ◌<◌}
use native.Mathlib.Nat.{le_of_suc-le-suc, not-suc-le-zero}
use native.Mathlib.Omega.{arith}
use lib.ListN.{length, get_or}
use Rattle.lists.specs.All.{All}
use Rattle.lists.specs.Each.{Each}

pub all_at : {A : Type 0} {P : A → Type 0} {l : List A} → All P l → (i : ℕ) (d : A) → i < length l → P (get_or l i d)
all_at All.none i d p = absurd (not-suc-le-zero p)
all_at (All.one h a) zero d p = h
all_at (All.one h a) (suc i) d p = all_at a i d (le_of_suc-le-suc p)

pub all_behind : {A : Type 0} {P : A → Type 0} {l : List A} {v : A} → All P l → P v → All P (l ++ v ∷ [])
all_behind All.none h = All.one h All.none
all_behind (All.one g a) h = All.one g (all_behind a h)

pub all_both : {A : Type 0} {P : A → Type 0} {l m : List A} → All P l → All P m → All P (l ++ m)
all_both All.none b = b
all_both (All.one h a) b = All.one h (all_both a b)

pub all_so : {A : Type 0} {P Q : A → Type 0} {l : List A} → ((a : A) → P a → Q a) → All P l → All Q l
all_so f All.none = All.none
all_so f (All.one {a = x} h a) = All.one (f x h) (all_so f a)

-- outputs picked out of values of which it holds
pub all_picked : {A : Type 0} {P : A → Type 0} {vs : List A} (d : A) {n v : ℕ} {os : List ℕ} → All P vs → Each (λ j o. o < n) v os → n ≤ length vs
    → All P (map (λ o. get_or vs o d) os)
all_picked d a Each.none l = All.none
all_picked d a (Each.one {a = o} p ps) l = All.one (all_at a o d (omega arith)) (all_picked d a ps l)
