-- A list whose front was written: nothing written, one value more, a front written twice, the front read back. Assumes nothing.
use mathlib.Core.Path.{◌≡◌, refl, sym, ◌∙◌, ap, ap₂}
use mathlib.Core.Bool.{Bool, true, false, cond}
use mathlib.Core.List.{List, [], ◌∷◌, ◌++◌, append_assoc}
use Prim.Native.Nat.{ℕ, suc, min, ◌+◌, ◌-◌, ◌≤◌, ◌<◌}
use native.Mathlib.Numerals.{add-one}
use native.Mathlib.Omega.{arith}
use borrow.Author.Tests.{leb-true, leb-false, le-leb, lt-leb}
use lib.Dec.{leb}
use lib.ListN.{length, get_or, take, drop, set, length-append, length-drop, take-append-drop}
use lib.Seq.{drop-cons, drop-drop, drop-append-add, set_at, take_at}
use Rattle.lists.specs.Over.{over, least}

-- what stands in front already
pub over_start : {A : Type 0} (l : List A) {n : ℕ} {front : List A} → length front ≡ n → take n l ≡ front → l ≡ over front l
over_start l {n} e f = sym (take-append-drop n l) ∙ ap₂ (λ a (k : ℕ). a ++ drop k l) f (sym e)

pub one_longer : {A : Type 0} (vs : List A) (v : A) → suc (length vs) ≡ length (vs ++ v ∷ [])
one_longer vs v = sym (length-append vs (v ∷ []) ∙ add-one (length vs))

pub over_more : {A : Type 0} (front : List A) (v : A) (old : List A) {now : List A} {n : ℕ} → length front ≡ n → n < length old
    → now ≡ over front old → set now n v ≡ over (front ++ v ∷ []) old
over_more front v old {n = n} e l k =
    ap (λ a. set a n v) (k ∙ ap (λ (j : ℕ). front ++ drop j old) e ∙ ap (λ a. front ++ a) (drop-cons old n v l))
    ∙ set_at front (get_or old n v) (drop (suc n) old) v n e
    ∙ sym (append_assoc front (v ∷ []) (drop (suc n) old))
    ∙ ap (λ (j : ℕ). (front ++ v ∷ []) ++ drop j old) (ap suc (sym e) ∙ one_longer front v)

-- the longer of two fronts stays
pub over_over : {A : Type 0} (a b old : List A) → length a ≤ length b → over b (over a old) ≡ over b old
over_over a b old l =
    ap (λ (n : ℕ). b ++ drop n (a ++ drop (length a) old)) (split (length a) (length b) l)
    ∙ ap (λ r. b ++ r) (drop-append-add a (drop (length a) old) (length b - length a) ∙ drop-drop (length b - length a) (length a) old)
    ∙ ap (λ (n : ℕ). b ++ drop n old) (sym (split (length a) (length b) l))
  where
    split : (m n : ℕ) → m ≤ n → n ≡ m + (n - m)
    split m n l = omega arith

pub over_front : {A : Type 0} (a old : List A) {n : ℕ} → length a ≡ n → take n (over a old) ≡ a
over_front a old {n} e = take_at a (drop (length a) old) n e

pub over_long : {A : Type 0} (a old : List A) → length a ≤ length old → length (over a old) ≡ length old
over_long a old l = length-append a (drop (length a) old) ∙ omega (arith, length-drop (length a) old)

-- so many places in the one with fewer are so many in both
pub least_both : (n a b : ℕ) → n ≤ least a b → (n ≤ a) × (n ≤ b)
unfolding least
least_both n a b l = by_test (leb a b) refl l
  where
    by_test : (t : Bool) → leb a b ≡ t → n ≤ cond t a b → (n ≤ a) × (n ≤ b)
    by_test true e l = let m = leb-true a b e in (l, omega arith)
    by_test false e l = let m = leb-false a b e in (omega arith, l)

pub both_least : (n a b : ℕ) → n ≤ a → n ≤ b → n ≤ least a b
unfolding least
both_least n a b p q = by_test (leb a b)
  where
    by_test : (t : Bool) → n ≤ cond t a b
    by_test true = p
    by_test false = q

pub least_left : {a b : ℕ} → a ≤ b → a ≡ least a b
unfolding least
least_left {a} {b} l = ap (λ (t : Bool). cond t a b) (sym (le-leb a b l))

pub least_right : {a b : ℕ} → b < a → b ≡ least a b
unfolding least
least_right {a} {b} l = ap (λ (t : Bool). cond t a b) (sym (lt-leb a b l))

pub least_min : (a b : ℕ) → min a b ≡ least a b
least_min a b = by_test (leb a b) refl
  where
    by_test : (t : Bool) → leb a b ≡ t → min a b ≡ least a b
    by_test true u =
        let l = leb-true a b u in
        let e : min a b ≡ a = omega (arith, l) in
        e ∙ least_left l
    by_test false u =
        let l = leb-false a b u in
        let e : min a b ≡ b = omega (arith, l) in
        e ∙ least_right l
