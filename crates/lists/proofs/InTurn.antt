-- Lists by their places and numbers: one value more behind, what holds of each at its place, and what holds of each where it holds of those
-- before. Assumes nothing.
use mathlib.Core.Path.{◌≡◌, sym, subst}
use mathlib.Core.List.{List, [], ◌∷◌, ◌++◌}
use mathlib.Core.Logic.{◌⊎◌, inl, inr}
use Prim.Native.Nat.{ℕ, zero, suc, ◌+◌, ◌<◌}
use native.Mathlib.Nat.{le-suc_iff, le_of_suc-le-suc, not-suc-le-zero}
use native.Mathlib.Omega.{arith}
use lib.ListN.{length, get_or, get_or-append}
use lib.Seq.{get_or-append_seam}
use Rattle.lists.specs.Each.{Each, none, one}
use Rattle.lists.proofs.Over.{one_longer}

-- below n + 1 is below n, or n
pub below_or_last : (P : ℕ → Type 0) {n : ℕ} → ((j : ℕ) → j < n → P j) → P n → (j : ℕ) → j < suc n → P j
below_or_last P {n} h new j l = by_place (le-suc_iff.0 l)
  where
    by_place : (j < n) ⊎ (suc j ≡ suc n) → P j
    by_place (inl l) = h j l
    by_place (inr e) = subst P (omega arith) new

-- what holds of each place of a list and of one value more behind it
pub places_behind : {A : Type 0} (P : ℕ → A → Type 0) (d : A) (vs : List A) (v : A) → ((j : ℕ) → j < length vs → P j (get_or vs j d)) → P (length vs) v
    → (j : ℕ) → j < length (vs ++ v ∷ []) → P j (get_or (vs ++ v ∷ []) j d)
places_behind P d vs v h new j l =
    below_or_last (λ j. P j (get_or (vs ++ v ∷ []) j d)) (λ j l. subst (P j) (sym (get_or-append vs (v ∷ []) d j l)) (h j l))
    (subst (P (length vs)) (sym (get_or-append_seam vs v [] d)) new) j (omega (arith, one_longer vs v))

module _ {A : Type 0} (P : ℕ → A → Type 0) (d : A) where
  pub each_at : {v : ℕ} {l : List A} → Each P v l → (j : ℕ) → j < length l → P (v + j) (get_or l j d)
  each_at none j l = absurd (not-suc-le-zero l)
  each_at (one {v = v} {a = a} p ps) zero l = subst (λ n. P n a) (omega arith) p
  each_at (one {v = v} {more = rest} p ps) (suc j) l = subst (λ n. P n (get_or rest j d)) (omega arith) (each_at ps j (le_of_suc-le-suc l))

  pub each_from : (v : ℕ) (l : List A) → ((j : ℕ) → j < length l → P (v + j) (get_or l j d)) → Each P v l
  each_from v [] h = none
  each_from v (a ∷ rest) h =
      one {v = v} (subst (λ n. P n a) (omega arith) (h 0 (omega arith)))
      (each_from (suc v) rest (λ j l. subst (λ n. P n (get_or rest j d)) (omega arith) (h (suc j) (omega arith))))

  -- the same from number 0
  pub each_place : {l : List A} → Each P 0 l → (j : ℕ) → j < length l → P j (get_or l j d)
  each_place {l} e j k = subst (λ n. P n (get_or l j d)) (omega arith) (each_at e j k)

  pub each_placed : (l : List A) → ((j : ℕ) → j < length l → P j (get_or l j d)) → Each P 0 l
  each_placed l h = each_from 0 l (λ j k. subst (λ n. P n (get_or l j d)) (omega arith) (h j k))

module _ {A : Type 0} {P R : ℕ → A → Type 0} where
  pub each_map : ((v : ℕ) (a : A) → P v a → R v a) → {v : ℕ} {l : List A} → Each P v l → Each R v l
  each_map f none = none
  each_map f (one {v = v} {a = a} p ps) = one (f v a p) (each_map f ps)

  pub each_apply : {v : ℕ} {l : List A} → Each (λ v a. P v a → R v a) v l → Each P v l → Each R v l
  each_apply none none = none
  each_apply (one f fs) (one p ps) = one (f p) (each_apply fs ps)

-- with the bound of its numbers
pub each_bounded : {A : Type 0} {P : ℕ → A → Type 0} {v : ℕ} {l : List A} → Each P v l → Each (λ k a. (k < v + length l) × P k a) v l
each_bounded none = none
each_bounded {P = P} (one {v = v} {a = a} {more = rest} p ps) =
    one (first (length rest), p) (each_map (λ k b q. (further (length rest) q.0, q.1)) (each_bounded ps))
  where
    first : (n : ℕ) → v < v + suc n
    first n = omega arith

    further : (n : ℕ) {k : ℕ} → k < suc v + n → k < v + suc n
    further n l = omega arith

-- what holds of the numbers below v, and of each number where it holds of those before, holds of all
pub in_turn : {A : Type 0} (H : ℕ → Type 0) {v : ℕ} {l : List A} → Each (λ v a. ((j : ℕ) → j < v → H j) → H v) v l → ((j : ℕ) → j < v → H j)
    → (j : ℕ) → j < v + length l → H j
in_turn H none h j l = h j (omega arith)
in_turn H (one {v = v} f fs) h j l = in_turn H fs (below_or_last H h (f h)) j (omega arith)
