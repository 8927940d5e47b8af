-- Where what is admitted at u is admitted at every smaller t, one admitted t before a refused t+1 is the largest. Assumes nothing.
use mathlib.Core.Path.{◌≡◌, refl, sym, ◌∙◌, ap, subst}
use mathlib.Core.Logic.{◌⊎◌, inl, inr}
use Prim.Native.Nat.{ℕ, zero, suc, ◌≤◌, ◌<◌}
use native.Mathlib.Nat.{le-suc_iff, not-suc-le-zero}
use native.Mathlib.Omega.{arith}
use Rattle.refusals.specs.Answer.{value, refused}
use Rattle.refusals.specs.Places.{Where, Placed}
use Rattle.refusals.proofs.Answers.{no_value, refused_same}
use Rattle.shrinking.specs.Parts.{all_parts}
use Rattle.shrinking.specs.Explained.{nothing_to_explain, admitted_to, never_admitted, at_part, largest_below, if_refused, explained}

pub record Falls (admitted : ℕ → Placed (Unit {0})) : Type 0 where
  pub admitted_below : (t u : ℕ) → t ≤ u → admitted u ≡ value tt → admitted t ≡ value tt

module _ {admitted : ℕ → Placed (Unit {0})} (falls : Falls admitted) where
  pub refused_above : {t u : ℕ} {w : Where} → t ≤ u → admitted t ≡ refused w → (v : Where) × (admitted u ≡ refused v)
  refused_above {t} {u} {w} l e = by_answer (admitted u) refl
    where
      by_answer : (a : Placed (Unit {0})) → admitted u ≡ a → (v : Where) × (admitted u ≡ refused v)
      by_answer (refused v) k = (v, k)
      by_answer (value x) k = absurd (no_value (sym (sym (falls.admitted_below t u l k) ∙ e)))

  -- from n down, where n met this
  largest_found : (n : ℕ) {t : ℕ} {w met : Where} → t < n → admitted t ≡ value tt → admitted (suc t) ≡ refused w → admitted n ≡ refused met
      → largest_below admitted n met ≡ admitted_to t w
  largest_found zero l a r m = absurd (not-suc-le-zero l)
  largest_found (suc n) {t} {w} {met} l a r m = by_place (le-suc_iff.0 l) (λ v k e. largest_found n k a r e)
    where
      below : (v : Where) → admitted n ≡ refused v → largest_below admitted n v ≡ admitted_to t w → largest_below admitted (suc n) met ≡ admitted_to t w
      below v e rest = ap (at_part n met (λ x. largest_below admitted n x)) e ∙ rest

      by_place : (t < n) ⊎ (suc t ≡ suc n) → ((v : Where) → t < n → admitted n ≡ refused v → largest_below admitted n v ≡ admitted_to t w)
          → largest_below admitted (suc n) met ≡ admitted_to t w
      by_place (inl k) rest = let v = refused_above k r in below v.0 v.1 (rest v.0 k v.1)
      by_place (inr e) rest =
          let same : n ≡ t = omega arith in
          ap (at_part n met (λ x. largest_below admitted n x)) (subst (λ k. admitted k ≡ value tt) (sym same) a)
          ∙ ap (λ k. admitted_to k met) same ∙ ap (admitted_to t) (refused_same (sym m ∙ subst (λ k. admitted k ≡ refused w) e r))

  never_found : (n : ℕ) {w met : Where} → admitted 0 ≡ refused w → admitted n ≡ refused met → largest_below admitted n met ≡ never_admitted w
  never_found zero r m = ap never_admitted (refused_same (sym m ∙ r))
  never_found (suc n) {w} {met} r m =
      let v = refused_above {u = n} (omega arith) r in
      ap (at_part n met (λ x. largest_below admitted n x)) v.1 ∙ never_found n r v.1

  -- the whole domain is refused, since a part of it is
  refused_whole : {t : ℕ} {w : Where} → t ≤ all_parts → admitted t ≡ refused w
      → (v : Where) × (admitted all_parts ≡ refused v) × (explained admitted ≡ largest_below admitted all_parts v)
  unfolding explained
  refused_whole l r = let v = refused_above l r in (v.0, v.1, ap (if_refused (λ w. largest_below admitted all_parts w)) v.1)

  pub found : {t : ℕ} {w : Where} → t < all_parts → admitted t ≡ value tt → admitted (suc t) ≡ refused w → explained admitted ≡ admitted_to t w
  found l a r = let v = refused_whole l r in v.2 ∙ largest_found all_parts l a r v.1

  pub found_none : {w : Where} → admitted 0 ≡ refused w → explained admitted ≡ never_admitted w
  found_none r = let v = refused_whole (omega arith) r in v.2 ∙ never_found all_parts r v.1

pub found_all : (admitted : ℕ → Placed (Unit {0})) → admitted all_parts ≡ value tt → explained admitted ≡ nothing_to_explain
unfolding explained
found_all admitted a = ap (if_refused (λ w. largest_below admitted all_parts w)) a
